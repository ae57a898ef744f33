-- The connections of a client: which were made, how they were used, and that each came back.
use Rattle.std.specs.Prelude.{◌≡◌, ℕ, List, ◌++◌, ◌∷◌, [], map, Option, replicate}
use Rattle.rx_wrap.specs.declared.addresses.Address.{Address}
use Rattle.rx_client.specs.StillTold.{StillTold}
use Rattle.rx_client.specs.declared.outside.Connect as connect_of

-- What an object that connects tells of its connections, each an input and an output: those to come, those that came back, and the
-- addresses that were called.
pub record Connections (I O : Type 0) : Type 0 where
  pub coming : Option (List (I × O))
  pub back : Option (List (I × O))
  pub called : Option (List Address)

abbrev pub connections : {C I O : Type 0} → connect_of.Ghosts C I O → C → Connections I O
connections m connect = record {
  coming = m.coming connect;
  back = m.back connect;
  called = m.called connect;
}

-- a connection as it was made and as it came back
pub record Used (I O : Type 0) : Type 0 where
  pub before : I × O
  pub after : I × O

abbrev pub befores : {I O : Type 0} → List (Used I O) → List (I × O)
befores {I} {O} used = map (λ (u : Used I O). u.before) used

abbrev pub afters : {I O : Type 0} → List (Used I O) → List (I × O)
afters {I} {O} used = map (λ (u : Used I O). u.after) used

-- The connections that came first were used, each came back, and this address was called so often and no other.
pub record Uses {I O : Type 0} (old new : Connections I O) (address : Address) (calls : ℕ) (used : List (Used I O)) : Type 0 where
  pub given : StillTold old.coming new.coming (λ x y. x ≡ befores used ++ y)
  pub handed_back : StillTold old.back new.back (λ x y. y ≡ x ++ afters used)
  pub called : StillTold old.called new.called (λ x y. y ≡ x ++ replicate calls address)

-- nothing was called or used
pub record UsesNone {I O : Type 0} (old new : Connections I O) : Type 0 where
  pub coming : StillTold old.coming new.coming (λ x y. x ≡ y)
  pub back : StillTold old.back new.back (λ x y. y ≡ x)
  pub called : StillTold old.called new.called (λ x y. y ≡ x)

-- at most one connection was made, and nothing was done on it
abbrev pub AreUntouched : {I O : Type 0} → List (Used I O) → Type 0
AreUntouched [] = Unit {0}
AreUntouched (u ∷ []) = u.after ≡ u.before
AreUntouched (u ∷ v ∷ more) = ⊥

pub record Touches {I O : Type 0} (old new : Connections I O) (address : Address) : Type 0 where
  pub used : List (Used I O)
  pub uses : Uses old new address 1 used
  pub untouched : AreUntouched used
