-- Commands that were run in place.
use Rattle.std.specs.Prelude.{◌≡◌, ℕ, List, [], ◌∷◌, ◌++◌, Option}
use Rattle.rx_client.specs.declared.ran.Ran.{Ran}
use Rattle.rx_client.specs.StillTold.{StillTold}

-- the program and its arguments, the directory where it ran, and its end
pub record Run : Type 0 where
  pub words : List (List ℕ)
  pub directory : List ℕ
  pub ended : Ran

-- all that were run, in order, where told
abbrev pub Runs : Type 0
Runs = Option (List Run)

-- one command was run, and no other
abbrev pub RunsOnce : Run → Runs → Runs → Type 0
RunsOnce run old new = StillTold old new (λ x y. y ≡ x ++ run ∷ [])

-- none was run
abbrev pub RunsNone : Runs → Runs → Type 0
RunsNone old new = StillTold old new (λ x y. y ≡ x)
