-- The desks that a front gives.
use Rattle.std.specs.Prelude.{◌≡◌, ℕ, ◌+◌, List, [], ◌∷◌, ◌++◌, Option, None, Some, IfSome, slice_get}

-- the first of those to come, and none only where there is none
abbrev pub GivesNext : {D : Type 0} → Option (List D) → Option (List D) → Option D → Type 0
GivesNext None new desk = Unit {0}
GivesNext (Some old) None desk = ⊥
GivesNext (Some old) (Some new) None = (old ≡ []) × (new ≡ [])
GivesNext (Some old) (Some new) (Some desk) = old ≡ desk ∷ new

-- these desks left, in order
abbrev pub GivesAll : {D : Type 0} → Option (List D) → Option (List D) → List D → Type 0
GivesAll None new desks = Unit {0}
GivesAll (Some old) None desks = ⊥
GivesAll (Some old) (Some new) desks = old ≡ desks ++ new

-- Of a front that had given so many desks before a run, and was to give these, this is the desk with this number of the run: the one at that place
-- of the list, where the front told one, and one that a front of the kind gives there.
pub record IsGiven {D : Type 0} (coming : Option (List D)) (gives : ℕ → D → Type 0) (before number : ℕ) (desk : D) : Type 0 where
  pub place : ℕ
  pub number_is : number ≡ place + 1
  pub told : IfSome coming (λ desks. slice_get desks place ≡ Some desk)
  pub kind : gives (before + number) desk
