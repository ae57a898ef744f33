-- What reporters were told.
use Rattle.std.specs.Prelude.{◌≡◌, ◌⊎◌, List, [], ◌∷◌, ◌++◌, Option, Some, IfSome}
use Rattle.rx_report.specs.declared.notes.Note.{Note}

-- what one has seen, where it tells it, has grown by these notes
abbrev pub HasSeen : Option (List Note) → Option (List Note) → List Note → Type 0
HasSeen old new told = IfSome old (λ before. new ≡ Some (before ++ told))

-- Of the reporters each was told all of these notes in their order and stands where it stood, or is gone.
abbrev pub AreTold : {B : Type 0} → (B → Option (List Note)) → List Note → List B → List B → Type 0
AreTold seen told [] new = new ≡ []
AreTold {B} seen told (b ∷ bs) new =
    AreTold seen told bs new
    ⊎ ((c : B) × (rest : List B) × (new ≡ c ∷ rest) × HasSeen (seen b) (seen c) told × AreTold seen told bs rest)
