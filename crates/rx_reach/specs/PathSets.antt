-- Sets of paths, as lists.
use Rattle.std.specs.Prelude.{◌≡◌, ◌↔◌, ◌⊎◌, ℕ, List, Contains}

-- the new list has the path, and besides what the old one had
abbrev pub Adds : List (List ℕ) → List (List ℕ) → List ℕ → Type 0
Adds old new path = (other : List ℕ) → Contains new other ↔ ((other ≡ path) ⊎ Contains old other)
