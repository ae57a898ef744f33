-- Paths that go on from others.
use Rattle.std.proofs.Common.{◌≡◌, ℕ, Bool, true, false, ◌&&◌, nat_eq, List, [], ◌∷◌, ◌++◌, length, drop, refl, ◌∙◌, ap}
use Rattle.std.specs.List.{starts_with}

and_assoc : (a b c : Bool) → (a && (b && c)) ≡ ((a && b) && c)
and_assoc true b c = refl
and_assoc false b c = refl

-- bytes begin with a front and one more byte where the rest behind the front begins with that byte
pub starts_with-more : (bytes front : List ℕ) (c : ℕ) → starts_with nat_eq bytes (front ++ c ∷ []) ≡ (starts_with nat_eq bytes front && starts_with nat_eq (drop (length front) bytes) (c ∷ []))
starts_with-more [] [] c = refl
starts_with-more (x ∷ xs) [] c = refl
starts_with-more [] (y ∷ ys) c = refl
starts_with-more (x ∷ xs) (y ∷ ys) c =
    ap (λ (b : Bool). nat_eq y x && b) (starts_with-more xs ys c)
    ∙ and_assoc (nat_eq y x) (starts_with nat_eq xs ys) (starts_with nat_eq (drop (length ys) xs) (c ∷ []))
