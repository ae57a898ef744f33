-- The way from a directory to a path.
use Rattle.std.proofs.Common.{◌≡◌, ◌<◌, true, false, ℕ, ◌+◌, List, [], ◌∷◌, ◌++◌, add-one, append_assoc, codes, drop, length, refl}
use Rattle.std.specs.Borrow.{Bor}
use Rattle.std.specs.List.{flat_map}
use Rattle.std.proofs.Math.Seq.{drop-cons}
use Rattle.rx_base.specs.Texts.{texts}
use Rattle.rx_wrap.specs.RelativePaths.{begin_alike, down, up, way}

-- both begin with one name
pub way_alike : (directory path : List (Bor (List ℕ))) → begin_alike (texts directory) (texts path) ≡ true → way (texts (drop 1 directory)) (texts (drop 1 path)) ≡ way (texts directory) (texts path)
way_alike [] path e = absurd (cc e)
way_alike (name ∷ names) [] e = absurd (cc e)
way_alike (name ∷ names) (other ∷ others) e = rw e refl

-- they don't
pub way_apart : (directory path : List (Bor (List ℕ))) → begin_alike (texts directory) (texts path) ≡ false → up (texts directory) ++ down (texts path) ≡ way (texts directory) (texts path)
way_apart [] path e = refl
way_apart (name ∷ names) [] e = refl
way_apart (name ∷ names) (other ∷ others) e = rw e refl

-- one more step up
pub up_more : (text text' : List ℕ) (names : List (Bor (List ℕ))) (i : ℕ) (d : Bor (List ℕ)) → i < length names → text' ≡ text ++ codes "/.."
    → text' ++ flat_map (λ (name : List ℕ). codes "/..") (texts (drop (i + 1) names)) ≡ text ++ flat_map (λ (name : List ℕ). codes "/..") (texts (drop i names))
up_more text text' names i d lt is = rw (is, add-one, drop-cons names i d lt) (append_assoc text (codes "/..") _)
