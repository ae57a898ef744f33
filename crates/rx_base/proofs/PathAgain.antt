-- A path's own text names the path.
use Rattle.std.proofs.Common.{◌≡◌, ℕ, ◌<◌, ◌≤◌, ◌≢◌, ◌==◌, false, List, [], ◌∷◌, ◌++◌, length, Ok, refl, ◌∙◌, ap, append_assoc, append-nil, arith}
use Rattle.std.specs.Prelude.{slice_index}
use Rattle.std.specs.List.{AllByRecursion}
use Rattle.std.proofs.lemmas.Bool.{le-ltb, ne_eqb}
use Rattle.rx_base.specs.Paths.{IsName, IsPath, longest, parts, joined, with_part, with_parts, with_text, checked, path_of, read_of}
use Rattle.rx_base.proofs.ByteLists.{some_bytes}
use Rattle.rx_base.proofs.PathLemmas.{with_part_name}
use Rattle.rx_base.proofs.PathParts.{no_zero, parts-name, parts-name_on}
use Rattle.rx_base.proofs.PathShape.{joined-lacks}

-- ---- parts of what was joined

pub parts-joined : (names : List (List ℕ)) → 0 < length names → AllByRecursion IsName names → parts (joined names) ≡ names
parts-joined [] some h = absurd (omega arith)
parts-joined (x ∷ []) some h = parts-name x h.0.no_slash
parts-joined (x ∷ y ∷ xs) some h = parts-name_on x (joined (y ∷ xs)) h.0.no_slash ∙ ap (λ (ps : List (List ℕ)). x ∷ ps) (parts-joined (y ∷ xs) (omega arith) h.1)

pub with_parts-on : (front names : List (List ℕ)) → AllByRecursion IsName names → with_parts front names ≡ Ok (front ++ names)
unfolding with_parts
with_parts-on front [] h = rw (append-nil front) refl
with_parts-on front (x ∷ xs) h =
    rw (with_part_name front x h.0.some h.0.not_here h.0.not_up) (with_parts-on (front ++ x ∷ []) xs h.1 ∙ rw (append_assoc front (x ∷ []) xs) refl)

-- a path's own text names its names
pub with_text-joined : (names : List (List ℕ)) → AllByRecursion IsName names → with_text [] (joined names) ≡ Ok names
unfolding with_text with_parts with_part
with_text-joined [] h = refl
with_text-joined (x ∷ xs) h = rw (parts-joined (x ∷ xs) (omega arith) h) (with_parts-on [] (x ∷ xs) h)

-- ---- no refusal

not_absolute : (names : List (List ℕ)) → 0 < length names → AllByRecursion IsName names → (slice_index (joined names) 0 == 47) ≡ false
not_absolute [] some h = absurd (omega arith)
not_absolute ([] ∷ xs) some h = absurd (h.0.some refl)
not_absolute ((b ∷ bs) ∷ []) some h = ne_eqb b 47 h.0.no_slash.0
not_absolute ((b ∷ bs) ∷ y ∷ xs) some h = ne_eqb b 47 h.0.no_slash.0

checked-joined : (names : List (List ℕ)) → 0 < length names → AllByRecursion IsName names → checked (joined names) ≡ Ok tt
unfolding checked
checked-joined names some h = rw (not_absolute names some h, no_zero (joined names) (joined-lacks names h)) refl

some_names : (names : List (List ℕ)) → joined names ≢ [] → 0 < length names
some_names [] ne = absurd (ne refl)
some_names (x ∷ xs) ne = omega arith

read_of-joined : (names : List (List ℕ)) → AllByRecursion IsName names → length (joined names) ≤ longest → joined names ≢ [] → read_of (joined names) ≡ Ok (joined names)
unfolding read_of path_of with_text
read_of-joined names h short ne =
    let some = some_names names ne in
    rw (some_bytes (joined names) ne, le-ltb longest (length (joined names)) short, checked-joined names some h, parts-joined names some h, with_parts-on [] names h) refl

pub read_of-path : (path : List ℕ) → IsPath path → path ≢ [] → read_of path ≡ Ok path
read_of-path path p ne = rw p.spelled (read_of-joined p.names p.each (rw p.spelled at p.short) (rw p.spelled at ne))
