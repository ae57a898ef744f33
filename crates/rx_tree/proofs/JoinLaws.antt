-- A name on from a path.
use Rattle.std.proofs.Common.{◌≡◌, ℕ, ◌≤◌, List, [], ◌∷◌, ◌++◌, length, Ok, length-append, refl, ap, arith}
use Rattle.std.specs.List.{AllByRecursion}
use Rattle.std.proofs.lemmas.Bool.{le-ltb}
use Rattle.rx_base.specs.Results.{◌>>=◌}
use Rattle.rx_base.specs.Paths.{IsName, checked, join_of, joined, longest, path_of, read_of, with_text}
use Rattle.rx_base.specs.declared.digests.Digest.{Digest}
use Rattle.rx_base.proofs.PathAgain.{parts-joined, read_of-path, with_parts-on, with_text-joined}
use Rattle.rx_base.proofs.PathLemmas.{joined_push}
use Rattle.rx_base.proofs.ResultLemmas.{bind_ok}
use Rattle.rx_base.proofs.ByteLists.{some_bytes}
use Rattle.rx_tree.specs.Walks.{child_of}

-- a name is refused by no test
name_checked : (n : List ℕ) → IsName n → length n ≤ longest → checked n ≡ Ok tt
unfolding read_of path_of
name_checked n one le =
    let again = read_of-path n (record { names = n ∷ []; each = (one, tt); spelled = refl; short = le }) one.some in
    let passed = rw (some_bytes n one.some, le-ltb longest (length n) le) at again in
    let first = bind_ok (checked n) (λ _. with_text [] n >>= λ names. Ok (joined names)) n passed in
    first.1

-- and one more
name_on : (names : List (List ℕ)) (n : List ℕ) → IsName n → with_text names n ≡ Ok (names ++ n ∷ [])
unfolding with_text
name_on names n one = rw (parts-joined (n ∷ []) (omega arith) (one, tt)) (with_parts-on names (n ∷ []) (one, tt))

length-last : (names : List (List ℕ)) (n : List ℕ) → length n ≤ length (joined (names ++ n ∷ []))
length-last [] n = omega arith
length-last (x ∷ xs) n =
    let whole = ap (λ (t : List ℕ). length t) (joined_push (x ∷ xs) n (omega arith)) in
    let size = length-append (joined (x ∷ xs)) (47 ∷ n) in
    omega arith

pub join_again : (names : List (List ℕ)) (n : List ℕ) → AllByRecursion IsName names → IsName n → length (joined (names ++ n ∷ [])) ≤ longest → join_of (joined names) n ≡ Ok (joined (names ++ n ∷ []))
unfolding join_of
join_again names n each one le =
    let last = length-last names n in
    rw (some_bytes n one.some, name_checked n one (omega arith), with_text-joined names each, name_on names n one, le-ltb longest (length (joined (names ++ n ∷ []))) le) refl

pub child_again : (digest : Digest) (names : List (List ℕ)) (n : List ℕ) → AllByRecursion IsName names → IsName n → length (joined (names ++ n ∷ [])) ≤ longest → child_of digest (joined names) n ≡ Ok (joined (names ++ n ∷ []))
unfolding child_of
child_again digest names n each one le = rw (join_again names n each one le) refl
