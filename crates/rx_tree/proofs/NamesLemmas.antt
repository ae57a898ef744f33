-- The names of a path, and of what lies below it.
use Rattle.std.proofs.Common.{◌≡◌, ◌∙◌, ℕ, ◌==◌, Bool, true, false, nat_eq, List, [], ◌∷◌, ◌++◌, length, cond, refl, ap, sym, subst, append_assoc, arith}
use Rattle.std.specs.List.{starts_with, onto_first}
use Rattle.std.proofs.lemmas.Bool.{and_parts, eqb-true}
use Rattle.std.proofs.lemmas.Bool.Decides.{nat_tests}
use Rattle.std.proofs.lemmas.List.Splits.{join_with_byte-slice_split}
use Rattle.rx_base.specs.Paths.{is_below, joined, parts}
use Rattle.rx_tree.specs.Entries.{names_of}

-- ---- a path is its names

pub joined_parts : (text : List ℕ) → joined (parts text) ≡ text
joined_parts text = join_with_byte-slice_split 47 text

pub joined-names_of : (path : List ℕ) → joined (names_of path) ≡ path
joined-names_of [] = refl
joined-names_of (b ∷ bytes) = joined_parts (b ∷ bytes)

-- a path that isn't the root has its parts for names
pub names_of-some : (path : List ℕ) (root : Bool) → root ≡ (length path == 0) → root ≡ false → parts path ≡ names_of path
names_of-some [] root is e = absurd (cc (is, e))
names_of-some (b ∷ bytes) root is e = refl

pub names_of-same : (p q : List ℕ) → names_of p ≡ names_of q → p ≡ q
names_of-same p q e = sym (joined-names_of p) ∙ ap joined e ∙ joined-names_of q

-- ---- names below

onto_first-append : (x : ℕ) (p : List ℕ) (ps qs : List (List ℕ)) → onto_first x ((p ∷ ps) ++ qs) ≡ onto_first x (p ∷ ps) ++ qs
onto_first-append x p ps qs = refl

-- a text has a part
pub some_part : (text : List ℕ) → (p : List ℕ) × (ps : List (List ℕ)) × (parts text ≡ p ∷ ps)
some_part [] = ([], [], refl)
some_part (x ∷ xs) =
    elim (x == 47) as (λ b. (p : List ℕ) × (ps : List (List ℕ)) × (cond b ([] ∷ parts xs) (onto_first x (parts xs)) ≡ p ∷ ps)) [
      | true ↦ ([], parts xs, refl)
      | false ↦ let rest = some_part xs in (x ∷ rest.0, rest.1, ap (onto_first x) rest.2)
    ]

onto_first-on : (x : ℕ) (names others : List (List ℕ)) → (p : List ℕ) × (ps : List (List ℕ)) × (names ≡ p ∷ ps) → onto_first x (names ++ others) ≡ onto_first x names ++ others
onto_first-on x names others s = rw s.2 refl

-- a slash between two texts parts them
pub parts-slash : (above below : List ℕ) → parts (above ++ 47 ∷ below) ≡ parts above ++ parts below
parts-slash [] below = refl
parts-slash (x ∷ xs) below =
    elim (x == 47) as (λ b. cond b ([] ∷ parts (xs ++ 47 ∷ below)) (onto_first x (parts (xs ++ 47 ∷ below))) ≡ cond b ([] ∷ parts xs) (onto_first x (parts xs)) ++ parts below) [
      | true ↦ ap (λ (ps : List (List ℕ)). [] ∷ ps) (parts-slash xs below)
      | false ↦ ap (onto_first x) (parts-slash xs below) ∙ onto_first-on x (parts xs) (parts below) (some_part xs)
    ]

starts_with-rest : (bytes front : List ℕ) → starts_with nat_eq bytes front ≡ true → (rest : List ℕ) × (bytes ≡ front ++ rest)
starts_with-rest bytes [] e = (bytes, refl)
starts_with-rest [] (y ∷ ys) e = absurd (cc e)
starts_with-rest (x ∷ xs) (y ∷ ys) e =
    let both = and_parts (nat_eq y x) (starts_with nat_eq xs ys) e in
    let rest = starts_with-rest xs ys both.1 in
    let same : y ≡ x = eqb-true y x both.0 in
    (rest.0, ap (λ (z : ℕ). z ∷ xs) (sym same) ∙ ap (λ (zs : List ℕ). y ∷ zs) rest.1)

starts_with-front : (front rest : List ℕ) → starts_with nat_eq (front ++ rest) front ≡ true
starts_with-front [] [] = refl
starts_with-front [] (x ∷ xs) = refl
starts_with-front (y ∷ ys) rest =
    let same : nat_eq y y ≡ true = grind (arith, nat_tests) in
    rw (same, starts_with-front ys rest) refl

-- the names of a path below another go on from the other's
pub below-names : (p q : List ℕ) → is_below p q ≡ true → (n : List ℕ) × (ns : List (List ℕ)) × (names_of p ≡ names_of q ++ n ∷ ns)
below-names [] [] e = absurd (cc e)
below-names (b ∷ bs) [] e = some_part (b ∷ bs)
below-names p (c ∷ cs) e =
    let some : (length (c ∷ cs) == 0) ≡ false = grind (arith, nat_tests) in
    let rest = starts_with-rest p ((c ∷ cs) ++ 47 ∷ []) (rw some at e) in
    let text : p ≡ (c ∷ cs) ++ 47 ∷ rest.0 = rest.1 ∙ append_assoc (c ∷ cs) (47 ∷ []) rest.0 in
    let part = some_part rest.0 in
    (part.0, part.1, ap names_of text ∙ parts-slash (c ∷ cs) rest.0 ∙ ap (λ (ps : List (List ℕ)). parts (c ∷ cs) ++ ps) part.2)

pub joined-append : (x : List ℕ) (xs : List (List ℕ)) (n : List ℕ) (ns : List (List ℕ)) → joined ((x ∷ xs) ++ n ∷ ns) ≡ joined (x ∷ xs) ++ 47 ∷ joined (n ∷ ns)
joined-append x [] n ns = refl
joined-append x (y ∷ ys) n ns = rw (joined-append y ys n ns) (sym (append_assoc x (47 ∷ joined (y ∷ ys)) (47 ∷ joined (n ∷ ns))))

none_on : (names : List (List ℕ)) (n : List ℕ) (ns : List (List ℕ)) → [] ≡ names ++ n ∷ ns → ⊥
none_on [] n ns e = cc e
none_on (x ∷ xs) n ns e = cc e

-- and names that go on are of a path below
pub below-from_names : (p q n : List ℕ) (ns : List (List ℕ)) → names_of p ≡ names_of q ++ n ∷ ns → is_below p q ≡ true
below-from_names [] q n ns e = absurd (none_on (names_of q) n ns e)
below-from_names (b ∷ bs) [] n ns e = grind (arith, nat_tests)
below-from_names (b ∷ bs) (c ∷ cs) n ns e =
    let some : (length (c ∷ cs) == 0) ≡ false = grind (arith, nat_tests) in
    let part = some_part (c ∷ cs) in
    let on : joined (parts (c ∷ cs) ++ n ∷ ns) ≡ joined (parts (c ∷ cs)) ++ 47 ∷ joined (n ∷ ns) = rw part.2 (joined-append part.0 part.1 n ns) in
    let text : b ∷ bs ≡ (c ∷ cs) ++ 47 ∷ joined (n ∷ ns) =
    sym (joined_parts (b ∷ bs)) ∙ ap joined e ∙ on ∙ ap (λ (t : List ℕ). t ++ 47 ∷ joined (n ∷ ns)) (joined_parts (c ∷ cs)) in
    let front : (c ∷ cs) ++ 47 ∷ joined (n ∷ ns) ≡ ((c ∷ cs) ++ 47 ∷ []) ++ joined (n ∷ ns) = sym (append_assoc (c ∷ cs) (47 ∷ []) (joined (n ∷ ns))) in
    rw some (subst (λ (t : List ℕ). starts_with nat_eq t ((c ∷ cs) ++ 47 ∷ []) ≡ true) (sym (text ∙ front)) (starts_with-front ((c ∷ cs) ++ 47 ∷ []) (joined (n ∷ ns))))
