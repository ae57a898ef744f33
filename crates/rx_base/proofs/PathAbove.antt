-- The paths above a path.
use Rattle.std.proofs.Common.{◌≡◌, ℕ, zero, suc, ◌+◌, ◌-◌, ◌<◌, ◌≤◌, List, [], ◌∷◌, ◌++◌, length, get_or, map, take, refl, sym, ◌∙◌, ap, arith, take_all}
use Rattle.std.specs.Borrow.{Bor}
use Rattle.std.specs.List.{AllByRecursion}
use Rattle.std.proofs.lemmas.List.{length-map, map_push, take-map, take_more, map-append}
use Rattle.rx_base.specs.Paths.{IsName, IsPath, longest, parts, joined, fronts, prefixes_of}
use Rattle.rx_base.specs.Texts.{texts}
use Rattle.rx_base.proofs.PathAgain.{parts-joined}
use Rattle.rx_base.proofs.Lists.{All-take}
use Rattle.rx_base.proofs.PathShape.{length-joined, weight-take}

-- ---- the parts, one after the other

pub texts-more : (found : List (Bor (List ℕ))) (part : Bor (List ℕ)) (all : List (List ℕ)) (i : ℕ) → texts found ≡ take i all → (i < length all) × (part.now ≡ get_or all i part.now)
    → (new : List (Bor (List ℕ))) → new ≡ found ++ part ∷ [] → texts new ≡ take (i + 1) all
texts-more found part all i was t new is = rw (is, map_push, was) (sym (take_more all i part.now t.0 ∙ ap (λ (x : List ℕ). take i all ++ x ∷ []) (sym t.1)))

pub texts-all : (all : List (List ℕ)) (i : ℕ) → length all ≤ i → take i all ≡ all
texts-all all i le = take_all i all le

-- ---- the first names of a path are a path

abbrev no_names : List (List ℕ)
no_names = []

take-none : (n : ℕ) → take n no_names ≡ no_names
take-none zero = refl
take-none (suc n) = refl

length-joined-take : (n : ℕ) (names : List (List ℕ)) → length (joined (take n names)) ≤ length (joined names)
length-joined-take zero names = omega arith
length-joined-take (suc n) [] = omega arith
length-joined-take (suc n) (x ∷ xs) =
    let front = length-joined (x ∷ take n xs) (omega arith) in
    let all = length-joined (x ∷ xs) (omega arith) in
    omega (arith, weight-take n xs)

root_is : IsPath []
root_is = record { names = []; each = tt; spelled = refl; short = omega arith }

IsPath-named : (names : List (List ℕ)) (n : ℕ) → AllByRecursion IsName names → length (joined names) ≤ longest → IsPath (joined (take n (parts (joined names))))
IsPath-named [] zero h le = root_is
IsPath-named [] (suc n) h le = rw (take-none n) root_is
IsPath-named (x ∷ xs) n h le =
    rw (parts-joined (x ∷ xs) (omega arith) h)
    (record { names = take n (x ∷ xs); each = All-take IsName n (x ∷ xs) h; spelled = refl; short = let s = length-joined-take n (x ∷ xs) in omega arith })

pub IsPath-front : (path : List ℕ) (n : ℕ) → IsPath path → IsPath (joined (take n (parts path)))
IsPath-front path n p = rw p.spelled (IsPath-named p.names n p.each (rw p.spelled at p.short))

-- as a call borrows the names
pub IsPath-texts : (path : List ℕ) (names front : List (Bor (List ℕ))) (n : ℕ) → IsPath path → texts names ≡ parts path → front ≡ take n names → IsPath (joined (texts front))
IsPath-texts path names front n p all is = rw (is, ← take-map, all) (IsPath-front path n p)

pub texts-front : (path : List ℕ) (names front : List (Bor (List ℕ))) (n : ℕ) → texts names ≡ parts path → front ≡ take n names → texts front ≡ take n (parts path)
texts-front path names front n all is = rw (is, ← take-map, all) refl

-- ---- the fronts of a list

fronts-more : {A : Type 0} (xs : List A) (n : ℕ) → suc n < length xs → take (suc n) (fronts xs) ≡ take n (fronts xs) ++ take (suc n) xs ∷ []
fronts-more [] n lt = absurd (omega arith)
fronts-more (x ∷ []) n lt = absurd (omega arith)
fronts-more (x ∷ y ∷ xs) zero lt = refl
fronts-more {A} (x ∷ y ∷ xs) (suc n) lt =
    let rest = fronts-more (y ∷ xs) n (omega arith) in
    ap (λ (ps : List (List A)). (x ∷ []) ∷ ps)
    (take-map (λ (front : List A). x ∷ front) (suc n) (fronts (y ∷ xs))
    ∙ ap (λ (ps : List (List A)). map (λ (front : List A). x ∷ front) ps) rest
    ∙ map-append (λ (front : List A). x ∷ front) (take n (fronts (y ∷ xs))) (take (suc n) (y ∷ xs) ∷ [])
    ∙ ap (λ (ps : List (List A)). ps ++ (x ∷ take (suc n) (y ∷ xs)) ∷ []) (sym (take-map (λ (front : List A). x ∷ front) n (fronts (y ∷ xs)))))

length-fronts : {A : Type 0} (xs : List A) → length (fronts xs) ≡ length xs - 1
length-fronts [] = refl
length-fronts (x ∷ []) = refl
length-fronts {A} (x ∷ y ∷ xs) =
    let rest = length-fronts (y ∷ xs) in
    let same = length-map (fronts (y ∷ xs)) (λ (front : List A). x ∷ front) in
    omega arith

pub prefixes_of-more : (path : List ℕ) (n : ℕ) → 0 < n → n < length (parts path) → take n (prefixes_of path) ≡ take (n - 1) (prefixes_of path) ++ joined (take n (parts path)) ∷ []
prefixes_of-more path zero some lt = absurd (omega arith)
prefixes_of-more path (suc n) some lt =
    let same : suc n - 1 ≡ n = omega arith in
    rw (same, take-map, take-map, fronts-more (parts path) n lt, map-append) refl

pub prefixes_of-all : (path : List ℕ) (n : ℕ) → length (parts path) ≤ n + 1 → take n (prefixes_of path) ≡ prefixes_of path
prefixes_of-all path n le =
    let len = length-fronts (parts path) in
    let same = length-map (fronts (parts path)) joined in
    take_all n (prefixes_of path) (omega arith)

-- ---- as the loop goes

length-texts : (path : List ℕ) (names : List (Bor (List ℕ))) → texts names ≡ parts path → length (parts path) ≡ length names
length-texts path names all = rw (← all) (length-map names (λ (name : Bor (List ℕ)). name.now))

pub next_prefix : (path : List ℕ) (names front : List (Bor (List ℕ))) (n : ℕ) (old new : List (List ℕ)) (prefix : List ℕ) → texts names ≡ parts path → front ≡ take n names
    → 1 ≤ n → n < length names → old ≡ take (n - 1) (prefixes_of path) → prefix ≡ joined (texts front) → new ≡ old ++ prefix ∷ [] → new ≡ take (n + 1 - 1) (prefixes_of path)
next_prefix path names front n old new prefix all is some lt was named pushed =
    let same : n + 1 - 1 ≡ n = omega arith in
    let len = length-texts path names all in
    rw (pushed, same, was, named, texts-front path names front n all is) (sym (prefixes_of-more path n some (omega arith)))

pub all_prefixes : (path : List ℕ) (names : List (Bor (List ℕ))) (n : ℕ) (found : List (List ℕ)) → texts names ≡ parts path → length names ≤ n → 1 ≤ n
    → found ≡ take (n - 1) (prefixes_of path) → found ≡ prefixes_of path
all_prefixes path names n found all le some was =
    let len = length-texts path names all in
    was ∙ prefixes_of-all path (n - 1) (omega arith)
