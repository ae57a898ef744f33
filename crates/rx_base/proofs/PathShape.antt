-- What is read is a path.
use Rattle.std.proofs.Common.{◌≡◌, ℕ, zero, suc, ◌+◌, ◌-◌, ◌<◌, ◌≤◌, ◌≢◌, ◌==◌, inl, inr, ◌||◌, cond, List, [], ◌∷◌, ◌++◌, length, take, Result, Ok, Err, refl, arith, subst, lit<}
use Rattle.std.specs.Prelude.{codes}
use Rattle.std.specs.Str.{bytes_eq}
use Rattle.std.specs.List.{onto_first, AllByRecursion}
use Rattle.std.proofs.lemmas.Bool.{cond_both, or_parts}
use Rattle.std.proofs.lemmas.List.{length-append}
use Rattle.rx_base.specs.declared.path_fault.PathFault.{PathFault}
use Rattle.rx_base.specs.declared.path_fault.PathFault.TheVariants.{AboveRoot}
use Rattle.rx_base.specs.Paths.{Lacks, IsName, IsPath, parts, joined, with_part, with_parts, without_last, with_text, checked}
use Rattle.rx_base.proofs.ByteLists.{other_bytes}
use Rattle.rx_base.proofs.Conditions.{cond-cases}
use Rattle.rx_base.proofs.Lists.{All-push, All-take}
use Rattle.rx_base.proofs.PathParts.{Lacks-from_checked, parts-lack, parts-no_slash}
use Rattle.rx_base.proofs.ResultLemmas.{bind_ok}

-- ---- steps

abbrev done : List (List ℕ) → Result (List (List ℕ)) PathFault
done x = Ok x

ok_is : (x y : List (List ℕ)) → done x ≡ done y → x ≡ y
ok_is x y e = cc

with_part-names : (names next : List (List ℕ)) (part : List ℕ) → AllByRecursion IsName names → Lacks 47 part → Lacks 0 part → with_part names part ≡ Ok next → AllByRecursion IsName next
unfolding with_part
with_part-names names next part h no_slash no_zero e =
    elim (cond-cases (bytes_eq part [] || bytes_eq part (codes ".")) (Ok names) (cond (bytes_eq part (codes "..")) (without_last names) (Ok (names ++ part ∷ []))) (Ok next) e) [
      | inl p ↦ subst (λ (ns : List (List ℕ)). AllByRecursion IsName ns) (ok_is names next p.1) h
      | inr p ↦
          let here = or_parts (bytes_eq part []) (bytes_eq part (codes ".")) p.0 in
          elim (cond-cases (bytes_eq part (codes "..")) (without_last names) (Ok (names ++ part ∷ [])) (Ok next) p.1) [
            | inl q ↦
                elim (cond-cases (length names == 0) (Err AboveRoot) (Ok (take (length names - 1) names)) (Ok next) q.1) [
                  | inl r ↦ absurd (cc (r.1))
                  | inr r ↦ subst (λ (ns : List (List ℕ)). AllByRecursion IsName ns) (ok_is (take (length names - 1) names) next r.1) (All-take IsName (length names - 1) names h)
                ]
            | inr q ↦
                subst (λ (ns : List (List ℕ)). AllByRecursion IsName ns) (ok_is (names ++ part ∷ []) next q.1)
                (All-push IsName names part h (record { some = other_bytes part [] here.0; not_here = other_bytes part (codes ".") here.1; not_up = other_bytes part (codes "..") q.0; no_slash = no_slash; no_zero = no_zero }))
          ]
    ]

with_parts-names : (names all : List (List ℕ)) (ps : List (List ℕ)) → AllByRecursion IsName names → AllByRecursion (Lacks 47) ps → AllByRecursion (Lacks 0) ps → with_parts names ps ≡ Ok all → AllByRecursion IsName all
unfolding with_parts
with_parts-names names all [] h s z e = subst (λ (ns : List (List ℕ)). AllByRecursion IsName ns) (ok_is names all e) h
with_parts-names names all (p ∷ ps) h s z e =
    let r = bind_ok (with_part names p) (λ next. with_parts next ps) all e in
    with_parts-names r.0 all ps (with_part-names names r.0 p h s.0 z.0 r.1) s.1 z.1 r.2

-- the names of a text without zero bytes
pub with_text-names : (names all : List (List ℕ)) (text : List ℕ) → AllByRecursion IsName names → Lacks 0 text → with_text names text ≡ Ok all → AllByRecursion IsName all
unfolding with_text
with_text-names names all text h z e = with_parts-names names all (parts text) h (parts-no_slash text) (parts-lack 0 text z) e

-- ---- lengths

abbrev pub weight : List (List ℕ) → ℕ
weight [] = 0
weight (x ∷ xs) = suc (length x) + weight xs

pub length-joined : (names : List (List ℕ)) → 0 < length names → suc (length (joined names)) ≡ weight names
length-joined [] h = absurd (omega arith)
length-joined (x ∷ []) h = omega arith
length-joined (x ∷ y ∷ xs) h = let ih = length-joined (y ∷ xs) (omega arith) in omega (arith, length-append x (47 ∷ joined (y ∷ xs)))

weight-onto_first : (x : ℕ) (ps : List (List ℕ)) → 0 < weight ps → weight (onto_first x ps) ≡ suc (weight ps)
weight-onto_first x [] h = absurd (omega arith)
weight-onto_first x (p ∷ ps) h = omega arith

weight-parts : (text : List ℕ) → weight (parts text) ≡ suc (length text)
weight-parts [] = refl
weight-parts (x ∷ xs) =
    let ih = weight-parts xs in
    let first = weight-onto_first x (parts xs) (omega arith) in
    cond_both (x == 47) ([] ∷ parts xs) (onto_first x (parts xs)) (λ ps. weight ps ≡ suc (suc (length xs))) (λ e. omega arith) (λ e. omega arith)

pub weight-take : (n : ℕ) (names : List (List ℕ)) → weight (take n names) ≤ weight names
weight-take zero names = omega arith
weight-take (suc n) [] = omega arith
weight-take (suc n) (x ∷ xs) = let ih = weight-take n xs in omega arith

weight-push : (names : List (List ℕ)) (name : List ℕ) → weight (names ++ name ∷ []) ≡ weight names + suc (length name)
weight-push [] name = omega arith
weight-push (x ∷ xs) name = let ih = weight-push xs name in omega arith

with_part-weight : (names next : List (List ℕ)) (part : List ℕ) → with_part names part ≡ Ok next → weight next ≤ weight names + suc (length part)
unfolding with_part
with_part-weight names next part e =
    elim (cond-cases (bytes_eq part [] || bytes_eq part (codes ".")) (Ok names) (cond (bytes_eq part (codes "..")) (without_last names) (Ok (names ++ part ∷ []))) (Ok next) e) [
      | inl p ↦ let same = ok_is names next p.1 in rw (← same) (omega arith)
      | inr p ↦
          elim (cond-cases (bytes_eq part (codes "..")) (without_last names) (Ok (names ++ part ∷ [])) (Ok next) p.1) [
            | inl q ↦
                elim (cond-cases (length names == 0) (Err AboveRoot) (Ok (take (length names - 1) names)) (Ok next) q.1) [
                  | inl r ↦ absurd (cc (r.1))
                  | inr r ↦ let same = ok_is (take (length names - 1) names) next r.1 in rw (← same) (omega (arith, weight-take (length names - 1) names))
                ]
            | inr q ↦ let same = ok_is (names ++ part ∷ []) next q.1 in rw (← same) (omega (arith, weight-push names part))
          ]
    ]

with_parts-weight : (names all ps : List (List ℕ)) → with_parts names ps ≡ Ok all → weight all ≤ weight names + weight ps
unfolding with_parts
with_parts-weight names all [] e = let same = ok_is names all e in rw (← same) (omega arith)
with_parts-weight names all (p ∷ ps) e =
    let r = bind_ok (with_part names p) (λ next. with_parts next ps) all e in
    let ih = with_parts-weight r.0 all ps r.2 in
    let one = with_part-weight names r.0 p r.1 in
    omega arith

-- a path is no longer than its text
with_text-short : (text : List ℕ) (all : List (List ℕ)) → with_text [] text ≡ Ok all → length (joined all) ≤ length text
unfolding with_text
with_text-short text [] e = omega arith
with_text-short text (x ∷ xs) e =
    let w = with_parts-weight [] (x ∷ xs) (parts text) e in
    omega (arith, weight-parts text, length-joined (x ∷ xs) (omega arith))

-- ---- paths

-- what a text names
pub IsPath-read : (text : List ℕ) (all : List (List ℕ)) → length text ≤ 4096 → checked text ≡ Ok tt → with_text [] text ≡ Ok all → IsPath (joined all)
IsPath-read text all le c w =
    record { names = all; each = with_text-names [] all text tt (Lacks-from_checked text c) w; spelled = refl; short = let s = with_text-short text all w in omega arith }

some_byte : (n : ℕ) → 0 < n → n ≢ 0
some_byte n lt e = omega arith

lacks-append : (c : ℕ) (xs ys : List ℕ) → Lacks c xs → Lacks c ys → Lacks c (xs ++ ys)
lacks-append c [] ys h k = k
lacks-append c (x ∷ xs) ys h k = (h.0, lacks-append c xs ys h.1 k)

pub joined-lacks : (names : List (List ℕ)) → AllByRecursion IsName names → Lacks 0 (joined names)
joined-lacks [] h = tt
joined-lacks (x ∷ []) h = h.0.no_zero
joined-lacks (x ∷ y ∷ xs) h = lacks-append 0 x (47 ∷ joined (y ∷ xs)) h.0.no_zero (some_byte 47 (lit< tt), joined-lacks (y ∷ xs) h.1)

-- what a text names on from a path
pub IsPath-join : (base text : List ℕ) (names all : List (List ℕ)) → IsPath base → with_text [] base ≡ Ok names → checked text ≡ Ok tt → with_text names text ≡ Ok all → length (joined all) ≤ 4096 → IsPath (joined all)
IsPath-join base text names all p b c w le =
    let zero_free : Lacks 0 base = rw p.spelled (joined-lacks p.names p.each) in
    let first = with_text-names [] names base tt zero_free b in
    record { names = all; each = with_text-names names all text first (Lacks-from_checked text c) w; spelled = refl; short = le }

pub IsPath-same : (a b : List ℕ) → a ≡ b → IsPath a → IsPath b
IsPath-same a b e p = subst (λ (t : List ℕ). IsPath t) e p
