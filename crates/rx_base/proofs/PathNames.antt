-- Texts whose parts are names, and what they name on from a path.
use Rattle.std.proofs.Common.{◌≡◌, ◌≢◌, ◌==◌, ℕ, ◌+◌, ◌<◌, ◌≤◌, List, [], ◌∷◌, ◌++◌, length, take, get_or, nat_lt, cond, Ok, Err, refl, sym, ◌∙◌, ap, subst, append_assoc, arith}
use Rattle.std.specs.List.{AllByRecursion}
use Rattle.std.proofs.lemmas.Bool.{le-ltb, lt-ltb}
use Rattle.std.proofs.lemmas.List.{take_more}
use Rattle.std.proofs.lemmas.List.Elements.{All-from_recursion}
use Rattle.std.proofs.lemmas.List.Splits.{join_with_byte-slice_split, length-slice_split}
use Rattle.rx_base.specs.declared.path_fault.PathFault.TheVariants.{TooLong}
use Rattle.rx_base.specs.Paths.{IsName, IsPath, Lacks, checked, join_of, joined, longest, parts, text_behind, with_text}
use Rattle.rx_base.proofs.ByteLists.{some_bytes}
use Rattle.rx_base.proofs.Lists.{All-append, All-push}
use Rattle.rx_base.proofs.PathAgain.{with_parts-on, with_text-joined}

-- ---- part by part, as the loop goes

pub part-lacks : (c : ℕ) (all : List (List ℕ)) (i : ℕ) (part : List ℕ) → (i < length all) × (part ≡ get_or all i part) → AllByRecursion (Lacks c) all → Lacks c part
part-lacks c all i part t h = subst (λ (text : List ℕ). Lacks c text) (sym t.1) (All-from_recursion (Lacks c) all h i part t.0)

pub names-more : (all : List (List ℕ)) (i : ℕ) (part : List ℕ) → (i < length all) × (part ≡ get_or all i part) → AllByRecursion IsName (take i all) → IsName part
    → AllByRecursion IsName (take (i + 1) all)
names-more all i part t h is =
    subst (λ (names : List (List ℕ)). AllByRecursion IsName names) (sym (take_more all i part t.0 ∙ ap (λ (name : List ℕ). take i all ++ name ∷ []) (sym t.1)))
    (All-push IsName (take i all) part h is)

-- ---- names behind names

joined-append : (x : List ℕ) (xs : List (List ℕ)) (y : List ℕ) (ys : List (List ℕ)) → joined ((x ∷ xs) ++ y ∷ ys) ≡ joined (x ∷ xs) ++ 47 ∷ joined (y ∷ ys)
joined-append x [] y ys = refl
joined-append x (z ∷ zs) y ys = rw (joined-append z zs y ys) (sym (append_assoc x (47 ∷ joined (z ∷ zs)) (47 ∷ joined (y ∷ ys))))

some_joined : (x : List ℕ) (xs : List (List ℕ)) → x ≢ [] → joined (x ∷ xs) ≢ []
some_joined [] xs ne e = ne refl
some_joined (b ∷ bs) [] ne e = absurd (cc e)
some_joined (b ∷ bs) (y ∷ ys) ne e = absurd (cc e)

joined-behind : (names others : List (List ℕ)) → AllByRecursion IsName names → 0 < length others → joined (names ++ others) ≡ text_behind (joined names) (joined others)
joined-behind names [] h some = absurd (omega arith)
joined-behind [] (y ∷ ys) h some = refl
joined-behind (x ∷ xs) (y ∷ ys) h some = rw (some_bytes (joined (x ∷ xs)) (some_joined x xs h.0.some)) (joined-append x xs y ys)

some_parts : (text : List ℕ) → 0 < length (parts text)
some_parts text = omega (arith, length-slice_split (λ b. b == 47) text)

joined-on : (names : List (List ℕ)) (text : List ℕ) → AllByRecursion IsName names → joined (names ++ parts text) ≡ text_behind (joined names) text
joined-on names text h =
    joined-behind names (parts text) h (some_parts text) ∙ ap (λ (rest : List ℕ). text_behind (joined names) rest) (join_with_byte-slice_split 47 text)

with_text-on : (names : List (List ℕ)) (text : List ℕ) → AllByRecursion IsName (parts text) → with_text names text ≡ Ok (names ++ parts text)
unfolding with_text
with_text-on names text h = with_parts-on names (parts text) h

-- what a text of names names on from a path
join_of-names : (path text : List ℕ) → IsPath path → text ≢ [] → checked text ≡ Ok tt → AllByRecursion IsName (parts text)
    → join_of path text ≡ cond (nat_lt longest (length (text_behind path text))) (Err TooLong) (Ok (text_behind path text))
unfolding join_of
join_of-names path text p some c h =
    rw (some_bytes text some, c, p.spelled, with_text-joined p.names p.each, with_text-on p.names text h, joined-on p.names text p.each) refl

pub joins_short : (path text all : List ℕ) → IsPath path → text ≢ [] → checked text ≡ Ok tt → AllByRecursion IsName (parts text) → all ≡ text_behind path text → length all ≤ longest
    → join_of path text ≡ Ok all
joins_short path text all p some c h is short = join_of-names path text p some c h ∙ rw (← is, le-ltb longest (length all) short) refl

pub joins_long : (path text all : List ℕ) → IsPath path → text ≢ [] → checked text ≡ Ok tt → AllByRecursion IsName (parts text) → all ≡ text_behind path text → longest < length all
    → join_of path text ≡ Err TooLong
joins_long path text all p some c h is long = join_of-names path text p some c h ∙ rw (← is, lt-ltb longest (length all) long) refl

pub IsPath-behind : (path text all : List ℕ) → IsPath path → AllByRecursion IsName (parts text) → all ≡ text_behind path text → length all ≤ longest → IsPath all
IsPath-behind path text all p h is short =
    record { names = p.names ++ parts text; each = All-append IsName p.names (parts text) p.each h; spelled = is ∙ rw p.spelled (sym (joined-on p.names text p.each)); short = short }
