-- The parts of a text, one after the other, on a way.
use Rattle.std.proofs.Common.{◌≡◌, ℕ, ◌+◌, ◌<◌, ◌≤◌, ◌==◌, inl, inr, Bool, true, false, cond, List, [], ◌∷◌, ◌++◌, length, get_or, drop, nat_lt, Ok, Err, refl, sym, ap, ◌∙◌, subst, append_assoc, arith}
use Rattle.std.specs.List.{AllByRecursion}
use Rattle.std.proofs.lemmas.Bool.{ltb-false}
use Rattle.std.proofs.lemmas.List.{at_drop_more}
use Rattle.std.proofs.lemmas.List.Elements.{All-append, All-cons, All-from_recursion, All-get_or, All-head, All-nil, All-tail}
use Rattle.rx_base.specs.declared.path_fault.PathFault.TheVariants.{Empty, TooLong}
use Rattle.rx_base.specs.Paths.{IsPath, Lacks, checked, join_of, joined, longest, parts, with_part, with_parts, with_text}
use Rattle.rx_base.specs.Results.{◌>>=◌}
use Rattle.rx_base.proofs.PathLemmas.{with_parts-drop}
use Rattle.rx_base.proofs.PathShape.{joined-lacks}
use Rattle.rx_base.proofs.ResultLemmas.{bind_ok}
use Rattle.rx_reach.specs.declared.candidates.Step.{Step}
use Rattle.rx_reach.specs.Candidates.{AreShort, is_skipped, is_up, names_of, next_names, steps, way}
use Rattle.rx_reach.proofs.WayLemmas.{path-names, with_part-next, with_part-skips, with_text-own}
use Rattle.rx_base.proofs.Conditions.{cond-cases}
use Rattle.rx_base.proofs.PathParts.{Lacks-from_checked}

abbrev Names : Type 0
Names = List (List ℕ)

abbrev HasShort : Step → Type 0
HasShort step = length step.path ≤ longest

-- the second of two stretches that are short together
pub short-right : (xs ys : List Step) → AreShort (xs ++ ys) → AreShort ys
short-right [] ys h = h
short-right (x ∷ xs) ys h = short-right xs ys (All-tail HasShort x (xs ++ ys) h)

-- ---- one part, and the others

pub steps-cons : (names next : Names) (part : List ℕ) (rest : Names) → with_part names part ≡ Ok next → steps names (part ∷ rest) ≡ steps names (part ∷ []) ++ steps next rest
steps-cons names next part rest e = by (is_skipped part) refl
  where
    by : (b : Bool) → is_skipped part ≡ b
        → cond b (steps names rest) (record { path = joined names; left = is_up part } ∷ steps (next_names names part) rest)
        ≡ cond b [] (record { path = joined names; left = is_up part } ∷ []) ++ steps next rest
    by true s = let same : next ≡ names = cc (sym e ∙ with_part-skips names part s) in ap (λ ns. steps ns rest) (sym same)
    by false s = let same = with_part-next names next part s e in ap (λ ns. record { path = joined names; left = is_up part } ∷ steps ns rest) (sym same)

pub steps-append : (names next : Names) (ps qs : Names) → with_parts names ps ≡ Ok next → steps names (ps ++ qs) ≡ steps names ps ++ steps next qs
unfolding with_parts
steps-append names next [] qs e = let same : names ≡ next = cc e in ap (λ ns. steps ns qs) same
steps-append names next (p ∷ ps) qs e =
    let r = bind_ok (with_part names p) (λ one. with_parts one ps) next e in
    steps-cons names r.0 p (ps ++ qs) r.1 ∙ ap (λ more. steps names (p ∷ []) ++ more) (steps-append r.0 next ps qs r.2)
    ∙ sym (append_assoc (steps names (p ∷ [])) (steps r.0 ps) (steps next qs)) ∙ ap (λ (front : List Step). front ++ steps next qs) (sym (steps-cons names r.0 p ps r.1))

-- what is left to pass leads on
pub part-leads : (all names final : Names) (i : ℕ) (part : List ℕ) → (i < length all) × (part ≡ get_or all i part) → with_parts names (drop i all) ≡ Ok final
    → (next : Names) × (with_part names part ≡ Ok next)
part-leads all names final i part t e =
    let r = bind_ok (with_part names part) (λ next. with_parts next (drop (i + 1) all)) final (sym (with_parts-drop all names i part t) ∙ e) in
    (r.0, r.1)

pub part-names : (all names next : Names) (i : ℕ) (part : List ℕ) → (i < length all) × (part ≡ get_or all i part) → with_part names part ≡ Ok next
    → with_parts next (drop (i + 1) all) ≡ with_parts names (drop i all)
part-names all names next i part t e = sym (with_parts-drop all names i part t ∙ ap (λ r. r >>= λ one. with_parts one (drop (i + 1) all)) e)

pub part-steps : (all names next : Names) (i : ℕ) (part : List ℕ) → (i < length all) × (part ≡ get_or all i part) → with_part names part ≡ Ok next
    → steps names (drop i all) ≡ steps names (part ∷ []) ++ steps next (drop (i + 1) all)
part-steps all names next i part t e =
    at_drop_more (steps names) all i part t.0 ∙ ap (λ p. steps names (p ∷ drop (i + 1) all)) (sym t.1) ∙ steps-cons names next part (drop (i + 1) all) e

pub lacks-at : (c : ℕ) (all : Names) (i : ℕ) (part : List ℕ) → AllByRecursion (Lacks c) all → (i < length all) × (part ≡ get_or all i part) → Lacks c part
lacks-at c all i part h t = subst (Lacks c) (sym t.1) (All-get_or (Lacks c) all i part t.0 (All-from_recursion (Lacks c) all h))

pub short-step : (at part : List ℕ) → IsPath at → AreShort (steps (names_of at) (part ∷ []))
short-step at part p = by (is_skipped part)
  where
    by : (b : Bool) → AreShort (cond b [] (record { path = joined (names_of at); left = is_up part } ∷ []))
    by true = All-nil HasShort
    by false = All-cons HasShort _ [] (subst (λ path. length path ≤ longest) (sym (path-names at p).1) p.short) (All-nil HasShort)

pub short-more : (before after : List Step) (at part : List ℕ) → IsPath at → AreShort before → after ≡ before ++ steps (names_of at) (part ∷ []) → AreShort after
short-more before after at part p h e = subst AreShort (sym e) (All-append HasShort before (steps (names_of at) (part ∷ [])) h (short-step at part p))

-- a way that has come to too long a path can't end at a short one
long-ends : (names final rest : Names) → with_parts names rest ≡ Ok final → length (joined final) ≤ longest → longest < length (joined names) → AreShort (steps names rest) → ⊥
unfolding with_parts
long-ends names final [] e short long h = let same : names ≡ final = cc e in let s = subst (λ ns. length (joined ns) ≤ longest) (sym same) short in omega arith
long-ends names final (p ∷ ps) e short long h =
    let r = bind_ok (with_part names p) (λ one. with_parts one ps) final e in
    by (is_skipped p) refl r (λ l s. long-ends r.0 final ps r.2 short l s) h
  where
    by : (b : Bool) → is_skipped p ≡ b → (r : (next : Names) × (with_part names p ≡ Ok next) × (with_parts next ps ≡ Ok final))
        → (longest < length (joined r.0) → AreShort (steps r.0 ps) → ⊥)
        → AreShort (cond b (steps names ps) (record { path = joined names; left = is_up p } ∷ steps (next_names names p) ps)) → ⊥
    by true s r rest k =
        let same : r.0 ≡ names = cc (sym r.1 ∙ with_part-skips names p s) in
        rest (subst (λ ns. longest < length (joined ns)) (sym same) long) (subst (λ ns. AreShort (steps ns ps)) (sym same) k)
    by false s r rest k = let here = All-head HasShort _ (steps (next_names names p) ps) k in omega (arith, here, long)

-- where one part leads to too long a path, not all are short
pub part-long : (all names final names0 : Names) (before before0 : List Step) (i : ℕ) (part : List ℕ) → (i < length all) × (part ≡ get_or all i part)
    → with_parts names (drop i all) ≡ Ok final → length (joined final) ≤ longest → is_skipped part ≡ false → longest < length (joined (next_names names part))
    → before ++ steps names (drop i all) ≡ before0 ++ steps names0 all → AreShort before0 → AreShort (steps names0 all) → ⊥
part-long all names final names0 before before0 i part t leads short some long same h k =
    let r = bind_ok (with_part names part) (λ next. with_parts next (drop (i + 1) all)) final (sym (with_parts-drop all names i part t) ∙ leads) in
    let next = with_part-next names r.0 part some r.1 in
    let whole = subst AreShort (sym same) (All-append HasShort before0 (steps names0 all) h k) in
    let rest = short-right before (steps names (drop i all)) whole in
    let after = short-right (steps names (part ∷ [])) (steps r.0 (drop (i + 1) all)) (subst AreShort (part-steps all names r.0 i part t r.1) rest) in
    long-ends r.0 final (drop (i + 1) all) r.2 short (subst (λ ns. longest < length (joined ns)) (sym next) long) after

-- ---- a name in a directory

-- a directory and a name that make a path
pub record Joins (dir name path : List ℕ) : Type 0 where
  pub dir_names : Names
  pub names : Names
  pub no_zero : Lacks 0 name
  pub of_dir : with_text [] dir ≡ Ok dir_names
  pub of_name : with_text dir_names name ≡ Ok names
  pub path_is : path ≡ joined names
  pub short : length path ≤ longest

pub joins : (dir name path : List ℕ) → join_of dir name ≡ Ok path → Joins dir name path
unfolding join_of
joins dir name path e =
    let some = cond-cases (length name == 0) (Err Empty) (checked name >>= λ _. with_text [] dir >>= λ ns. with_text ns name >>= λ all. cond (nat_lt longest (length (joined all))) (Err TooLong) (Ok (joined all))) (Ok path) e in
    elim some [
      | inl p ↦ absurd (cc (p.1))
      | inr p ↦
          let a = bind_ok (checked name) (λ _. with_text [] dir >>= λ ns. with_text ns name >>= λ all. cond (nat_lt longest (length (joined all))) (Err TooLong) (Ok (joined all))) path p.1 in
          let b = bind_ok (with_text [] dir) (λ ns. with_text ns name >>= λ all. cond (nat_lt longest (length (joined all))) (Err TooLong) (Ok (joined all))) path a.2 in
          let c = bind_ok (with_text b.0 name) (λ all. cond (nat_lt longest (length (joined all))) (Err TooLong) (Ok (joined all))) path b.2 in
          elim (cond-cases (nat_lt longest (length (joined c.0))) (Err TooLong) (Ok (joined c.0)) (Ok path) c.2) [
            | inl q ↦ absurd (cc (q.1))
            | inr q ↦
                let is : joined c.0 ≡ path = cc (q.1) in
                record { dir_names = b.0; names = c.0; no_zero = Lacks-from_checked name a.1; of_dir = b.1; of_name = c.1; path_is = sym is; short = subst (λ text. length text ≤ longest) is (ltb-false _ _ q.0) }
          ]
    ]

pub path-lacks : (path : List ℕ) → IsPath path → Lacks 0 path
path-lacks path p = subst (Lacks 0) (sym p.spelled) (joined-lacks p.names p.each)

-- a path's text leads to the path's names
pub path-leads : (path : List ℕ) → IsPath path → (all : Names) × (with_text [] path ≡ Ok all) × (length (joined all) ≤ longest)
path-leads path p =
    let own = path-names path p in
    (names_of path, subst (λ text. with_text [] text ≡ Ok (names_of path)) own.1 (with_text-own (names_of path) own.0), subst (λ text. length text ≤ longest) (sym own.1) p.short)

pub root-path : IsPath []
root-path = record { names = []; each = tt; spelled = refl; short = omega arith }

-- the name leads on from where the directory's text has led
pub name-leads : (dir name path at : List ℕ) → join_of dir name ≡ Ok path → with_text [] dir ≡ Ok (names_of at) → (all : Names) × (with_text (names_of at) name ≡ Ok all) × (length (joined all) ≤ longest)
name-leads dir name path at e there =
    let j = joins dir name path e in
    let same : j.dir_names ≡ names_of at = cc (sym j.of_dir ∙ there) in
    (j.names, subst (λ ns. with_text ns name ≡ Ok j.names) same j.of_name, subst (λ text. length text ≤ longest) j.path_is j.short)

-- the two stretches of a way
pub way-is : (dir name at : List ℕ) → with_text [] dir ≡ Ok (names_of at) → way (record { dir = dir; name = name }) ≡ steps [] (parts dir) ++ steps (names_of at) (parts name)
unfolding with_text
way-is dir name at e = steps-append [] (names_of at) (parts dir) (parts name) e

pub short-left : (xs ys : List Step) → AreShort (xs ++ ys) → AreShort xs
short-left [] ys h = All-nil HasShort
short-left (x ∷ xs) ys h = All-cons HasShort x xs (All-head HasShort x (xs ++ ys) h) (short-left xs ys (All-tail HasShort x (xs ++ ys) h))

-- the first of them, whatever the name
pub way-front : (dir name : List ℕ) → IsPath dir → AreShort (way (record { dir = dir; name = name })) → AreShort (steps [] (parts dir))
unfolding with_text
way-front dir name p h =
    let own = path-leads dir p in
    short-left (steps [] (parts dir)) (steps own.0 (parts name)) (subst AreShort (steps-append [] own.0 (parts dir) (parts name) own.1) h)
