-- The names of a path, and the directories on a way.
use Rattle.std.proofs.Common.{◌≡◌, ◌≢◌, ℕ, ◌-◌, ◌<◌, ◌≤◌, ◌==◌, ◌||◌, Bool, true, false, cond, List, [], ◌∷◌, ◌++◌, length, nat_lt, take, Ok, Err, refl, sym, ap, ◌∙◌, subst, append_assoc, append-nil, arith}
use Rattle.std.specs.Prelude.{codes, slice_index}
use Rattle.std.specs.List.{AllByRecursion}
use Rattle.std.specs.Str.{bytes_eq}
use Rattle.std.proofs.lemmas.Bool.{eqb-true, ltb-true, ltb-false, ne_eqb}
use Rattle.rx_base.specs.declared.path_fault.PathFault.{PathFault}
use Rattle.rx_base.specs.declared.path_fault.PathFault.TheVariants.{AboveRoot, TooLong}
use Rattle.rx_base.specs.Paths.{IsName, IsPath, Lacks, checked, join_of, joined, longest, with_part, with_parts, with_text, without_last}
use Rattle.rx_base.proofs.PathAgain.{parts-joined}
use Rattle.rx_base.proofs.PathLemmas.{not_true, with_part_name}
use Rattle.rx_base.proofs.PathShape.{length-joined, with_text-names}
use Rattle.rx_reach.specs.Candidates.{is_skipped, is_up, names_of, next_names, steps}
use Rattle.rx_base.proofs.PathParts.{no_zero, parts-name}

abbrev pub Good : List (List ℕ) → Type 0
Good names = AllByRecursion IsName names

-- ---- names and their text

some-bytes : (x : List ℕ) → x ≢ [] → 1 ≤ length x
some-bytes [] ne = absurd (ne refl)
some-bytes (b ∷ bs) ne = omega arith

is-not : (n : ℕ) → 1 ≤ n → (n == 0) ≡ false
is-not n h = not_true (n == 0) (λ e. let z = eqb-true n 0 e in omega arith)

joined-some : (x : List ℕ) (xs : List (List ℕ)) → Good (x ∷ xs) → (length (joined (x ∷ xs)) == 0) ≡ false
joined-some x xs h =
    let one = some-bytes x h.0.some in
    is-not _ (omega (arith, length-joined (x ∷ xs) (omega arith)))

-- the names of a path that was joined
pub names-joined : (names : List (List ℕ)) → Good names → names_of (joined names) ≡ names
names-joined [] h = refl
names-joined (x ∷ xs) h = rw (joined-some x xs h) (parts-joined (x ∷ xs) (omega arith) h)

pub path-names : (path : List ℕ) → IsPath path → Good (names_of path) × (joined (names_of path) ≡ path)
path-names path p =
    let e : names_of path ≡ p.names = ap names_of p.spelled ∙ names-joined p.names p.each in
    (subst Good (sym e) p.each, ap joined e ∙ sym p.spelled)

pub path-from : (names : List (List ℕ)) → Good names → length (joined names) ≤ longest → IsPath (joined names)
path-from names good short = record { names = names; each = good; spelled = refl; short = short }

with_parts-on : (front names : List (List ℕ)) → Good names → with_parts front names ≡ Ok (front ++ names)
unfolding with_parts
with_parts-on front [] h = rw (append-nil front) refl
with_parts-on front (x ∷ xs) h =
    rw (with_part_name front x h.0.some h.0.not_here h.0.not_up) (with_parts-on (front ++ x ∷ []) xs h.1 ∙ rw (append_assoc front (x ∷ []) xs) refl)

-- a path's own names
pub with_text-own : (names : List (List ℕ)) → Good names → with_text [] (joined names) ≡ Ok names
unfolding with_text with_parts with_part
with_text-own [] h = refl
with_text-own (x ∷ xs) h = rw (parts-joined (x ∷ xs) (omega arith) h) (with_parts-on [] (x ∷ xs) h)

-- ---- one part more

not-absolute : (text : List ℕ) → Lacks 47 text → (length text == 0) ≡ false → (slice_index text 0 == 47) ≡ false
not-absolute [] h e = absurd (cc e)
not-absolute (b ∷ bs) h e = ne_eqb b 47 h.0

checked-part : (part : List ℕ) → Lacks 47 part → Lacks 0 part → (length part == 0) ≡ false → checked part ≡ Ok tt
unfolding checked
checked-part part slash zero some = rw (not-absolute part slash some, no_zero part zero) refl

with_text-part : (names next : List (List ℕ)) (part : List ℕ) → Lacks 47 part → with_part names part ≡ Ok next → with_text names part ≡ Ok next
unfolding with_text with_parts
with_text-part names next part slash e = rw (parts-name part slash, e) refl

pub join-part : (names next : List (List ℕ)) (part : List ℕ) → Good names → Lacks 47 part → Lacks 0 part → (length part == 0) ≡ false → with_part names part ≡ Ok next
    → join_of (joined names) part ≡ cond (nat_lt longest (length (joined next))) (Err TooLong) (Ok (joined next))
unfolding join_of
join-part names next part good slash zero some e = rw (some, checked-part part slash zero some, with_text-own names good, with_text-part names next part slash e) refl

with_part-good : (names next : List (List ℕ)) (part : List ℕ) → Good names → Lacks 47 part → Lacks 0 part → with_part names part ≡ Ok next → Good next
with_part-good names next part good slash zero e = with_text-names names next part good zero (with_text-part names next part slash e)

-- what the code calls empty isn't empty
pub not-skipped : (part : List ℕ) → is_skipped part ≡ false → (length part == 0) ≡ false
not-skipped [] e = absurd (cc e)
not-skipped (b ∷ bs) e = is-not (length (b ∷ bs)) (omega arith)

pub with_part-skips : (names : List (List ℕ)) (part : List ℕ) → is_skipped part ≡ true → with_part names part ≡ Ok names
unfolding with_part
with_part-skips names part e = rw e refl

without_last-is : (names next : List (List ℕ)) → without_last names ≡ Ok next → next ≡ take (length names - 1) names
without_last-is names next e = by (length names == 0) e
  where
    by : (b : Bool) → cond b (Err AboveRoot) (Ok (take (length names - 1) names)) ≡ Ok next → next ≡ take (length names - 1) names
    by true p = absurd (cc p)
    by false p = cc p

pub with_part-next : (names next : List (List ℕ)) (part : List ℕ) → is_skipped part ≡ false → with_part names part ≡ Ok next → next ≡ next_names names part
unfolding with_part
with_part-next names next part e p = by (is_up part) (without_last-is names next) (rw e at p)
  where
    by : (b : Bool) → (without_last names ≡ Ok next → next ≡ take (length names - 1) names) → cond b (without_last names) (Ok (names ++ part ∷ [])) ≡ Ok next
        → next ≡ cond b (take (length names - 1) names) (names ++ part ∷ [])
    by true last q = last q
    by false last q = cc q

ok-is : (b : Bool) (x y : List ℕ) → cond b (Err TooLong) (Ok x) ≡ Ok y → (b ≡ false) × (x ≡ y)
ok-is true x y e = absurd (cc e)
ok-is false x y e = (refl, cc e)

err-is : (b : Bool) (x : List ℕ) (e : PathFault) → cond b (Err TooLong) (Ok x) ≡ Err e → b ≡ true
err-is true x e p = refl
err-is false x e p = absurd (cc p)

-- a part leads to a path
pub stepped : (at part next : List ℕ) → IsPath at → Lacks 47 part → Lacks 0 part → ((names : List (List ℕ)) × (with_part (names_of at) part ≡ Ok names)) → (length part == 0) ≡ false
    → join_of at part ≡ Ok next → IsPath next × (with_part (names_of at) part ≡ Ok (names_of next))
stepped at part next p slash zero leads some e =
    let own = path-names at p in
    let joins = join-part (names_of at) leads.0 part own.0 slash zero some leads.1 in
    let is = ok-is _ _ _ (sym joins ∙ ap (λ base. join_of base part) own.1 ∙ e) in
    let good = with_part-good (names_of at) leads.0 part own.0 slash zero leads.1 in
    let there = path-from leads.0 good (ltb-false _ _ is.0) in
    (subst IsPath is.1 there, leads.1 ∙ ap (λ names. Ok names) (sym (ap names_of (sym is.1) ∙ names-joined leads.0 good)))

-- a part leads to too long a path
pub too-long : (at part : List ℕ) (fault : PathFault) → IsPath at → Lacks 47 part → Lacks 0 part → ((names : List (List ℕ)) × (with_part (names_of at) part ≡ Ok names)) → is_skipped part ≡ false
    → join_of at part ≡ Err fault → longest < length (joined (next_names (names_of at) part))
too-long at part fault p slash zero leads some e =
    let own = path-names at p in
    let joins = join-part (names_of at) leads.0 part own.0 slash zero (not-skipped part some) leads.1 in
    let is = err-is _ _ fault (sym joins ∙ ap (λ base. join_of base part) own.1 ∙ e) in
    let next = with_part-next (names_of at) leads.0 part some leads.1 in
    subst (λ names. longest < length (joined names)) next (ltb-true _ _ is)

-- ---- steps

pub steps-skip : (names : List (List ℕ)) (part : List ℕ) → is_skipped part ≡ true → steps names (part ∷ []) ≡ []
steps-skip names part e = rw e refl

pub steps-one : (at part : List ℕ) → IsPath at → is_skipped part ≡ false → steps (names_of at) (part ∷ []) ≡ record { path = at; left = is_up part } ∷ []
steps-one at part p e = rw e (ap (λ path. record { path = path; left = is_up part } ∷ []) (path-names at p).1)

-- what the code skips
pub skips-empty : (part : List ℕ) → true ≡ (length part == 0) → is_skipped part ≡ true
skips-empty [] e = refl
skips-empty (b ∷ bs) e = absurd (cc (e ∙ is-not (length (b ∷ bs)) (omega arith)))

pub skips-here : (part : List ℕ) → true ≡ bytes_eq part (codes ".") → is_skipped part ≡ true
skips-here part e = by (bytes_eq part [])
  where
    by : (b : Bool) → (b || bytes_eq part (codes ".")) ≡ true
    by true = refl
    by false = sym e

pub goes-on : (part : List ℕ) → false ≡ (length part == 0) → false ≡ bytes_eq part (codes ".") → is_skipped part ≡ false
goes-on [] e f = absurd (cc e)
goes-on (b ∷ bs) e f = sym f
