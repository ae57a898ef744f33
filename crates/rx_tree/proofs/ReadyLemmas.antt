-- Entries that are in order and apart, from one directory down to the next.
use Rattle.std.proofs.Common.{◌≡◌, ◌∙◌, ℕ, ◌⊎◌, inl, inr, true, false, List, [], ◌∷◌, ◌++◌, Option, Some, None, cond, refl, sym, ap, subst}
use Rattle.std.specs.Prelude.{IsSome}
use Rattle.std.specs.declared.cmp.Ordering.TheVariants.{Less, Equal, Greater}
use Rattle.std.specs.Ordering.{is_lt, nat_cmp, ordering_reverse, ordering_then}
use Rattle.std.specs.Cmp.Lexicographic.{slice_cmp}
use Rattle.std.specs.List.{AllByRecursion}
use Rattle.std.specs.Str.{bytes_eq}
use Rattle.std.proofs.lemmas.Bool.{false≢true}
use Rattle.std.proofs.lemmas.Cmp.{nat_list_cmp_total, tied_itself}
use Rattle.std.proofs.lemmas.Slice.Eq.{bytes_eq-Decides}
use Rattle.rx_base.proofs.ByteLists.{bytes_eq-itself}
use Rattle.rx_base.proofs.Lists.{All-back, All-front, All-weaken}
use Rattle.rx_base.proofs.Members.{All-member, All-members, Contains-cons_cases}
use Rattle.rx_tree.specs.Entries.{Content}
use Rattle.rx_tree.specs.Places.{by_names}
use Rattle.rx_tree.specs.Planting.{Follows, IsReady, goes_alike}
use Rattle.rx_tree.specs.Trees.{Rest, after, file_at_end, file_here, first_name, within}
use Rattle.rx_tree.proofs.NameOrder.{by_names-on, is_equal}
use Rattle.rx_tree.proofs.TreeMembers.{file_alone, file_here-from, on_from, within-from}
use Rattle.rx_tree.proofs.TreeRuns.{BeginsLater, BeginsWith}

-- ---- parts of a list that is ready

pub ready-back : (xs ys : List Rest) → IsReady (xs ++ ys) → IsReady ys
ready-back [] ys h = h
ready-back (x ∷ xs) ys h = ready-back xs ys h.1

pub ready-front : (xs ys : List Rest) → IsReady (xs ++ ys) → IsReady xs
ready-front [] ys h = tt
ready-front (x ∷ xs) ys h = (All-front (Follows x) xs ys h.0, ready-front xs ys h.1)

-- ---- one level down

by_names-same : (name : List ℕ) (xs ys : List (List ℕ)) → by_names (name ∷ xs) (name ∷ ys) ≡ by_names xs ys
by_names-same name xs ys = rw (tied_itself nat_list_cmp_total name) refl

follows-down : (name : List ℕ) (a b : Rest) → Follows (on_from name a) (on_from name b) → Follows a b
follows-down name a b f = record {
  later = rw by_names-same at f.later;
  not_below = λ some more e. f.not_below some more (ap (λ (ns : List (List ℕ)). name ∷ ns) e);
  not_same = λ some e. f.not_same some (ap (λ (ns : List (List ℕ)). name ∷ ns) e);
}

follows-within : (name : List ℕ) (a : Rest) (rs : List Rest) → AllByRecursion (Follows (on_from name a)) rs → AllByRecursion (Follows a) (within name rs)
follows-within name a rs h =
    All-members (Follows a) (within name rs) (λ q c. follows-down name a q (All-member (Follows (on_from name a)) rs (on_from name q) h (within-from name rs q c)))

after-ready : (name : List ℕ) (file : Option Content) (names : List (List ℕ)) (rs : List Rest)
    → AllByRecursion (Follows (record { names = names; file = file })) rs → IsReady (within name rs) → IsReady (after name file names ++ within name rs)
after-ready name file [] rs h ready = ready
after-ready name file (first ∷ ns) rs h ready =
    elim (bytes_eq first name) as (λ b. bytes_eq first name ≡ b → IsReady (cond b ((record { names = ns; file = file }) ∷ []) [] ++ within name rs)) [
      | true ↦ λ e.
          let rest : Rest = record { names = ns; file = file } in
          let is : first ≡ name = (bytes_eq-Decides first name).0 e in
          (follows-within name rest rs (subst (λ (n : List ℕ). AllByRecursion (Follows (record { names = n ∷ ns; file = file })) rs) is h), ready)
      | false ↦ λ e. ready
    ] refl

pub ready-within : (name : List ℕ) (rs : List Rest) → IsReady rs → IsReady (within name rs)
ready-within name [] h = tt
ready-within name (r ∷ rs) h = after-ready name r.file r.names rs h.0 (ready-within name rs h.1)

-- ---- what stands behind a run

-- an entry that comes no earlier than others, and goes on otherwise, goes on by a later name
later_name : (name : List ℕ) (ns names : List (List ℕ)) → is_lt (by_names names (name ∷ ns)) ≡ false → (first : List ℕ) × (first_name names ≡ first ∷ []) × ((name ≡ first) ⊎ (slice_cmp nat_cmp name first ≡ Less))
later_name name ns [] h = absurd (cc h)
later_name name ns (first ∷ names) h =
    elim (slice_cmp nat_cmp first name) as (λ o. slice_cmp nat_cmp first name ≡ o → is_lt (ordering_then o (by_names names ns)) ≡ false → (other : List ℕ) × (first ∷ [] ≡ other ∷ []) × ((name ≡ other) ⊎ (slice_cmp nat_cmp name other ≡ Less))) [
      | Less ↦ λ e h. absurd (cc h)
      | Equal ↦ λ e h. (first, refl, inl (sym (is_equal first name e)))
      | Greater ↦ λ e h. (first, refl, inr (nat_list_cmp_total.antisymm name first ∙ ap ordering_reverse e))
    ] refl h

pub some_names : (names : List (List ℕ)) (first : List ℕ) → first_name names ≡ first ∷ [] → (more : List (List ℕ)) × (names ≡ first ∷ more)
some_names [] first e = absurd (cc e)
some_names (n ∷ ns) first e = (ns, ap (λ (x : List ℕ). x ∷ ns) cc)

later_on : (name : List ℕ) (o : Rest) (more : List (List ℕ)) (x : Rest) → o.names ≡ name ∷ more → Follows o x → (first : List ℕ) × (BeginsWith first x) × ((name ≡ first) ⊎ (slice_cmp nat_cmp name first ≡ Less))
later_on name o more x e f = later_name name more x.names (rw e at f.later)

-- the entries behind one that goes on by a later name go on by later names
begins_later : (name : List ℕ) (o : Rest) (rs : List Rest) → BeginsLater name o → AllByRecursion (Follows o) rs → AllByRecursion (BeginsLater name) rs
begins_later name o rs b h =
    All-weaken (Follows o) (BeginsLater name) rs
    (λ x f.
    let names = some_names o.names b.first b.begins in
    let at = later_on b.first o names.0 x names.1 f in
    record {
      first = at.0;
      begins = at.1;
      later = elim at.2 [ inl same ↦ subst (λ (n : List ℕ). slice_cmp nat_cmp name n ≡ Less) same b.later | inr less ↦ nat_list_cmp_total.trans name b.first at.0 b.later less ];
    })
    h

-- ---- a run: the longest front of entries that go on by the name

alike_begins : (name : List ℕ) (names others : List (List ℕ)) → first_name names ≡ name ∷ [] → goes_alike names others ≡ true → first_name others ≡ name ∷ []
alike_begins name [] others e h = absurd (cc e)
alike_begins name (n ∷ ns) [] e h = absurd (cc h)
alike_begins name (n ∷ ns) (m ∷ ms) e h = ap (λ (x : List ℕ). x ∷ []) (sym ((bytes_eq-Decides n m).0 h)) ∙ e

unlike_differs : (name : List ℕ) (names others : List (List ℕ)) → first_name names ≡ name ∷ [] → goes_alike names others ≡ false → first_name others ≡ name ∷ [] → ⊥
unlike_differs name [] others e h k = cc e
unlike_differs name (n ∷ ns) [] e h k = cc k
unlike_differs name (n ∷ ns) (m ∷ ms) e h k = let same : n ≡ m = cc in false≢true (sym h ∙ (bytes_eq-Decides n m).1 same)

-- the names of the run's head, and of the entries that are like it
pub run_begins : (name : List ℕ) (r : Rest) (run : List Rest) → BeginsWith name r → AllByRecursion (λ x. goes_alike r.names x.names ≡ true) run → AllByRecursion (BeginsWith name) run
run_begins name r run b h = All-weaken (λ (x : Rest). goes_alike r.names x.names ≡ true) (BeginsWith name) run (λ x e. alike_begins name r.names x.names b e) h

-- what stands behind the run goes on by later names
pub others_begin : (name : List ℕ) (r : Rest) (run others : List Rest) → BeginsWith name r → IsReady (r ∷ (run ++ others))
    → ((o : Rest) (os : List Rest) → others ≡ o ∷ os → goes_alike r.names o.names ≡ false) → AllByRecursion (BeginsLater name) others
others_begin name r run [] b ready unlike = tt
others_begin name r run (o ∷ os) b ready unlike =
    let names = some_names r.names name b in
    let follows : Follows r o = (All-back (Follows r) run (o ∷ os) ready.0).0 in
    let at = later_on name r names.0 o names.1 follows in
    let first : BeginsLater name o = record {
      first = at.0;
      begins = at.1;
      later = elim at.2 [
        | inl same ↦ absurd (unlike_differs name r.names o.names b (unlike o os refl) (at.1 ∙ ap (λ (x : List ℕ). x ∷ []) (sym same)))
        | inr less ↦ less
      ];
    } in
    (first, begins_later name o os first (ready-back run (o ∷ os) ready.1).0)

-- ---- the file of a run

head_is : (name : List ℕ) (ns : List (List ℕ)) (r : Rest) (content : Content) → r.names ≡ name ∷ ns → file_at_end ns r.file ≡ None → r ≡ on_from name (file_alone content) → ⊥
head_is name [] r content e f h = let file : r.file ≡ Some content = ap (λ (x : Rest). x.file) h in cc (sym f ∙ file)
head_is name (n ∷ ns) r content e f h = let names : r.names ≡ name ∷ [] = ap (λ (x : Rest). x.names) h in cc (sym e ∙ names)

-- no file at the name stands behind another entry that goes on by it
not_behind : (name : List ℕ) (ns : List (List ℕ)) (r x : Rest) → r.names ≡ name ∷ ns → x.names ≡ name ∷ [] → IsSome x.file → Follows r x → ⊥
not_behind name [] r x e f some follows = follows.not_same some (e ∙ sym f)
not_behind name (n ∷ ns) r x e f some follows =
    let not_less : is_lt (by_names (name ∷ []) (name ∷ n ∷ ns)) ≡ false = rw (e, f) at follows.later in
    let less : by_names (name ∷ []) (name ∷ n ∷ ns) ≡ Less = by_names-on (name ∷ []) n ns in
    false≢true (sym not_less ∙ ap is_lt less)

-- a run whose head is a file at the name has that file
pub file_run : (name : List ℕ) (ns : List (List ℕ)) (content : Content) (r : Rest) (run : List Rest) → r.names ≡ name ∷ ns → file_at_end ns r.file ≡ Some content → file_here (within name (r ∷ run)) ≡ Some content
file_run name ns content r run e f = rw (e, bytes_eq-itself name, f) refl

-- a run with another head has none
pub dir_run : (name : List ℕ) (ns : List (List ℕ)) (r : Rest) (run : List Rest) → r.names ≡ name ∷ ns → file_at_end ns r.file ≡ None → AllByRecursion (Follows r) run → file_here (within name (r ∷ run)) ≡ None
dir_run name ns r run e f h =
    elim (file_here (within name (r ∷ run))) as (λ o. file_here (within name (r ∷ run)) ≡ o → o ≡ None) [
      | None ↦ λ is. refl
      | Some content ↦ λ is.
          let file = within-from name (r ∷ run) (file_alone content) (file_here-from (within name (r ∷ run)) content is) in
          elim (Contains-cons_cases r run (on_from name (file_alone content)) file) [
            | inl head ↦ absurd (head_is name ns r content e f head)
            | inr later ↦ absurd (not_behind name ns r (on_from name (file_alone content)) e refl refl (All-member (Follows r) run (on_from name (file_alone content)) h later))
          ]
    ] refl
