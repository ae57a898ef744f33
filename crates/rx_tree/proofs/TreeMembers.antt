-- The tree of a list of paths is that of its members, whatever their order.
use Rattle.std.proofs.Common.{◌≡◌, ◌∙◌, ℕ, zero, suc, inl, inr, true, false, List, [], ◌∷◌, Option, Some, None, cond, max, refl, sym, ap, subst, arith}
use Rattle.std.specs.Prelude.{IsSome}
use Rattle.std.specs.FinMap.{nat_cmp-IsAntisymmetric, slice_cmp-IsAntisymmetric}
use Rattle.std.specs.List.{Contains}
use Rattle.std.specs.Str.{bytes_eq}
use Rattle.std.proofs.lemmas.Cmp.{nat_list_cmp_total}
use Rattle.std.proofs.lemmas.List.Elements.{Contains-append_cases, Contains-append_left, Contains-append_right}
use Rattle.std.proofs.lemmas.Slice.Eq.{bytes_eq-Decides}
use Rattle.rx_base.specs.SortedPaths.{HasSameMembers}
use Rattle.rx_base.proofs.ByteLists.{bytes_eq-itself}
use Rattle.rx_base.proofs.Members.{All-members, Contains-cons_cases, Contains-head, Contains-later, not_in_nothing}
use Rattle.rx_tree.specs.Entries.{Content}
use Rattle.rx_tree.specs.Trees.{Rest, after, file_at_end, file_here, first_name, forest, levels, names_in, or_file, tree_at, tree_of, within}
use Rattle.rx_tree.proofs.Members.{sorted_alike}
use Rattle.rx_tree.proofs.TreeLemmas.{tree_of-at}
use Rattle.rx_tree.proofs.TreeRuns.{forest-agree, firsts}

-- the entry with one more name before its own
abbrev pub on_from : List ℕ → Rest → Rest
on_from name rest = record { names = name ∷ rest.names; file = rest.file }

-- ---- members within a name

after-from : (name : List ℕ) (r q : Rest) (names : List (List ℕ)) → r.names ≡ names → Contains (after name r.file names) q → r ≡ on_from name q
after-from name r q [] e c = absurd (not_in_nothing q c)
after-from name r q (first ∷ ns) e c =
    elim (bytes_eq first name) as (λ b. bytes_eq first name ≡ b → Contains (cond b ((record { names = ns; file = r.file }) ∷ []) []) q → r ≡ on_from name q) [
      | true ↦ λ is c.
          elim (Contains-cons_cases (record { names = ns; file = r.file }) [] q c) [
            | inl same ↦
                let first_is : first ≡ name = (bytes_eq-Decides first name).0 is in
                let names : r.names ≡ name ∷ ns = e ∙ ap (λ (n : List ℕ). n ∷ ns) first_is in
                ap (λ (all : List (List ℕ)). let rest : Rest = record { names = all; file = r.file } in rest) names ∙ ap (λ (rest : Rest). on_from name rest) same
            | inr none ↦ absurd (not_in_nothing q none)
          ]
      | false ↦ λ is c. absurd (not_in_nothing q c)
    ] refl c

after-to : (name : List ℕ) (q : Rest) → Contains (after name q.file (name ∷ q.names)) q
after-to name q = rw (bytes_eq-itself name) (Contains-head q [])

pub within-from : (name : List ℕ) (rs : List Rest) (q : Rest) → Contains (within name rs) q → Contains rs (on_from name q)
within-from name [] q c = absurd (not_in_nothing q c)
within-from name (r ∷ rs) q c =
    elim (Contains-append_cases (after name r.file r.names) (within name rs) q c) [
      | inl first ↦ subst (λ (x : Rest). Contains (r ∷ rs) x) (after-from name r q r.names refl first) (Contains-head r rs)
      | inr later ↦ Contains-later r rs (on_from name q) (within-from name rs q later)
    ]

pub within-to : (name : List ℕ) (rs : List Rest) (q : Rest) → Contains rs (on_from name q) → Contains (within name rs) q
within-to name [] q c = absurd (not_in_nothing (on_from name q) c)
within-to name (r ∷ rs) q c =
    elim (Contains-cons_cases r rs (on_from name q) c) [
      | inl is ↦ Contains-append_left (after name r.file r.names) (within name rs) q (subst (λ (x : Rest). Contains (after name x.file x.names) q) (sym is) (after-to name q))
      | inr later ↦ Contains-append_right (after name r.file r.names) (within name rs) q (within-to name rs q later)
    ]

pub within-members : (name : List ℕ) (rs ss : List Rest) → HasSameMembers rs ss → HasSameMembers (within name rs) (within name ss)
within-members name rs ss h q =
    (λ c. within-to name ss q ((h (on_from name q)).0 (within-from name rs q c)), λ c. within-to name rs q ((h (on_from name q)).1 (within-from name ss q c)))

-- ---- first names

first-from : (names : List (List ℕ)) (name : List ℕ) → Contains (first_name names) name → (ns : List (List ℕ)) × (names ≡ name ∷ ns)
first-from [] name c = absurd (not_in_nothing name c)
first-from (first ∷ ns) name c =
    elim (Contains-cons_cases first [] name c) [
      | inl is ↦ (ns, ap (λ (n : List ℕ). n ∷ ns) is)
      | inr none ↦ absurd (not_in_nothing name none)
    ]

pub firsts-from : (rs : List Rest) (name : List ℕ) → Contains (firsts rs) name → (q : Rest) × Contains rs (on_from name q)
firsts-from [] name c = absurd (not_in_nothing name c)
firsts-from (r ∷ rs) name c =
    elim (Contains-append_cases (first_name r.names) (firsts rs) name c) [
      | inl first ↦
          let on = first-from r.names name first in
          (record { names = on.0; file = r.file }, subst (λ (x : Rest). Contains (r ∷ rs) x) (ap (λ (all : List (List ℕ)). let rest : Rest = record { names = all; file = r.file } in rest) on.1) (Contains-head r rs))
      | inr later ↦ let rest = firsts-from rs name later in (rest.0, Contains-later r rs (on_from name rest.0) rest.1)
    ]

pub firsts-to : (rs : List Rest) (name : List ℕ) (q : Rest) → Contains rs (on_from name q) → Contains (firsts rs) name
firsts-to [] name q c = absurd (not_in_nothing (on_from name q) c)
firsts-to (r ∷ rs) name q c =
    elim (Contains-cons_cases r rs (on_from name q) c) [
      | inl is ↦ Contains-append_left (first_name r.names) (firsts rs) name (subst (λ (x : Rest). Contains (first_name x.names) name) (sym is) (Contains-head name []))
      | inr later ↦ Contains-append_right (first_name r.names) (firsts rs) name (firsts-to rs name q later)
    ]

firsts-half : (rs ss : List Rest) → HasSameMembers rs ss → (name : List ℕ) → Contains (firsts rs) name → Contains (firsts ss) name
firsts-half rs ss h name c = let from = firsts-from rs name c in firsts-to ss name from.0 ((h (on_from name from.0)).0 from.1)

turned : (rs ss : List Rest) → HasSameMembers rs ss → HasSameMembers ss rs
turned rs ss h q = ((h q).1, (h q).0)

pub names_in-members : (rs ss : List Rest) → HasSameMembers rs ss → names_in rs ≡ names_in ss
names_in-members rs ss h =
    sorted_alike nat_list_cmp_total (slice_cmp-IsAntisymmetric nat_cmp-IsAntisymmetric) (firsts rs) (firsts ss)
    (λ name. (firsts-half rs ss h name, firsts-half ss rs (turned rs ss h) name))

-- ---- the file here

abbrev pub file_alone : Content → Rest
file_alone content = record { names = []; file = Some content }

-- entries with the same names have the same file
abbrev pub HasOneFile : List Rest → Type 0
HasOneFile rs = (a b : Rest) → Contains rs a → Contains rs b → a.names ≡ b.names → IsSome a.file → IsSome b.file → a.file ≡ b.file

at_end : (r : Rest) (names : List (List ℕ)) (content : Content) → r.names ≡ names → file_at_end names r.file ≡ Some content → r ≡ file_alone content
at_end r [] content e f =
    ap (λ (all : List (List ℕ)). let rest : Rest = record { names = all; file = r.file } in rest) e ∙ ap (λ (file : Option Content). let rest : Rest = record { names = []; file = file } in rest) f
at_end r (n ∷ ns) content e f = absurd (cc f)

pub file_here-from : (rs : List Rest) (content : Content) → file_here rs ≡ Some content → Contains rs (file_alone content)
file_here-from [] content e = absurd (cc e)
file_here-from (r ∷ rs) content e =
    elim (file_at_end r.names r.file) as (λ o. file_at_end r.names r.file ≡ o → or_file o (file_here rs) ≡ Some content → Contains (r ∷ rs) (file_alone content)) [
      | None ↦ λ is e. Contains-later r rs (file_alone content) (file_here-from rs content e)
      | Some c ↦ λ is e. subst (λ (x : Rest). Contains (r ∷ rs) x) (at_end r r.names content refl (is ∙ e)) (Contains-head r rs)
    ] refl e

pub file_here-none : (rs : List Rest) (content : Content) → file_here rs ≡ None → Contains rs (file_alone content) → ⊥
file_here-none [] content e c = not_in_nothing (file_alone content) c
file_here-none (r ∷ rs) content e c =
    elim (file_at_end r.names r.file) as (λ o. file_at_end r.names r.file ≡ o → or_file o (file_here rs) ≡ None → ⊥) [
      | None ↦ λ is e.
          elim (Contains-cons_cases r rs (file_alone content) c) [
            | inl same ↦ let at : file_at_end r.names r.file ≡ Some content = ap (λ (x : Rest). file_at_end x.names x.file) same in cc (sym at ∙ is)
            | inr later ↦ file_here-none rs content e later
          ]
      | Some c ↦ λ is e. cc e
    ] refl e

pub file_here-members : (rs ss : List Rest) → HasSameMembers rs ss → HasOneFile rs → file_here rs ≡ file_here ss
file_here-members rs ss h one =
    elim (file_here rs) as (λ o. file_here rs ≡ o → o ≡ file_here ss) [
      | None ↦ λ e.
          elim (file_here ss) as (λ p. file_here ss ≡ p → None ≡ p) [
            | None ↦ λ f. refl
            | Some d ↦ λ f. absurd (file_here-none rs d e ((h (file_alone d)).1 (file_here-from ss d f)))
          ] refl
      | Some c ↦ λ e.
          let first = file_here-from rs c e in
          elim (file_here ss) as (λ p. file_here ss ≡ p → Some c ≡ p) [
            | None ↦ λ f. absurd (file_here-none ss c f ((h (file_alone c)).0 first))
            | Some d ↦ λ f. one (file_alone c) (file_alone d) first ((h (file_alone d)).1 (file_here-from ss d f)) refl refl refl
          ] refl
    ] refl

-- ---- trees

pub one_file-within : (name : List ℕ) (rs : List Rest) → HasOneFile rs → HasOneFile (within name rs)
one_file-within name rs one a b c d e f g = one (on_from name a) (on_from name b) (within-from name rs a c) (within-from name rs b d) (ap (λ (ns : List (List ℕ)). name ∷ ns) e) f g

tree_at-members : (most : ℕ) (rs ss : List Rest) → HasSameMembers rs ss → HasOneFile rs → tree_at most rs ≡ tree_at most ss
tree_at-members zero rs ss h one = refl
tree_at-members (suc most) rs ss h one =
    ap (λ (names : List (List ℕ)). forest (λ n. file_here (within n rs)) (λ n. tree_at most (within n rs)) names) (names_in-members rs ss h)
    ∙ forest-agree (λ n. file_here (within n rs)) (λ n. file_here (within n ss)) (λ n. tree_at most (within n rs)) (λ n. tree_at most (within n ss)) (names_in ss)
    (All-members (λ n. (file_here (within n rs) ≡ file_here (within n ss)) × (tree_at most (within n rs) ≡ tree_at most (within n ss))) (names_in ss)
    (λ n c. (
      file_here-members (within n rs) (within n ss) (within-members n rs ss h) (one_file-within n rs one),
      tree_at-members most (within n rs) (within n ss) (within-members n rs ss h) (one_file-within n rs one),
    )))

pub tree_of-members : (rs ss : List Rest) → HasSameMembers rs ss → HasOneFile rs → tree_of rs ≡ tree_of ss
tree_of-members rs ss h one =
    let most = max (levels rs) (levels ss) in
    tree_of-at most rs (omega arith) ∙ tree_at-members most rs ss h one ∙ sym (tree_of-at most ss (omega arith))
