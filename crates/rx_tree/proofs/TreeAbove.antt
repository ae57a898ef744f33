-- Directories at or above other entries add nothing to a tree.
use Rattle.std.proofs.Common.{◌≡◌, ◌∙◌, ℕ, zero, suc, List, ◌∷◌, ◌++◌, Some, None, max, refl, sym, ap, subst, arith}
use Rattle.std.specs.Prelude.{IsSome}
use Rattle.std.specs.FinMap.{nat_cmp-IsAntisymmetric, slice_cmp-IsAntisymmetric}
use Rattle.std.specs.List.{Contains}
use Rattle.std.proofs.lemmas.Cmp.{nat_list_cmp_total}
use Rattle.rx_tree.specs.Trees.{Rest, file_here, forest, levels, names_in, tree_at, tree_of, within}
use Rattle.rx_base.proofs.Members.{All-members}
use Rattle.rx_tree.proofs.Members.{sorted_alike}
use Rattle.rx_tree.proofs.TreeLemmas.{tree_of-at}
use Rattle.rx_tree.proofs.TreeMembers.{HasOneFile, file_alone, file_here-from, file_here-none, firsts-from, firsts-to, on_from, one_file-within, within-from, within-to}
use Rattle.rx_tree.proofs.TreeRuns.{forest-agree, firsts}

-- the entry lies at or above one of these
pub record LiesAbove (q : Rest) (ss : List Rest) : Type 0 where
  pub lower : Rest
  pub there : Contains ss lower
  pub more : List (List ℕ)
  pub on : lower.names ≡ q.names ++ more

-- The same files, and each entry but the root lies at or above one of the other list.
pub record AreAlike (rs ss : List Rest) : Type 0 where
  pub files : (q : Rest) → IsSome q.file → Contains rs q → Contains ss q
  pub files_back : (q : Rest) → IsSome q.file → Contains ss q → Contains rs q
  pub above : (name : List ℕ) (q : Rest) → Contains rs (on_from name q) → LiesAbove (on_from name q) ss
  pub above_back : (name : List ℕ) (q : Rest) → Contains ss (on_from name q) → LiesAbove (on_from name q) rs

turned : (rs ss : List Rest) → AreAlike rs ss → AreAlike ss rs
turned rs ss h = record { files = h.files_back; files_back = h.files; above = h.above_back; above_back = h.above }

-- an entry whose names begin with this one
goes_from : (name : List ℕ) (names : List (List ℕ)) (p : Rest) → p.names ≡ name ∷ names → p ≡ on_from name (record { names = names; file = p.file })
goes_from name names p e = ap (λ (all : List (List ℕ)). let rest : Rest = record { names = all; file = p.file } in rest) e

within-above : (name : List ℕ) (rs ss : List Rest) → AreAlike rs ss → (q : Rest) → Contains (within name rs) q → LiesAbove q (within name ss)
within-above name rs ss h q c =
    let a = h.above name q (within-from name rs q c) in
    let lower : Rest = record { names = q.names ++ a.more; file = a.lower.file } in
    record {
      lower = lower;
      there = within-to name ss lower (subst (λ (x : Rest). Contains ss x) (goes_from name (q.names ++ a.more) a.lower a.on) a.there);
      more = a.more;
      on = refl;
    }

within-alike : (name : List ℕ) (rs ss : List Rest) → AreAlike rs ss → AreAlike (within name rs) (within name ss)
within-alike name rs ss h = record {
  files = λ q some c. within-to name ss q (h.files (on_from name q) some (within-from name rs q c));
  files_back = λ q some c. within-to name rs q (h.files_back (on_from name q) some (within-from name ss q c));
  above = λ n q c. within-above name rs ss h (on_from n q) c;
  above_back = λ n q c. within-above name ss rs (turned rs ss h) (on_from n q) c;
}

firsts-half : (rs ss : List Rest) → AreAlike rs ss → (name : List ℕ) → Contains (firsts rs) name → Contains (firsts ss) name
firsts-half rs ss h name c =
    let from = firsts-from rs name c in
    let a = h.above name from.0 from.1 in
    let lower : Rest = record { names = from.0.names ++ a.more; file = a.lower.file } in
    firsts-to ss name lower (subst (λ (x : Rest). Contains ss x) (goes_from name (from.0.names ++ a.more) a.lower a.on) a.there)

names_in-alike : (rs ss : List Rest) → AreAlike rs ss → names_in rs ≡ names_in ss
names_in-alike rs ss h =
    sorted_alike nat_list_cmp_total (slice_cmp-IsAntisymmetric nat_cmp-IsAntisymmetric) (firsts rs) (firsts ss)
    (λ name. (firsts-half rs ss h name, firsts-half ss rs (turned rs ss h) name))

file_here-alike : (rs ss : List Rest) → AreAlike rs ss → HasOneFile rs → file_here rs ≡ file_here ss
file_here-alike rs ss h one =
    elim (file_here rs) as (λ o. file_here rs ≡ o → o ≡ file_here ss) [
      | None ↦ λ e.
          elim (file_here ss) as (λ p. file_here ss ≡ p → None ≡ p) [
            | None ↦ λ f. refl
            | Some d ↦ λ f. absurd (file_here-none rs d e (h.files_back (file_alone d) refl (file_here-from ss d f)))
          ] refl
      | Some c ↦ λ e.
          let first = file_here-from rs c e in
          elim (file_here ss) as (λ p. file_here ss ≡ p → Some c ≡ p) [
            | None ↦ λ f. absurd (file_here-none ss c f (h.files (file_alone c) refl first))
            | Some d ↦ λ f. one (file_alone c) (file_alone d) first (h.files_back (file_alone d) refl (file_here-from ss d f)) refl refl refl
          ] refl
    ] refl

tree_at-alike : (most : ℕ) (rs ss : List Rest) → AreAlike rs ss → HasOneFile rs → tree_at most rs ≡ tree_at most ss
tree_at-alike zero rs ss h one = refl
tree_at-alike (suc most) rs ss h one =
    ap (λ (names : List (List ℕ)). forest (λ n. file_here (within n rs)) (λ n. tree_at most (within n rs)) names) (names_in-alike rs ss h)
    ∙ forest-agree (λ n. file_here (within n rs)) (λ n. file_here (within n ss)) (λ n. tree_at most (within n rs)) (λ n. tree_at most (within n ss)) (names_in ss)
    (All-members (λ n. (file_here (within n rs) ≡ file_here (within n ss)) × (tree_at most (within n rs) ≡ tree_at most (within n ss))) (names_in ss)
    (λ n c. (
      file_here-alike (within n rs) (within n ss) (within-alike n rs ss h) (one_file-within n rs one),
      tree_at-alike most (within n rs) (within n ss) (within-alike n rs ss h) (one_file-within n rs one),
    )))

-- Lists with the same files, whose directories lie at or above entries of each other, have one tree.
pub tree_of-alike : (rs ss : List Rest) → AreAlike rs ss → HasOneFile rs → tree_of rs ≡ tree_of ss
tree_of-alike rs ss h one =
    let most = max (levels rs) (levels ss) in
    tree_of-at most rs (omega arith) ∙ tree_at-alike most rs ss h one ∙ sym (tree_of-at most ss (omega arith))
