-- What holds of each entry holds of each name and file of the tree.
use Rattle.std.proofs.Common.{◌≡◌, ℕ, zero, suc, true, false, List, [], ◌∷◌, Option, Some, None, refl, cond, subst}
use Rattle.std.specs.Prelude.{IfSome}
use Rattle.std.specs.List.{AllByRecursion}
use Rattle.std.specs.Str.{bytes_eq}
use Rattle.rx_base.proofs.Members.{All-member, All-members}
use Rattle.rx_tree.specs.Entries.{Content}
use Rattle.rx_tree.specs.Listings.{dir_at}
use Rattle.rx_tree.specs.Trees.{Tree, End, File, Dir, Rest, file_here, forest, names_in, planted, tree_at, tree_of, within}
use Rattle.rx_tree.proofs.ForestLaws.{names_in-from}
use Rattle.rx_tree.proofs.TreeMembers.{file_alone, file_here-from, on_from, within-from}

module _ (Name : List ℕ → Type 0) (Holds : Content → Type 0) where
  -- of each name, and of each file
  abbrev pub HoldsEach : Tree → Type 0
  HoldsEach End = Unit {0}
  HoldsEach (File n c t) = Name n × Holds c × HoldsEach t
  HoldsEach (Dir n s t) = Name n × HoldsEach s × HoldsEach t

  pub record HoldsOf (r : Rest) : Type 0 where
    pub names : AllByRecursion Name r.names
    pub file : IfSome r.file Holds

  forest_holds : (file : List ℕ → Option Content) (sub : List ℕ → Tree) (names : List (List ℕ)) → AllByRecursion (λ n. Name n × IfSome (file n) Holds × HoldsEach (sub n)) names → HoldsEach (forest file sub names)
  forest_holds file sub [] h = tt
  forest_holds file sub (n ∷ ns) h =
      elim (file n) as (λ o. IfSome o Holds → HoldsEach (planted n o (sub n) (forest file sub ns))) [
        | Some c ↦ λ d. (h.0.0, d, forest_holds file sub ns h.1)
        | None ↦ λ d. (h.0.0, h.0.2, forest_holds file sub ns h.1)
      ] h.0.1

  file_holds : (n : List ℕ) (rs : List Rest) → AllByRecursion HoldsOf rs → IfSome (file_here (within n rs)) Holds
  file_holds n rs g =
      elim (file_here (within n rs)) as (λ o. file_here (within n rs) ≡ o → IfSome o Holds) [
        | None ↦ λ e. tt
        | Some c ↦ λ e. (All-member HoldsOf rs (on_from n (file_alone c)) g (within-from n rs (file_alone c) (file_here-from (within n rs) c e))).file
      ] refl

  within_holds : (n : List ℕ) (rs : List Rest) → AllByRecursion HoldsOf rs → AllByRecursion HoldsOf (within n rs)
  within_holds n rs g =
      All-members HoldsOf (within n rs) (λ q c. let up = All-member HoldsOf rs (on_from n q) g (within-from n rs q c) in record { names = up.names.1; file = up.file })

  holds_at : (most : ℕ) (rs : List Rest) → AllByRecursion HoldsOf rs → HoldsEach (tree_at most rs)
  holds_at zero rs g = tt
  holds_at (suc most) rs g =
      forest_holds (λ n. file_here (within n rs)) (λ n. tree_at most (within n rs)) (names_in rs)
      (All-members (λ n. Name n × IfSome (file_here (within n rs)) Holds × HoldsEach (tree_at most (within n rs))) (names_in rs)
      (λ n c.
      let q = names_in-from rs n c in
      ((All-member HoldsOf rs (on_from n q.0) g q.1).names.0, file_holds n rs g, holds_at most (within n rs) (within_holds n rs g))))

  pub tree_holds : (rs : List Rest) → AllByRecursion HoldsOf rs → HoldsEach (tree_of rs)
  unfolding tree_of
  tree_holds rs g = holds_at _ rs g

  pub dir_holds : (n : List ℕ) (t s : Tree) → HoldsEach t → dir_at n t ≡ Some s → HoldsEach s
  dir_holds n End s g e = absurd (cc e)
  dir_holds n (File m c t) s g e = dir_holds n t s g.2 e
  dir_holds n (Dir m sub t) s g e =
      elim (bytes_eq m n) as (λ b. cond b (Some sub) (dir_at n t) ≡ Some s → HoldsEach s) [
        | true ↦ λ e. let is : sub ≡ s = cc e in subst HoldsEach is g.1
        | false ↦ λ e. dir_holds n t s g.2 e
      ] e
