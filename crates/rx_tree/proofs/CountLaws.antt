-- A walk sees no more files than are listed.
use Rattle.std.proofs.Common.{◌≡◌, ◌≢◌, ◌∙◌, ℕ, zero, suc, ◌+◌, ◌≤◌, inl, inr, Bool, true, false, List, [], ◌∷◌, ◌++◌, Option, Some, None, cond, append-nil, append_assoc, refl, sym, ap, subst, arith}
use Rattle.std.specs.Ordering.{nat_cmp}
use Rattle.std.specs.FinMap.{nat_cmp-IsAntisymmetric, slice_cmp-IsAntisymmetric}
use Rattle.std.specs.Cmp.Lexicographic.{slice_cmp}
use Rattle.std.specs.List.{AllByRecursion, Contains}
use Rattle.std.specs.List.Sorted.{IsStrictlySortedBy}
use Rattle.std.specs.Str.{bytes_eq}
use Rattle.std.proofs.lemmas.Cmp.{nat_list_cmp_total}
use Rattle.std.proofs.lemmas.Slice.Eq.{bytes_eq-Decides}
use Rattle.rx_base.proofs.Orders.{IsStrictlySortedBy-sorted_once}
use Rattle.rx_base.proofs.ByteLists.{bytes_eq-other}
use Rattle.rx_base.proofs.Lists.{All-weaken}
use Rattle.rx_base.proofs.Members.{All-members, Contains-cons_cases, not_in_nothing}
use Rattle.rx_tree.specs.declared.listings.TreeFile.{TreeFile}
use Rattle.rx_tree.specs.Entries.{Content}
use Rattle.rx_tree.specs.Trees.{Tree, Rest, after, file_here, forest, names_in, planted, tree_at, within}
use Rattle.rx_tree.proofs.CanonicalLaws.{IsLower}
use Rattle.rx_tree.proofs.SeenLaws.{files_seen}
use Rattle.rx_tree.proofs.TreeMembers.{file_alone, file_here-from}
use Rattle.rx_tree.proofs.TreeRuns.{firsts, later_differs}
use Rattle.rx_tree.proofs.TreeWalks.{below, file_in, files_in}

-- ---- how many pass a test

abbrev pub tally : {A : Type 0} → (A → Bool) → List A → ℕ
tally test [] = 0
tally test (x ∷ xs) = cond (test x) 1 0 + tally test xs

pub tally-append : {A : Type 0} (test : A → Bool) (xs ys : List A) → tally test (xs ++ ys) ≡ tally test xs + tally test ys
tally-append test [] ys = omega arith
tally-append test (x ∷ xs) ys = let rest = tally-append test xs ys in omega arith

pub tally-some : {A : Type 0} (test : A → Bool) (xs : List A) (x : A) → Contains xs x → cond (test x) 1 0 ≤ tally test xs
tally-some test [] x c = absurd (not_in_nothing x c)
tally-some test (y ∷ ys) x c =
    elim (Contains-cons_cases y ys x c) [
      | inl is ↦ subst (λ z. cond (test z) 1 0 ≤ cond (test y) 1 0 + tally test ys) is (omega arith)
      | inr later ↦ let rest = tally-some test ys x later in omega arith
    ]

-- the sum over some names
abbrev total : (List ℕ → ℕ) → List (List ℕ) → ℕ
total weight [] = 0
total weight (n ∷ ns) = weight n + total weight ns

total-none : (weight : List ℕ → ℕ) (names : List (List ℕ)) → AllByRecursion (λ n. weight n ≡ 0) names → total weight names ≡ 0
total-none weight [] h = refl
total-none weight (n ∷ ns) h = let first = h.0 in let rest = total-none weight ns h.1 in omega arith

total-more : (f g h : List ℕ → ℕ) (names : List (List ℕ)) → ((n : List ℕ) → f n ≡ g n + h n) → total f names ≡ total g names + total h names
total-more f g h [] e = omega arith
total-more f g h (n ∷ ns) e = let first = e n in let rest = total-more f g h ns e in omega arith

module _ (test : TreeFile → Bool) where
  -- whether an entry is a file that passes, with these names before its own
  abbrev pub passes : List (List ℕ) → Option Content → List (List ℕ) → Bool
  passes at None names = false
  passes at (Some content) names = test (file_in (at ++ names) content)

  abbrev pub rests_passing : List (List ℕ) → List Rest → ℕ
  rests_passing at rs = tally (λ (r : Rest). passes at r.file r.names) rs

  passes_down : (at : List (List ℕ)) (n : List ℕ) (file : Option Content) (names : List (List ℕ)) → passes (at ++ n ∷ []) file names ≡ passes at file (n ∷ names)
  passes_down at n None names = refl
  passes_down at n (Some content) names = ap (λ (all : List (List ℕ)). test (file_in all content)) (append_assoc at (n ∷ []) names)

  -- ---- an entry lies within one name at most

  abbrev within_one : List (List ℕ) → Option Content → List (List ℕ) → List ℕ → ℕ
  within_one at file names n = rests_passing (at ++ n ∷ []) (after n file names)

  one_name : (at : List (List ℕ)) (file : Option Content) (m : List ℕ) (ms : List (List ℕ)) (n : List ℕ) → m ≡ n → within_one at file (m ∷ ms) n ≡ cond (passes at file (m ∷ ms)) 1 0
  one_name at file m ms n is =
      let yes : bytes_eq m n ≡ true = (bytes_eq-Decides m n).1 is in
      let down : passes (at ++ n ∷ []) file ms ≡ passes at file (m ∷ ms) = passes_down at n file ms ∙ ap (λ (k : List ℕ). passes at file (k ∷ ms)) (sym is) in
      let count : cond (passes at file (m ∷ ms)) 1 0 + 0 ≡ cond (passes at file (m ∷ ms)) 1 0 = omega arith in
      rw (yes, down) count

  no_name : (at : List (List ℕ)) (file : Option Content) (m : List ℕ) (ms : List (List ℕ)) (n : List ℕ) → m ≢ n → within_one at file (m ∷ ms) n ≡ 0
  no_name at file m ms n ne = rw (bytes_eq-other m n ne) refl

  total_within : (at : List (List ℕ)) (file : Option Content) (entry names : List (List ℕ)) → IsStrictlySortedBy (slice_cmp nat_cmp) names → total (within_one at file entry) names ≤ cond (passes at file entry) 1 0
  unfolding IsStrictlySortedBy
  total_within at file [] names s = let none = total-none (within_one at file []) names (All-members (λ n. within_one at file [] n ≡ 0) names (λ n c. refl)) in omega arith
  total_within at file (m ∷ ms) [] s = omega arith
  total_within at file (m ∷ ms) (n ∷ ns) s =
      elim (bytes_eq m n) as (λ b. bytes_eq m n ≡ b → within_one at file (m ∷ ms) n + total (within_one at file (m ∷ ms)) ns ≤ cond (passes at file (m ∷ ms)) 1 0) [
        | true ↦ λ e.
            let is : m ≡ n = (bytes_eq-Decides m n).0 e in
            let first = one_name at file m ms n is in
            let none = total-none (within_one at file (m ∷ ms)) ns
            (All-weaken (IsLower n) (λ k. within_one at file (m ∷ ms) k ≡ 0) ns (λ k lower. no_name at file m ms k (λ same. later_differs n k lower (sym is ∙ same))) s.0) in
            omega arith
        | false ↦ λ e.
            let ne : m ≢ n = λ is. let yes : bytes_eq m n ≡ true = (bytes_eq-Decides m n).1 is in cc (sym e ∙ yes) in
            let first = no_name at file m ms n ne in
            let rest = total_within at file (m ∷ ms) ns s.1 in
            omega arith
      ] refl

  total_rests : (at : List (List ℕ)) (rs : List Rest) (names : List (List ℕ)) → IsStrictlySortedBy (slice_cmp nat_cmp) names → total (λ n. rests_passing (at ++ n ∷ []) (within n rs)) names ≤ rests_passing at rs
  total_rests at [] names s = let none = total-none (λ n. rests_passing (at ++ n ∷ []) (within n [])) names (All-members (λ n. rests_passing (at ++ n ∷ []) (within n []) ≡ 0) names (λ n c. refl)) in omega arith
  total_rests at (r ∷ rs) names s =
      let more = total-more (λ n. rests_passing (at ++ n ∷ []) (within n (r ∷ rs))) (within_one at r.file r.names) (λ n. rests_passing (at ++ n ∷ []) (within n rs)) names
      (λ n. tally-append (λ (q : Rest). passes (at ++ n ∷ []) q.file q.names) (after n r.file r.names) (within n rs)) in
      let first = total_within at r.file r.names names s in
      let rest = total_rests at rs names s in
      omega arith

  -- ---- what is seen

  abbrev seen_passing : List (List ℕ) → Tree → ℕ
  seen_passing at t = tally test (files_seen at t)

  -- what is seen of a name, a file or a directory
  record IsAtMost (file : List ℕ → Option Content) (sub : List ℕ → Tree) (at : List (List ℕ)) (weight : List ℕ → ℕ) (n : List ℕ) : Type 0 where
    pub of_file : (content : Content) → file n ≡ Some content → cond (test (file_in (at ++ n ∷ []) content)) 1 0 ≤ weight n
    pub of_dir : seen_passing (at ++ n ∷ []) (sub n) ≤ weight n

  forest_passing : (file : List ℕ → Option Content) (sub : List ℕ → Tree) (at : List (List ℕ)) (weight : List ℕ → ℕ) (names : List (List ℕ)) → AllByRecursion (IsAtMost file sub at weight) names
      → tally test (files_in at (forest file sub names)) + tally test (below files_in at (forest file sub names)) ≤ total weight names
  forest_passing file sub at weight [] h = omega arith
  forest_passing file sub at weight (n ∷ ns) h =
      let t = forest file sub ns in
      let rest = forest_passing file sub at weight ns h.1 in
      elim (file n) as (λ o. file n ≡ o → tally test (files_in at (planted n o (sub n) t)) + tally test (below files_in at (planted n o (sub n) t)) ≤ weight n + total weight ns) [
        | Some c ↦ λ e. let one = h.0.of_file c e in omega arith
        | None ↦ λ e.
            let one : seen_passing (at ++ n ∷ []) (sub n) ≤ weight n = h.0.of_dir in
            let both = tally-append test (files_seen (at ++ n ∷ []) (sub n)) (below files_in at t) in
            omega arith
      ] refl

  pub seen_at_most : (most : ℕ) (rs : List Rest) (at : List (List ℕ)) → seen_passing at (tree_at most rs) ≤ rests_passing at rs
  seen_at_most zero rs at = omega arith
  seen_at_most (suc most) rs at =
      let names = names_in rs in
      let file = λ (n : List ℕ). file_here (within n rs) in
      let sub = λ (n : List ℕ). tree_at most (within n rs) in
      let weight = λ (n : List ℕ). rests_passing (at ++ n ∷ []) (within n rs) in
      let t = forest file sub names in
      let both = tally-append test (files_in at t) (below files_in at t) in
      let each = forest_passing file sub at weight names (All-members (IsAtMost file sub at weight) names (λ n c. record {
        of_file = λ content e.
            let one = tally-some (λ (q : Rest). passes (at ++ n ∷ []) q.file q.names) (within n rs) (file_alone content) (file_here-from (within n rs) content e) in
            subst (λ (all : List (List ℕ)). cond (test (file_in all content)) 1 0 ≤ weight n) (append-nil (at ++ n ∷ [])) one;
        of_dir = seen_at_most most (within n rs) (at ++ n ∷ []);
      })) in
      let all = total_rests at rs names (IsStrictlySortedBy-sorted_once nat_list_cmp_total (slice_cmp-IsAntisymmetric nat_cmp-IsAntisymmetric) (firsts rs)) in
      omega arith
