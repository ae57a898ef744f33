-- A sorted list with the items of another one is that list in order.
use Rattle.std.proofs.Common.{◌≡◌, ℕ, suc, ◌+◌, Bool, true, false, cond, List, [], ◌∷◌, get_or, refl, sym, ◌∙◌, ap, subst, arith, true≢false}
use Rattle.std.specs.declared.cmp.Ordering.{Ordering}
use Rattle.std.specs.declared.cmp.Ordering.TheVariants.{Less, Equal, Greater}
use Rattle.std.specs.Ordering.{is_lt, nat_cmp, ordering_reverse}
use Rattle.std.specs.Cmp.{IsTotalOrder, IsStrictWeakOrder, on_total, then_total}
use Rattle.std.specs.Cmp.Lexicographic.{slice_cmp, nat_list_cmp_total}
use Rattle.std.specs.FinMap.{IsAntisymmetric, nat_cmp-IsAntisymmetric, slice_cmp-IsAntisymmetric}
use Rattle.std.specs.List.{AllByRecursion, sum_by}
use Rattle.std.specs.List.Sorted.{IsPermutation, IsSorted}
use Rattle.std.proofs.lemmas.List.Elements.{recursion_from_All}
use Rattle.std.proofs.lemmas.List.Sorted.{ranks_by, sorted_far, sum_by-IsPermutation}
use Rattle.std.proofs.lemmas.List.Sums.{sum_by-cons}
use Rattle.rx_world.specs.declared.commands.Pair.{Pair}
use Rattle.rx_base.proofs.Lists.{All-weaken}
use Rattle.rx_base.proofs.Orderings.{then-Equal}
use Rattle.rx_action.specs.Pairs.{by_name, in_order, placed}

module _ {K : Type 0} {R : K → K → Ordering} (o : IsTotalOrder R) (same : IsAntisymmetric R) where
  abbrev lt : K → K → Bool
  lt x y = is_lt (R x y)

  weak : IsStrictWeakOrder lt
  weak = ranks_by o (λ (x : K). x)

  -- no item is less than one before it
  abbrev Rises : List K → Type 0
  Rises [] = Unit {0}
  Rises (x ∷ xs) = AllByRecursion (λ y. lt y x ≡ false) xs × Rises xs

  Rises-sorted : (xs : List K) → IsSorted R xs → Rises xs
  Rises-sorted [] s = tt
  Rises-sorted (x ∷ xs) s = (
    recursion_from_All (λ y. lt y x ≡ false) xs (λ k d below. sorted_far lt weak (x ∷ xs) s 0 (suc k) d (omega arith) (omega arith)),
    Rises-sorted xs (λ k d low high. subst (λ (n : ℕ). lt (get_or (x ∷ xs) n d) (get_or xs k d) ≡ false) {x = suc k + 1} {y = suc (k + 1)} (omega arith) (s (suc k) d (omega arith) (omega arith))),
  )

  -- ---- an item put into its place

  All-placed : (P : K → Type 0) (x : K) (ys : List K) → P x → AllByRecursion P ys → AllByRecursion P (placed R x ys)
  All-placed P x [] h all = (h, tt)
  All-placed P x (y ∷ ys) h all =
      elim (lt y x) as (λ b. lt y x ≡ b → AllByRecursion P (placed R x (y ∷ ys))) [
        | true ↦ λ e. rw e (all.0, All-placed P x ys h all.1)
        | false ↦ λ e. rw e (h, all)
      ] refl

  Rises-placed : (x : K) (ys : List K) → Rises ys → Rises (placed R x ys)
  Rises-placed x [] s = (tt, tt)
  Rises-placed x (y ∷ ys) s =
      elim (lt y x) as (λ b. lt y x ≡ b → Rises (placed R x (y ∷ ys))) [
        | true ↦ λ e. rw e (All-placed (λ z. lt z y ≡ false) x ys (weak.one_way y x e) s.0, Rises-placed x ys s.1)
        | false ↦ λ e. rw e ((e, All-weaken (λ z. lt z y ≡ false) (λ z. lt z x ≡ false) ys (λ z h. weak.chain z y x h e) s.0), s)
      ] refl

  sum_by-placed : (f : K → ℕ) (x : K) (ys : List K) → sum_by f (placed R x ys) ≡ f x + sum_by f ys
  sum_by-placed f x [] = sum_by-cons f x []
  sum_by-placed f x (y ∷ ys) =
      elim (lt y x) as (λ b. lt y x ≡ b → sum_by f (placed R x (y ∷ ys)) ≡ f x + sum_by f (y ∷ ys)) [
        | true ↦ λ e. rw e (let a = sum_by-cons f y (placed R x ys) in let b = sum_by-cons f y ys in let c = sum_by-placed f x ys in omega (arith, a, b, c))
        | false ↦ λ e. rw e (sum_by-cons f x (y ∷ ys))
      ] refl

  Rises-in_order : (xs : List K) → Rises (in_order R xs)
  Rises-in_order [] = tt
  Rises-in_order (x ∷ xs) = Rises-placed x (in_order R xs) (Rises-in_order xs)

  sum_by-in_order : (f : K → ℕ) (xs : List K) → sum_by f (in_order R xs) ≡ sum_by f xs
  sum_by-in_order f [] = refl
  sum_by-in_order f (x ∷ xs) =
      let a = sum_by-placed f x (in_order R xs) in let b = sum_by-in_order f xs in let c = sum_by-cons f x xs in omega (arith, a, b, c)

  -- ---- the items with their order determine a list

  itself : (x : K) → lt x x ≡ false
  itself x =
      elim (lt x x) as (λ b. lt x x ≡ b → lt x x ≡ false) [
        | true ↦ λ e. weak.one_way x x e
        | false ↦ λ e. e
      ] refl

  -- how many aren't above an item
  abbrev level : K → K → ℕ
  level x y = cond (lt x y) 0 1

  above : (x y z : K) → lt x y ≡ true → lt z y ≡ false → lt x z ≡ true
  above x y z e h =
      elim (lt x z) as (λ b. lt x z ≡ b → lt x z ≡ true) [
        | true ↦ λ k. k
        | false ↦ λ k. absurd (true≢false (sym e ∙ weak.chain x z y k h))
      ] refl

  none : (x : K) (ys : List K) → AllByRecursion (λ y. lt x y ≡ true) ys → sum_by (level x) ys ≡ 0
  none x [] h = refl
  none x (y ∷ ys) h =
      let zero_here : level x y ≡ 0 = ap (λ (b : Bool). cond b 0 1) h.0 in
      let a = sum_by-cons (level x) y ys in let b = none x ys h.1 in omega (arith, a, b, zero_here)

  lower : (x y : K) (xs ys : List K) → lt x y ≡ true → AllByRecursion (λ z. lt z y ≡ false) ys → sum_by (level x) (x ∷ xs) ≡ sum_by (level x) (y ∷ ys) → ⊥
  lower x y xs ys e all eq =
      let one_here : level x x ≡ 1 = ap (λ (b : Bool). cond b 0 1) (itself x) in
      let a = sum_by-cons (level x) x xs in
      let b = none x (y ∷ ys) (e, All-weaken (λ z. lt z y ≡ false) (λ z. lt x z ≡ true) ys (λ z h. above x y z e h) all) in
      omega (arith, a, b, one_here, eq)

  unique : (xs ys : List K) → Rises xs → Rises ys → ((f : K → ℕ) → sum_by f xs ≡ sum_by f ys) → xs ≡ ys
  unique [] [] sx sy h = refl
  unique [] (y ∷ ys) sx sy h = absurd (let a = sum_by-cons (λ _. 1) y ys in let b = h (λ _. 1) in omega (arith, a, b))
  unique (x ∷ xs) [] sx sy h = absurd (let a = sum_by-cons (λ _. 1) x xs in let b = h (λ _. 1) in omega (arith, a, b))
  unique (x ∷ xs) (y ∷ ys) sx sy h =
      elim (R x y) as (λ r. R x y ≡ r → x ∷ xs ≡ y ∷ ys) [
        | Less ↦ λ e. absurd (lower x y xs ys (ap is_lt e) sy.0 (h (level x)))
        | Greater ↦ λ e. absurd (lower y x ys xs (ap is_lt (o.antisymm y x ∙ ap ordering_reverse e)) sx.0 (sym (h (level y))))
        | Equal ↦ λ e.
            let is : x ≡ y = same x y e in
            let tails : (f : K → ℕ) → sum_by f xs ≡ sum_by f ys = λ f. (let a = sum_by-cons f x xs in let b = sum_by-cons f y ys in let c = h f in let d : f x ≡ f y = ap f is in omega (arith, a, b, c, d)) in
            ap (λ (z : K). z ∷ xs) is ∙ ap (λ (zs : List K). y ∷ zs) (unique xs ys sx.1 sy.1 tails)
      ] refl

  pub is_in_order : (xs ys : List K) → IsPermutation xs ys → IsSorted R ys → ys ≡ in_order R xs
  is_in_order xs ys p s = unique ys (in_order R xs) (Rises-sorted ys s) (Rises-in_order xs) (λ f. sum_by-IsPermutation f xs ys p ∙ sym (sum_by-in_order f xs))

-- ---- pairs

pub by_name_total : IsTotalOrder by_name
by_name_total = then_total (on_total (λ (p : Pair). p.name) nat_list_cmp_total) (on_total (λ (p : Pair). p.value) nat_list_cmp_total)

pub by_name_same : IsAntisymmetric by_name
by_name_same x y e =
    let texts = slice_cmp-IsAntisymmetric nat_cmp-IsAntisymmetric in
    let parts = then-Equal (slice_cmp nat_cmp x.name y.name) (slice_cmp nat_cmp x.value y.value) e in
    let name : x.name ≡ y.name = texts x.name y.name parts.0 in
    let value : x.value ≡ y.value = texts x.value y.value parts.1 in
    λ i. record { name = name i; value = value i }
