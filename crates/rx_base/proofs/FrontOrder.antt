-- The order of texts by their bytes, and texts that begin with others.
use Rattle.std.proofs.Common.{◌≡◌, ◌≢◌, ℕ, zero, suc, ◌<◌, ◌≤◌, true, false, nat_eq, List, [], ◌∷◌, ◌++◌, length, take, drop, refl, sym, ap, ◌∙◌, arith, true≢false}
use Rattle.std.proofs.Common.{Some}
use Rattle.std.proofs.lemmas.Bool.Decides.{nat_tests, Decides-eqb}
use Rattle.std.proofs.lemmas.Cmp.{nat_list_cmp_total, tied_itself}
use Rattle.std.proofs.lemmas.Slice.Eq.{starts_is}
use Rattle.std.specs.declared.cmp.Ordering.TheVariants.{Less, Equal, Greater}
use Rattle.std.specs.Ordering.{is_lt, is_some_and, nat_cmp, ordering_reverse}
use Rattle.std.specs.Cmp.Lexicographic.{lists_agrees, slice_cmp, slice_partial_cmp}
use Rattle.std.specs.List.{starts_with}
use Rattle.rx_base.specs.SortedPaths.{is_before}
use Rattle.rx_base.proofs.Orderings.{less_not_equal, less_not_greater}

-- ---- one text before another

pub turned : (x y : List ℕ) → slice_cmp nat_cmp x y ≡ Less → slice_cmp nat_cmp y x ≡ Greater
turned x y lt = nat_list_cmp_total.antisymm y x ∙ ap ordering_reverse lt

-- no text is before one that is before it
pub not_both : (x y : List ℕ) → slice_cmp nat_cmp x y ≡ Less → slice_cmp nat_cmp y x ≡ Less → ⊥
not_both x y lt back = less_not_greater (sym back ∙ turned x y lt)

-- a text is not before itself
pub not_self : (x : List ℕ) → slice_cmp nat_cmp x x ≡ Less → ⊥
not_self x lt = less_not_equal (sym lt ∙ tied_itself nat_list_cmp_total x)

-- what `<` tells of two texts
pub is_lt-partial : (x y : List ℕ) → is_some_and is_lt (slice_partial_cmp (λ a b. Some (nat_cmp a b)) x y) ≡ is_lt (slice_cmp nat_cmp x y)
is_lt-partial x y = ap (is_some_and is_lt) (lists_agrees (λ a b. refl) x y)

nat_cmp-self : (x : ℕ) → nat_cmp x x ≡ Equal
nat_cmp-self x = grind (arith, nat_tests)

-- ---- texts with one front

-- the shorter of two fronts of a text is before the longer
pub front_less : (text : List ℕ) (j k : ℕ) → j < k → k ≤ length text → slice_cmp nat_cmp (take j text) (take k text) ≡ Less
front_less text j zero lt le = absurd (omega arith)
front_less [] j (suc k) lt le = absurd (omega arith)
front_less (x ∷ xs) zero (suc k) lt le = refl
front_less (x ∷ xs) (suc j) (suc k) lt le = rw (nat_cmp-self x) (front_less xs j k (omega arith) (omega arith))

-- behind one front, what follows decides
pub cmp-front : (front x y : List ℕ) → slice_cmp nat_cmp (front ++ x) (front ++ y) ≡ slice_cmp nat_cmp x y
cmp-front [] x y = refl
cmp-front (f ∷ fs) x y = rw (nat_cmp-self f) (cmp-front fs x y)

-- a text that doesn't begin with another is before it also where that one goes on
pub before_more : (text other more : List ℕ) → ((rest : List ℕ) → text ≢ other ++ rest) → is_lt (slice_cmp nat_cmp text (other ++ more)) ≡ is_lt (slice_cmp nat_cmp text other)
before_more text [] more none = absurd (none text refl)
before_more [] (y ∷ ys) more none = refl
before_more (x ∷ xs) (y ∷ ys) more none =
    elim (nat_cmp x y) as (λ o. nat_cmp x y ≡ o → is_lt (slice_cmp nat_cmp (x ∷ xs) (y ∷ ys ++ more)) ≡ is_lt (slice_cmp nat_cmp (x ∷ xs) (y ∷ ys))) [
      | Less ↦ λ e. rw e refl
      | Greater ↦ λ e. rw e refl
      | Equal ↦ λ e.
          let same : x ≡ y = grind (arith, nat_tests) in
          rw e (before_more xs ys more (λ rest is. none rest (ap (λ z. z ∷ xs) same ∙ ap (λ zs. y ∷ zs) is)))
    ] refl

-- a text that begins with another isn't before it
pub starts_not_before : (front rest : List ℕ) → is_lt (slice_cmp nat_cmp (front ++ rest) front) ≡ false
starts_not_before [] [] = refl
starts_not_before [] (r ∷ rs) = refl
starts_not_before (f ∷ fs) rest = rw (nat_cmp-self f) (starts_not_before fs rest)

-- what stands between a front and a text that begins with it begins with it too
pub between : (front text rest : List ℕ) → is_lt (slice_cmp nat_cmp text front) ≡ false → is_lt (slice_cmp nat_cmp (front ++ rest) text) ≡ false → starts_with nat_eq text front ≡ true
between [] text rest low high = refl
between (f ∷ fs) [] rest low high = absurd (true≢false low)
between (f ∷ fs) (x ∷ xs) rest low high =
    elim (nat_cmp x f) as (λ o. nat_cmp x f ≡ o → starts_with nat_eq (x ∷ xs) (f ∷ fs) ≡ true) [
      | Less ↦ λ e. absurd (true≢false (rw e at low))
      | Greater ↦ λ e.
          let back : nat_cmp f x ≡ Less = grind (arith, nat_tests) in
          absurd (true≢false (rw back at high))
      | Equal ↦ λ e.
          let back : nat_cmp f x ≡ Equal = grind (arith, nat_tests) in
          let one : nat_eq f x ≡ true = grind (arith, nat_tests) in
          rw one (between fs xs rest (rw e at low) (rw back at high))
    ] refl

-- a text that begins with a front is the front with a rest
pub started : (text front : List ℕ) → starts_with nat_eq text front ≡ true → text ≡ front ++ drop (length front) text
started text front h = (starts_is Decides-eqb text front (starts_with nat_eq text front) refl).0 h

-- a front with a rest begins with the front
pub starts : (text front rest : List ℕ) → text ≡ front ++ rest → starts_with nat_eq text front ≡ true
starts text front rest e = (starts_is Decides-eqb text front (starts_with nat_eq text front) refl).1 rest e

-- ---- a text before another one with a slash behind it

pub before_front : (text other rest : List ℕ) → text ≡ other ++ rest → is_lt (slice_cmp nat_cmp rest (47 ∷ [])) ≡ is_before text other
before_front text other rest e = rw e (sym (ap is_lt (cmp-front other rest (47 ∷ []))))

pub before_other : (text other : List ℕ) → ((rest : List ℕ) → text ≢ other ++ rest) → is_lt (slice_cmp nat_cmp text other) ≡ is_before text other
before_other text other none = sym (before_more text other (47 ∷ []) none)
