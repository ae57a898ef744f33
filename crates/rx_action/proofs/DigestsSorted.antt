-- What a sort and a `dedup` leave of digests.
use Rattle.std.proofs.Common.{◌≡◌, ◌==◌, ◌&&◌, Bool, true, List, [], bytes_eq, refl, sym, ap, subst, arith}
use Rattle.std.specs.Cmp.{both_ways}
use Rattle.std.specs.Ordering.{eq_by_cmp, is_eq}
use Rattle.std.specs.List.Retain.{IsFiltered, DiffersFromLast}
use Rattle.std.specs.List.Sorted.{IsPermutation, IsSorted, IsStrictlySortedBy}
use Rattle.std.proofs.lemmas.Bool.{and_parts, eqb-true}
use Rattle.std.proofs.lemmas.Bool.Decides.{nat_tests}
use Rattle.std.proofs.lemmas.Cmp.{eq_by_cmp_equiv, tied_itself}
use Rattle.std.proofs.lemmas.List.Filters.{dedup_is}
use Rattle.std.proofs.lemmas.List.Kept.{IsStrictlySortedBy-dedup, Contains-dedup, Contains-from_dedup}
use Rattle.std.proofs.lemmas.List.Sorted.{Contains-permutation, IsPermutation-sym}
use Rattle.std.proofs.lemmas.Slice.Eq.{bytes_eq-Decides}
use Rattle.rx_base.specs.Digests.{by_digest, by_digest_total}
use Rattle.rx_base.specs.SortedPaths.{HasSameMembers, sorted_once}
use Rattle.rx_base.specs.declared.digests.Digest.{Digest}
use Rattle.rx_base.proofs.ByteLists.{bytes_eq-itself}
use Rattle.rx_base.proofs.DigestOrder.{by_digest-same}
use Rattle.rx_base.proofs.Orderings.{Equal-from_is_eq}
use Rattle.rx_base.proofs.Orders.{is_sorted_once}

-- ---- digests are equal where they tie

itself : (x : Digest) → (bytes_eq x.hash x.hash && (x.size == x.size)) ≡ true
itself x = let same : (x.size == x.size) ≡ true = grind (arith, nat_tests) in rw (bytes_eq-itself x.hash, same) refl

are_equal : (x y : Digest) → (bytes_eq x.hash y.hash && (x.size == y.size)) ≡ true → x ≡ y
are_equal x y e =
    let parts = and_parts (bytes_eq x.hash y.hash) (x.size == y.size) e in
    let hash : x.hash ≡ y.hash = (bytes_eq-Decides x.hash y.hash).0 parts.0 in
    let size : x.size ≡ y.size = eqb-true x.size y.size parts.1 in
    λ i. record { hash = hash i; size = size i }

pub equal_ties : (x y : Digest) → (bytes_eq x.hash y.hash && (x.size == y.size)) ≡ eq_by_cmp by_digest x y
equal_ties x y =
    both_ways (bytes_eq x.hash y.hash && (x.size == y.size)) (eq_by_cmp by_digest x y)
    (λ e. subst (λ (z : Digest). eq_by_cmp by_digest x z ≡ true) (are_equal x y e) (ap is_eq (tied_itself by_digest_total x)))
    (λ e. subst (λ (z : Digest). (bytes_eq x.hash z.hash && (x.size == z.size)) ≡ true) (by_digest-same x y (Equal-from_is_eq (by_digest x y) e)) (itself x))

-- ---- a sort and a `dedup`

-- a test of two digests that passes where they tie
module _ (equals : Digest → Digest → Bool) (ties : (x y : Digest) → equals x y ≡ eq_by_cmp by_digest x y) where
  kept_by : (sorted once : List Digest) → IsFiltered (DiffersFromLast equals) [] sorted once → IsFiltered (DiffersFromLast (eq_by_cmp by_digest)) [] sorted once
  kept_by sorted once kept = subst (λ (test : Digest → Digest → Bool). IsFiltered (DiffersFromLast test) [] sorted once) (λ i x y. ties x y i) kept

  members : (digests sorted once : List Digest) → IsPermutation digests sorted → IsFiltered (DiffersFromLast (eq_by_cmp by_digest)) [] sorted once → HasSameMembers digests once
  members digests sorted once p kept =
      subst (λ (found : List Digest). HasSameMembers digests found) (sym (dedup_is (eq_by_cmp by_digest) sorted once kept))
      (λ digest. (
        λ c. Contains-dedup (eq_by_cmp_equiv by_digest_total) (λ x y e. by_digest-same x y (Equal-from_is_eq (by_digest x y) e)) sorted digest (Contains-permutation digests sorted digest p c),
        λ c. Contains-permutation sorted digests digest (IsPermutation-sym digests sorted p) (Contains-from_dedup (eq_by_cmp by_digest) sorted digest c),
      ))

  pub once_is : (digests sorted once : List Digest) → IsPermutation digests sorted → IsSorted by_digest sorted → IsFiltered (DiffersFromLast equals) [] sorted once → once ≡ sorted_once by_digest digests
  once_is digests sorted once p s kept =
      let same = kept_by sorted once kept in
      is_sorted_once by_digest_total by_digest-same digests once
      (subst (λ (found : List Digest). IsStrictlySortedBy by_digest found) (sym (dedup_is (eq_by_cmp by_digest) sorted once same)) (IsStrictlySortedBy-dedup by_digest_total (λ x y. refl) sorted s))
      (members digests sorted once p same)
