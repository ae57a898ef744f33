-- Blobs that are looked up by their digests.
use Rattle.std.proofs.Common.{◌≡◌, ◌∙◌, ℕ, zero, suc, ◌<◌, ◌≤◌, inl, inr, Bool, true, false, List, [], ◌∷◌, Some, None, length, get_or, map, refl, sym, ap, subst, arith}
use Rattle.std.specs.Prelude.{slice_get}
use Rattle.std.specs.Borrow.{Bor}
use Rattle.std.specs.declared.cmp.Ordering.{Ordering}
use Rattle.std.specs.declared.cmp.Ordering.TheVariants.{Less, Equal, Greater}
use Rattle.std.specs.Ordering.{is_eq, is_lt, nat_cmp, ordering_reverse}
use Rattle.std.specs.Cmp.{IsTotalOrder}
use Rattle.std.specs.Cmp.Lexicographic.{slice_cmp}
use Rattle.std.specs.FinMap.{nat_cmp-IsAntisymmetric, slice_cmp-IsAntisymmetric}
use Rattle.std.specs.List.{Contains, filter}
use Rattle.std.specs.List.Sorted.{IsPartitionedBy, IsPartitionPoint, IsStrictlySortedBy}
use Rattle.std.proofs.lemmas.Bool.{cases_lt, false≢true}
use Rattle.std.proofs.lemmas.Cmp.{nat_list_cmp_total, tied_itself}
use Rattle.std.proofs.lemmas.List.{get_or_default, length-map}
use Rattle.std.proofs.lemmas.List.Sorted.{Contains-permutation, IsPermutation-sym, ranks_by, sorted_far}
use Rattle.rx_base.specs.SortedPaths.{sorted_paths}
use Rattle.rx_base.specs.declared.digests.Digest.{Digest}
use Rattle.rx_base.proofs.Orders.{HasSameMembers-sorted_once, IsStrictlySortedBy-sorted_once}
use Rattle.rx_base.proofs.DigestOrder.{by_digest-same}
use Rattle.rx_base.proofs.Members.{All-member, Contains-cons_cases, Contains-head, not_in_nothing, Contains-filter, Contains-from_filter, Contains-from_map, Contains-map}
use Rattle.rx_base.proofs.Orderings.{Equal-from_is_eq, Equal-from_neither, Less-from_is_lt, then-not_less}
use Rattle.rx_base.specs.Digests.{by_digest, by_digest_total}
use Rattle.rx_tree.specs.declared.blobs.Blob.{Blob}
use Rattle.rx_tree.specs.Blobs.{blob_at, by_blob, by_blob_total}
use Rattle.rx_tree.specs.Refusals.{by_bytes}
use Rattle.rx_tree.specs.Shelves.{IsOrdered, IsShelf, blobs_of}

-- ---- orders

less_not_equal : (o : Ordering) → is_lt o ≡ true → is_eq o ≡ true → ⊥
less_not_equal Less e f = cc f
less_not_equal Equal e f = cc e
less_not_equal Greater e f = cc e

below_too : {K : Type 0} {R : K → K → Ordering} (o : IsTotalOrder R) (x y z : K) → is_lt (R y x) ≡ false → is_lt (R y z) ≡ true → is_lt (R x z) ≡ true
below_too {K} {R} o x y z low less =
    elim (R x y) as (λ r. R x y ≡ r → is_lt (R x z) ≡ true) [
      | Less ↦ λ e. ap is_lt (o.trans x y z e (Less-from_is_lt (R y z) less))
      | Equal ↦ λ e. ap is_lt (o.congr x y z e) ∙ less
      | Greater ↦ λ e. absurd (false≢true (sym low ∙ ap is_lt (o.antisymm y x ∙ ap ordering_reverse e)))
    ] refl

-- ---- references in order

pub partitioned : (refs : List (Bor Blob)) (digest : Digest) → IsOrdered refs → IsPartitionedBy (λ blob. is_lt (by_digest blob.now.digest digest)) refs
partitioned refs digest up = λ i j d le lt less.
    let far = sorted_far (λ (x y : Bor Blob). is_lt (by_blob x.now y.now)) (ranks_by by_blob_total (λ (x : Bor Blob). x.now)) refs up i j d le lt in
    let x = (get_or refs i d).now in
    let y = (get_or refs j d).now in
    below_too by_digest_total x.digest y.digest digest (then-not_less (by_digest y.digest x.digest) (slice_cmp nat_cmp y.bytes x.bytes) far) less

at_mapped : (P : Blob → Type 0) (refs : List (Bor Blob)) (k : ℕ) (d : Blob) → k < length (blobs_of refs) → ((e : Bor Blob) → P (get_or refs k e).now) → P (get_or (blobs_of refs) k d)
at_mapped P [] k d lt h = absurd (omega arith)
at_mapped P (r ∷ rs) zero d lt h = h r
at_mapped P (r ∷ rs) (suc k) d lt h = at_mapped P rs k d (omega arith) h

-- ---- the least of some bytes

first_of : (p : List ℕ) (ps : List (List ℕ)) (x : List ℕ) → IsStrictlySortedBy (slice_cmp nat_cmp) (p ∷ ps) → Contains (p ∷ ps) x → is_lt (by_bytes p x) ≡ false → p ≡ x
unfolding IsStrictlySortedBy
first_of p ps x s c h =
    elim (Contains-cons_cases p ps x c) [
      | inl is ↦ is
      | inr later ↦ absurd (false≢true (sym h ∙ ap is_lt (All-member (λ y. slice_cmp nat_cmp p y ≡ Less) ps x s.0 later)))
    ]

first_sorted : (ps : List (List ℕ)) (x : List ℕ) → IsStrictlySortedBy (slice_cmp nat_cmp) ps → Contains ps x → ((y : List ℕ) → Contains ps y → is_lt (by_bytes y x) ≡ false) → slice_get ps 0 ≡ Some x
first_sorted [] x s c h = absurd (not_in_nothing x c)
first_sorted (p ∷ ps) x s c h = ap (λ (y : List ℕ). Some y) (first_of p ps x s c (h p (Contains-head p ps)))

pub least_first : (xs : List (List ℕ)) (x : List ℕ) → Contains xs x → ((y : List ℕ) → Contains xs y → is_lt (by_bytes y x) ≡ false) → slice_get (sorted_paths xs) 0 ≡ Some x
least_first xs x c h =
    let members = HasSameMembers-sorted_once nat_list_cmp_total (slice_cmp-IsAntisymmetric nat_cmp-IsAntisymmetric) xs in
    first_sorted (sorted_paths xs) x (IsStrictlySortedBy-sorted_once nat_list_cmp_total (slice_cmp-IsAntisymmetric nat_cmp-IsAntisymmetric) xs) ((members x).0 c) (λ y d. h y ((members y).1 d))

nothing_first : (ps : List (List ℕ)) → ((y : List ℕ) → Contains ps y → ⊥) → slice_get ps 0 ≡ None
nothing_first [] h = refl
nothing_first (p ∷ ps) h = absurd (h p (Contains-head p ps))

least_none : (xs : List (List ℕ)) → ((y : List ℕ) → Contains xs y → ⊥) → slice_get (sorted_paths xs) 0 ≡ None
least_none xs h =
    let members = HasSameMembers-sorted_once nat_list_cmp_total (slice_cmp-IsAntisymmetric nat_cmp-IsAntisymmetric) xs in
    nothing_first (sorted_paths xs) (λ y d. h y ((members y).1 d))

-- ---- the blobs with a digest

abbrev has_digest : Digest → Blob → Bool
has_digest digest b = is_eq (by_digest b.digest digest)

pub named-from : (digest : Digest) (blobs : List Blob) (bytes : List ℕ) → Contains (map (λ (b : Blob). b.bytes) (filter (has_digest digest) blobs)) bytes
    → (b : Blob) × Contains blobs b × (is_eq (by_digest b.digest digest) ≡ true) × (b.bytes ≡ bytes)
named-from digest blobs bytes c =
    let m = Contains-from_map (λ (b : Blob). b.bytes) (filter (has_digest digest) blobs) bytes c in
    let f = Contains-from_filter (has_digest digest) blobs m.0 m.1 in
    (m.0, f.0, f.1, m.2)

pub named-to : (digest : Digest) (blobs : List Blob) (b : Blob) → Contains blobs b → is_eq (by_digest b.digest digest) ≡ true → Contains (map (λ (b : Blob). b.bytes) (filter (has_digest digest) blobs)) b.bytes
named-to digest blobs b c e = Contains-map (λ (b : Blob). b.bytes) (filter (has_digest digest) blobs) b (Contains-filter (has_digest digest) blobs b c e)

-- ---- at the place where a search ends

module _ (blobs : List Blob) (refs : List (Bor Blob)) (shelf : IsShelf blobs refs) (digest : Digest) (at : ℕ)
    (point : IsPartitionPoint (λ blob. is_lt (by_digest blob.now.digest digest) ≡ true) (λ blob. is_lt (by_digest blob.now.digest digest) ≡ false) refs at) where
  size_is : length (blobs_of refs) ≡ length refs
  size_is = length-map refs (λ (blob : Bor Blob). blob.now)

  before_at : (k : ℕ) (d : Blob) → k < at → k < length (blobs_of refs) → is_lt (by_digest (get_or (blobs_of refs) k d).digest digest) ≡ true
  before_at k d lt in_k = at_mapped (λ b. is_lt (by_digest b.digest digest) ≡ true) refs k d in_k (λ e. point.0 k e (omega arith) lt)

  -- a blob with the digest stands at the place or behind it
  behind_at : (b : Blob) → Contains blobs b → is_eq (by_digest b.digest digest) ≡ true → (k : ℕ) × (at ≤ k) × (k < length (blobs_of refs)) × (get_or (blobs_of refs) k b ≡ b)
  behind_at b c e =
      let in_sorted = Contains-permutation blobs (blobs_of refs) b shelf.all c in
      let k = in_sorted.0 in
      elim (cases_lt k at) [
        | inl lt ↦ absurd (less_not_equal (by_digest b.digest digest) (subst (λ (x : Blob). is_lt (by_digest x.digest digest) ≡ true) in_sorted.2 (before_at k b lt in_sorted.1)) e)
        | inr ge ↦ (k, ge, in_sorted.1, in_sorted.2)
      ]

  far_blobs : (k : ℕ) (x d : Blob) → at ≤ k → k < length (blobs_of refs) → ((e : Bor Blob) → (get_or refs at e).now ≡ x) → is_lt (by_blob (get_or (blobs_of refs) k d) x) ≡ false
  far_blobs k x d le in_k is =
      let size = size_is in
      at_mapped (λ b. is_lt (by_blob b x) ≡ false) refs k d in_k
      (λ e. subst (λ (y : Blob). is_lt (by_blob (get_or refs k e).now y) ≡ false) (is e)
      (sorted_far (λ (x y : Bor Blob). is_lt (by_blob x.now y.now)) (ranks_by by_blob_total (λ (x : Bor Blob). x.now)) refs shelf.ordered at k e le (omega arith)))

  pub past_all : length refs ≤ at → None ≡ blob_at digest blobs
  past_all past =
      let size = size_is in
      sym (least_none _ (λ y c.
      let b = named-from digest blobs y c in
      let k = behind_at b.0 b.1 b.2 in
      let le : at ≤ k.0 = k.1 in
      let lt : k.0 < length (blobs_of refs) = k.2 in
      omega arith))

  module _ (x : Bor Blob) (within : at < length refs) (x_is : x ≡ get_or refs at x) where
    x_at : (e : Bor Blob) → (get_or refs at e).now ≡ x.now
    x_at e = ap (λ (r : Bor Blob). r.now) (get_or_default refs at e x within ∙ sym x_is)

    -- the order of what has the digest and what stands at the place
    behind : (b : Blob) → Contains blobs b → is_eq (by_digest b.digest digest) ≡ true → is_lt (by_blob b x.now) ≡ false
    behind b c e =
        let k = behind_at b c e in
        subst (λ (z : Blob). is_lt (by_blob z x.now) ≡ false) k.3 (far_blobs k.0 x.now b k.1 k.2 x_at)

    pub at_other : is_eq (by_digest x.now.digest digest) ≡ false → None ≡ blob_at digest blobs
    at_other differs =
        sym (least_none _ (λ y c.
        let b = named-from digest blobs y c in
        let low : is_lt (by_digest b.0.digest x.now.digest) ≡ false = then-not_less (by_digest b.0.digest x.now.digest) (slice_cmp nat_cmp b.0.bytes x.now.bytes) (behind b.0 b.1 b.2) in
        let is : b.0.digest ≡ digest = by_digest-same b.0.digest digest (Equal-from_is_eq (by_digest b.0.digest digest) b.2) in
        let back : is_lt (by_digest digest x.now.digest) ≡ false = subst (λ (d : Digest). is_lt (by_digest d x.now.digest) ≡ false) is low in
        let here : is_lt (by_digest x.now.digest digest) ≡ false = subst (λ (b : Blob). is_lt (by_digest b.digest digest) ≡ false) (x_at x) (point.1 at x (omega arith) within) in
        false≢true (sym differs ∙ ap is_eq (Equal-from_neither (by_digest x.now.digest digest) here (ap is_lt (sym (by_digest_total.antisymm digest x.now.digest)) ∙ back)))))

    pub at_found : is_eq (by_digest x.now.digest digest) ≡ true → Some x.now.bytes ≡ blob_at digest blobs
    at_found tie =
        let is : x.now.digest ≡ digest = by_digest-same x.now.digest digest (Equal-from_is_eq (by_digest x.now.digest digest) tie) in
        let size = size_is in
        let lt : at < length (blobs_of refs) = omega arith in
        let here : Contains (blobs_of refs) x.now = (at, lt, at_mapped (λ b. b ≡ x.now) refs at x.now lt x_at) in
        let in_blobs = Contains-permutation (blobs_of refs) blobs x.now (IsPermutation-sym blobs (blobs_of refs) shelf.all) here in
        sym (least_first _ x.now.bytes (named-to digest blobs x.now in_blobs tie) (λ y c.
        let b = named-from digest blobs y c in
        let b_is : b.0.digest ≡ digest = by_digest-same b.0.digest digest (Equal-from_is_eq (by_digest b.0.digest digest) b.2) in
        let same : by_digest b.0.digest x.now.digest ≡ Equal = rw (b_is, is) (tied_itself by_digest_total digest) in
        let low : is_lt (by_bytes b.0.bytes x.now.bytes) ≡ false = rw same at (behind b.0 b.1 b.2) in
        subst (λ (z : List ℕ). is_lt (by_bytes z x.now.bytes) ≡ false) b.3 low))
