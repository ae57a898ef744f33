-- Blobs, sorted and each once.
use Rattle.std.proofs.Common.{◌≡◌, ◌≢◌, ◌∙◌, ℕ, List, [], ◌∷◌, refl, sym, ap, subst, arith}
use Rattle.std.specs.declared.cmp.Ordering.TheVariants.{Less, Equal}
use Rattle.std.specs.Ordering.{eq_by_cmp, nat_cmp}
use Rattle.std.specs.Cmp.Lexicographic.{slice_cmp}
use Rattle.std.specs.List.Retain.{IsFiltered, DiffersFromLast}
use Rattle.std.specs.List.Sorted.{IsPermutation, IsSorted, IsStrictlySortedBy}
use Rattle.std.proofs.lemmas.Cmp.{eq_by_cmp_equiv, tied_itself}
use Rattle.std.proofs.lemmas.List.Elements.{All-from_recursion}
use Rattle.std.proofs.lemmas.List.Filters.{dedup_is}
use Rattle.std.proofs.lemmas.List.Kept.{AllPairs-cons, Contains-dedup, Contains-from_dedup, IsStrictlySortedBy-dedup}
use Rattle.std.proofs.lemmas.List.Sorted.{Contains-permutation, IsPermutation-sym}
use Rattle.rx_base.specs.SortedPaths.{HasSameMembers}
use Rattle.rx_base.specs.declared.digests.Digest.{Digest}
use Rattle.rx_base.proofs.DigestOrder.{by_digest-same}
use Rattle.rx_base.proofs.Lists.{All-weaken}
use Rattle.rx_base.proofs.Orderings.{Equal-from_is_eq, then-Equal}
use Rattle.rx_base.specs.Digests.{by_digest}
use Rattle.rx_tree.specs.declared.blobs.Blob.{Blob}
use Rattle.rx_tree.specs.Blobs.{HasNoRepeats, by_blob, by_blob_total}
use Rattle.rx_tree.proofs.NameOrder.{is_equal}

tied_is : (x y : Blob) → by_blob x y ≡ Equal → x ≡ y
tied_is x y e =
    let parts = then-Equal (by_digest x.digest y.digest) (slice_cmp nat_cmp x.bytes y.bytes) e in
    ap (λ (digest : Digest). let b : Blob = record { digest = digest; bytes = x.bytes } in b) (by_digest-same x.digest y.digest parts.0)
    ∙ ap (λ (bytes : List ℕ). let b : Blob = record { digest = y.digest; bytes = bytes } in b) (is_equal x.bytes y.bytes parts.1)

pub members : (blobs sorted once : List Blob) → IsPermutation blobs sorted → IsFiltered (DiffersFromLast (eq_by_cmp by_blob)) [] sorted once → HasSameMembers blobs once
members blobs sorted once p kept =
    subst (λ (found : List Blob). HasSameMembers blobs found) (sym (dedup_is (eq_by_cmp by_blob) sorted once kept))
    (λ blob. (
      λ c. Contains-dedup (eq_by_cmp_equiv by_blob_total) (λ x y e. tied_is x y (Equal-from_is_eq (by_blob x y) e)) sorted blob (Contains-permutation blobs sorted blob p c),
      λ c. Contains-permutation sorted blobs blob (IsPermutation-sym blobs sorted p) (Contains-from_dedup (eq_by_cmp by_blob) sorted blob c),
    ))

differ : (x y : Blob) → by_blob x y ≡ Less → x ≢ y
differ x y less e = absurd (cc (sym less ∙ ap (λ (b : Blob). by_blob x b) (sym e) ∙ tied_itself by_blob_total x))

no_pairs : (blobs : List Blob) → IsStrictlySortedBy by_blob blobs → HasNoRepeats blobs
unfolding IsStrictlySortedBy
no_pairs [] s = λ i j d lt within. absurd (omega arith)
no_pairs (x ∷ xs) s =
    AllPairs-cons (λ x y. x ≢ y) x xs (All-from_recursion (λ y. x ≢ y) xs (All-weaken (λ y. by_blob x y ≡ Less) (λ y. x ≢ y) xs (λ y less. differ x y less) s.0)) (no_pairs xs s.1)

pub no_repeats : (sorted once : List Blob) → IsSorted by_blob sorted → IsFiltered (DiffersFromLast (eq_by_cmp by_blob)) [] sorted once → HasNoRepeats once
no_repeats sorted once s kept =
    subst (λ (found : List Blob). HasNoRepeats found) (sym (dedup_is (eq_by_cmp by_blob) sorted once kept)) (no_pairs _ (IsStrictlySortedBy-dedup by_blob_total (λ x y. refl) sorted s))
