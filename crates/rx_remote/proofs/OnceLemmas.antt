-- The first blob of each digest.
use Rattle.std.proofs.Common.{◌≡◌, ◌≢◌, ◌↔◌, ◌⊎◌, inl, inr, Bool, true, false, cond, List, [], ◌∷◌, ◌++◌, not, refl, sym, ap, subst, arith, ◌∙◌}
use Rattle.std.specs.Prelude.{Contains}
use Rattle.std.specs.BTreeSet as sorted
use Rattle.std.specs.BTreeSet.{BTreeSet}
use Rattle.std.specs.Ordering.{is_eq}
use Rattle.std.proofs.lemmas.List.{append-nil, map-append}
use Rattle.std.proofs.lemmas.List.Elements.{Contains-append_left, Contains-get_or, Contains-push, Contains-push_cases}
use Rattle.std.proofs.lemmas.List.Quantifiers.{all_pairs_push}
use Rattle.std.proofs.lemmas.Map.Views.{btree_set_contains_iff}
use Rattle.rx_base.specs.Digests.{by_digest, by_digest_total}
use Rattle.rx_base.specs.SortedPaths.{HasSameMembers}
use Rattle.rx_base.specs.declared.digests.Digest.{Digest}
use Rattle.rx_base.proofs.DigestOrder.{by_digest-same}
use Rattle.rx_base.proofs.Members.{Contains-cons_cases, Contains-head, Contains-later, not_in_nothing}
use Rattle.rx_base.proofs.Orderings.{Equal-from_is_eq}
use Rattle.rx_exec_messages.specs.Calls.{IsPartOf}
use Rattle.rx_blobs.specs.declared.blobs.Blob.{Blob}
use Rattle.rx_blobs.specs.Uploads.{digest_of_blob, digests_of_blobs}
use Rattle.rx_blobs.proofs.UploadLists.{among, part-append}
use Rattle.rx_tree.specs.Blobs.{HasNoRepeats}
use Rattle.rx_remote.specs.Actions.{AreCollected}

-- ---- lists

pub part-member : {A : Type 0} (some all : List A) (x : A) → IsPartOf some all → Contains some x → Contains all x
part-member [] all x p c = absurd (not_in_nothing x c)
part-member (y ∷ some) [] x p c = absurd p
part-member (y ∷ some) (z ∷ all) x p c = elim p [
  | inl hit ↦ elim (Contains-cons_cases y some x c) [
    | inl is ↦ subst (λ q. Contains (q ∷ all) x) hit.0 (subst (λ q. Contains (y ∷ all) q) is (Contains-head y all))
    | inr later ↦ Contains-later z all x (part-member some all x hit.1 later)
  ]
  | inr skipped ↦ Contains-later z all x (part-member (y ∷ some) all x skipped c)
]

member-push : {A : Type 0} (xs ys : List A) (x d : A) → (Contains xs d → Contains ys d) → Contains (xs ++ x ∷ []) d → Contains (ys ++ x ∷ []) d
member-push xs ys x d f c = elim (Contains-push_cases xs x d c) [
  | inl before ↦ Contains-append_left ys (x ∷ []) d (f before)
  | inr is ↦ subst (λ q. Contains (ys ++ x ∷ []) q) is (Contains-push ys x)
]

members-push : {A : Type 0} (xs ys : List A) (x : A) → HasSameMembers xs ys → HasSameMembers (xs ++ x ∷ []) (ys ++ x ∷ [])
members-push xs ys x same d = (member-push xs ys x d (same d).0, member-push ys xs x d (same d).1)

once-push : (digests : List Digest) (digest : Digest) → HasNoRepeats digests → (Contains digests digest → ⊥) → HasNoRepeats (digests ++ digest ∷ [])
once-push digests digest once absent =
    all_pairs_push (λ x y. x ≢ y) digests digest once (λ k d lt same. absent (subst (λ q. Contains digests q) same (Contains-get_or digests k d lt)))

-- ---- the digests that were seen

chosen : (b old : Bool) → cond b true old ≡ true → (b ≡ true) ⊎ (old ≡ true)
chosen true old e = inl refl
chosen false old e = inr e

still : (b old : Bool) → old ≡ true → cond b true old ≡ true
still true old e = refl
still false old e = e

pub seen-after : (old new : BTreeSet Digest) (digest : Digest) → sorted.Updates by_digest old new digest true →
    (d : Digest) → Contains new.keys d ↔ ((d ≡ digest) ⊎ Contains old.keys d)
seen-after old new digest u d =
    let now = btree_set_contains_iff by_digest_total by_digest-same new in
    let was = btree_set_contains_iff by_digest_total by_digest-same old in (
      λ h. elim (chosen (is_eq (by_digest digest d)) (sorted.contains by_digest old d) (sym (u.0 d) ∙ (now d).1 h)) [
        | inl e ↦ inl (sym (by_digest-same digest d (Equal-from_is_eq (by_digest digest d) e)))
        | inr e ↦ inr ((was d).0 e)
      ],
      λ h. elim h [
        | inl is ↦ subst (λ q. Contains new.keys q) (sym is) ((now digest).0 u.1)
        | inr before ↦ (now d).0 (u.0 d ∙ still (is_eq (by_digest digest d)) (sorted.contains by_digest old d) ((was d).1 before))
      ],
    )

pub unseen : (old : BTreeSet Digest) (digest : Digest) (added : Bool) → added ≡ not (sorted.contains by_digest old digest) → added ≡ true → Contains old.keys digest → ⊥
unseen old digest added e is c =
    let there = (btree_set_contains_iff by_digest_total by_digest-same old digest).1 c in
    let no : true ≡ false = sym is ∙ (e ∙ ap not there) in cc

turned : (b added : Bool) → added ≡ not b → added ≡ false → b ≡ true
turned true added e is = refl
turned false added e is = let no : true ≡ false = sym e ∙ is in cc

pub seen-before : (old : BTreeSet Digest) (digest : Digest) (added : Bool) → added ≡ not (sorted.contains by_digest old digest) → added ≡ false → Contains old.keys digest
seen-before old digest added e is =
    (btree_set_contains_iff by_digest_total by_digest-same old digest).0 (turned (sorted.contains by_digest old digest) added e is)

pub seen-none : AreCollected [] [] []
seen-none = record {
  once_each = record { part = tt; members = λ d. (λ c. c, λ c. c); once = λ i j d lt within. absurd (omega (arith, within)) };
  seen_are = λ d. (λ c. c, λ c. c);
}

-- a blob whose digest was seen is left out
pub collected-known : (all first : List Blob) (seen : List Digest) (blob : Blob) → AreCollected all first seen → Contains seen (digest_of_blob blob) →
    AreCollected (all ++ blob ∷ []) first seen
collected-known all first seen blob c there =
    let digest = digest_of_blob blob in
    record {
      once_each = record {
        part = subst (λ xs. IsPartOf xs (all ++ blob ∷ [])) (append-nil first) (part-append first [] all (blob ∷ []) c.once_each.part tt);
        members = λ d. subst (λ ds. Contains ds d ↔ Contains (digests_of_blobs first) d) (sym (map-append digest_of_blob all (blob ∷ []))) (
          λ h. elim (Contains-push_cases (digests_of_blobs all) digest d h) [
            | inl before ↦ (c.once_each.members d).0 before
            | inr is ↦ subst (λ x. Contains (digests_of_blobs first) x) is ((c.seen_are digest).0 there)
          ],
          λ h. Contains-append_left (digests_of_blobs all) (digest ∷ []) d ((c.once_each.members d).1 h),
        );
        once = c.once_each.once;
      };
      seen_are = c.seen_are;
    }

-- and any other is added
pub collected-new : (all first : List Blob) (seen next : List Digest) (blob : Blob) → AreCollected all first seen → (Contains seen (digest_of_blob blob) → ⊥) →
    ((d : Digest) → Contains next d ↔ ((d ≡ digest_of_blob blob) ⊎ Contains seen d)) → AreCollected (all ++ blob ∷ []) (first ++ blob ∷ []) next
collected-new all first seen next blob c absent adds =
    let digest = digest_of_blob blob in
    let digests = digests_of_blobs first in
    let more : digests_of_blobs (first ++ blob ∷ []) ≡ digests ++ digest ∷ [] = map-append digest_of_blob first (blob ∷ []) in
    let all_more : digests_of_blobs (all ++ blob ∷ []) ≡ digests_of_blobs all ++ digest ∷ [] = map-append digest_of_blob all (blob ∷ []) in
    record {
      once_each = record {
        part = part-append first (blob ∷ []) all (blob ∷ []) c.once_each.part (inl (refl, tt));
        members = rw (all_more, more) (members-push (digests_of_blobs all) digests digest c.once_each.members);
        once = subst HasNoRepeats (sym more) (once-push digests digest c.once_each.once (λ there. absent ((c.seen_are digest).1 there)));
      };
      seen_are = λ d. subst (λ ds. Contains next d ↔ Contains ds d) (sym more) (
        λ h. elim ((adds d).0 h) [
          | inl is ↦ subst (λ q. Contains (digests ++ digest ∷ []) q) (sym is) (Contains-push digests digest)
          | inr before ↦ Contains-append_left digests (digest ∷ []) d ((c.seen_are d).0 before)
        ],
        λ h. elim (Contains-push_cases digests digest d h) [
          | inl before ↦ (adds d).1 (inr ((c.seen_are d).1 before))
          | inr is ↦ (adds d).1 (inl (sym is))
        ],
      );
    }

-- ---- digests without repeats

cons-push : (xs ys : List Digest) (x d : Digest) → (Contains xs d → Contains ys d) → Contains (x ∷ xs) d → Contains (ys ++ x ∷ []) d
cons-push xs ys x d f c = elim (Contains-cons_cases x xs d c) [
  | inl is ↦ subst (λ q. Contains (ys ++ x ∷ []) q) is (Contains-push ys x)
  | inr later ↦ Contains-append_left ys (x ∷ []) d (f later)
]

push-cons : (xs ys : List Digest) (x d : Digest) → (Contains ys d → Contains xs d) → Contains (ys ++ x ∷ []) d → Contains (x ∷ xs) d
push-cons xs ys x d f c = elim (Contains-push_cases ys x d c) [
  | inl before ↦ Contains-later x xs d (f before)
  | inr is ↦ subst (λ q. Contains (x ∷ xs) q) is (Contains-head x xs)
]

-- there is a list of the same digests that has each once
pub some-once : (digests : List Digest) → (once : List Digest) × HasSameMembers digests once × HasNoRepeats once
some-once [] = ([], λ d. (λ c. c, λ c. c), λ i j d lt within. absurd (omega (arith, within)))
some-once (digest ∷ digests) =
    let rest = some-once digests in
    elim (among rest.0 digest) [
      | inl there ↦ (
        rest.0,
        λ d. (
          λ c. elim (Contains-cons_cases digest digests d c) [ inl is ↦ subst (λ q. Contains rest.0 q) is there | inr later ↦ (rest.1 d).0 later ],
          λ c. Contains-later digest digests d ((rest.1 d).1 c),
        ),
        rest.2,
      )
      | inr absent ↦ (
        rest.0 ++ digest ∷ [],
        λ d. (cons-push digests rest.0 digest d (rest.1 d).0, push-cons digests rest.0 digest d (rest.1 d).1),
        once-push rest.0 digest rest.2 absent,
      )
    ]
