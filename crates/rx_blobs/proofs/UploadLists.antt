-- Lists within others, parts of lists, and whether a digest is among others.
use Rattle.std.proofs.Common.{◌+◌, ◌<◌, arith, get_or, length, length-append, take, ◌≡◌, ◌≢◌, ◌⊎◌, ◌∙◌, ℕ, List, [], ◌∷◌, ◌++◌, refl, sym, ap, subst, inl, inr, Bool, true, false}
use Rattle.std.specs.Bool.{Decides}
use Rattle.std.specs.Str.{bytes_eq}
use Rattle.std.specs.Prelude.{◌==◌, Contains}
use Rattle.std.proofs.lemmas.Slice.Eq.{bytes_eq-Decides}
use Rattle.std.proofs.lemmas.Bool.Decides.{Decides-eqb}
use Rattle.std.proofs.lemmas.List.{append-nil, map-append, take_more}
use Rattle.std.proofs.lemmas.List.Elements.{Contains-append_cases, Contains-append_left, Contains-append_right, Contains-push_cases}
use Rattle.rx_base.specs.declared.digests.Digest.{Digest}
use Rattle.rx_base.proofs.Members.{Contains-cons_cases, Contains-from_map, Contains-head, Contains-later, Contains-map, not_in_nothing}
use Rattle.rx_exec_messages.specs.Calls.{IsPartOf}
use Rattle.rx_blobs.specs.declared.blobs.Blob.{Blob}
use Rattle.rx_blobs.specs.Uploads.{AreMade, IsMade, IsSplit, IsWithin, digest_of_blob, digests_of_blobs}

-- ---- lists within others

pub within-more : {A : Type 0} (few all more : List A) → IsWithin few all → IsWithin (few ++ more) (all ++ more)
within-more few all more w x c = elim (Contains-append_cases few more x c) [
  | inl front ↦ Contains-append_left all more x (w x front)
  | inr back ↦ Contains-append_right all more x back
]

pub within-front : {A : Type 0} (front back all : List A) → front ++ back ≡ all → IsWithin front all
within-front front back all e x c = subst (λ xs. Contains xs x) e (Contains-append_left front back x c)

pub within-middle : {A : Type 0} (front some back all : List A) → front ++ (some ++ back) ≡ all → IsWithin some all
within-middle front some back all e x c = subst (λ xs. Contains xs x) e (Contains-append_right front (some ++ back) x (Contains-append_left some back x c))

pub within-push : {A : Type 0} (few all : List A) (y : A) → IsWithin few all → Contains all y → IsWithin (few ++ y ∷ []) all
within-push few all y w there x c = elim (Contains-push_cases few y x c) [ inl before ↦ w x before | inr is ↦ subst (λ z. Contains all z) is there ]

pub within-later : {A : Type 0} (y : A) (few all : List A) → IsWithin (y ∷ few) all → IsWithin few all
within-later y few all w x c = w x (Contains-later y few x c)

pub digests-within : (few all : List Blob) → IsWithin few all → IsWithin (digests_of_blobs few) (digests_of_blobs all)
digests-within few all w digest c =
    let blob = Contains-from_map digest_of_blob few digest c in
    subst (λ d. Contains (digests_of_blobs all) d) blob.2 (Contains-map digest_of_blob all blob.0 (w blob.0 blob.1))

-- ---- parts

part-skip : {A : Type 0} (xs skipped ys : List A) → IsPartOf xs ys → IsPartOf xs (skipped ++ ys)
part-skip [] skipped ys p = tt
part-skip (x ∷ xs) [] ys p = p
part-skip (x ∷ xs) (z ∷ skipped) ys p = inr (part-skip (x ∷ xs) skipped ys p)

pub part-append : {A : Type 0} (xs ys all more : List A) → IsPartOf xs all → IsPartOf ys more → IsPartOf (xs ++ ys) (all ++ more)
part-append [] ys all more p q = part-skip ys all more q
part-append (x ∷ xs) ys [] more p q = absurd p
part-append (x ∷ xs) ys (z ∷ all) more p q = elim p [
  | inl hit ↦ inl (hit.0, part-append xs ys all more hit.1 q)
  | inr later ↦ inr (part-append (x ∷ xs) ys all more later q)
]

-- ---- which blobs are asked for

pub split-none : IsSplit [] [] []
split-none = record { part = tt; each = λ d c. absurd (not_in_nothing d c); few = omega arith }

pub split-known : (digests known asked : List Digest) (digest : Digest) → IsSplit digests known asked → IsSplit (digests ++ digest ∷ []) (known ++ digest ∷ []) asked
split-known digests known asked digest s = record {
  part = part-append known (digest ∷ []) digests (digest ∷ []) s.part (inl (refl, tt));
  each = λ d c. elim (Contains-push_cases digests digest d c) [
    | inl before ↦ elim (s.each d before) [ inl k ↦ inl (Contains-append_left known (digest ∷ []) d k) | inr a ↦ inr a ]
    | inr is ↦ inl (subst (λ x. Contains (known ++ digest ∷ []) x) is (Contains-append_right known (digest ∷ []) digest (Contains-head digest [])))
  ];
  few = let all = length-append digests (digest ∷ []) in omega (arith, all, s.few);
}

pub split-asked : (digests known asked : List Digest) (digest : Digest) → IsSplit digests known asked → IsSplit (digests ++ digest ∷ []) known (asked ++ digest ∷ [])
split-asked digests known asked digest s = record {
  part = subst (λ xs. IsPartOf xs (digests ++ digest ∷ [])) (append-nil known) (part-append known [] digests (digest ∷ []) s.part tt);
  each = λ d c. elim (Contains-push_cases digests digest d c) [
    | inl before ↦ elim (s.each d before) [ inl k ↦ inl k | inr a ↦ inr (Contains-append_left asked (digest ∷ []) d a) ]
    | inr is ↦ inr (subst (λ x. Contains (asked ++ digest ∷ []) x) is (Contains-append_right asked (digest ∷ []) digest (Contains-head digest [])))
  ];
  few = let all = length-append digests (digest ∷ []) in let others = length-append asked (digest ∷ []) in omega (arith, all, others, s.few);
}

pub split-fresh : (digests asked : List Digest) → asked ≡ digests → IsSplit digests [] asked
split-fresh digests asked e = record {
  part = tt;
  each = λ d c. inr (subst (λ xs. Contains xs d) (sym e) c);
  few = let same = ap length e in omega (arith, same);
}

-- ---- whether a digest is among others

decided : {P : Type 0} (b : Bool) → Decides b P → P ⊎ (P → ⊥)
decided true d = inl (d.0 refl)
decided false d = inr (λ p. cc (d.1 p))

same-or-not : (d e : Digest) → (d ≡ e) ⊎ (d ≢ e)
same-or-not d e =
    elim (decided (bytes_eq d.hash e.hash) (bytes_eq-Decides d.hash e.hash)) [
      | inl hash ↦ elim (decided (d.size == e.size) (Decides-eqb d.size e.size)) [
        | inl size ↦ inl (ap (λ (h : List ℕ). let x : Digest = record { hash = h; size = d.size } in x) hash ∙ ap (λ (n : ℕ). let x : Digest = record { hash = e.hash; size = n } in x) size)
        | inr differs ↦ inr (λ same. differs (ap (λ (x : Digest). x.size) same))
      ]
      | inr differs ↦ inr (λ same. differs (ap (λ (x : Digest). x.hash) same))
    ]

pub among : (all : List Digest) (d : Digest) → Contains all d ⊎ (Contains all d → ⊥)
among [] d = inr (λ c. not_in_nothing d c)
among (e ∷ es) d =
    elim (same-or-not e d) [
      | inl same ↦ inl (subst (λ x. Contains (e ∷ es) x) same (Contains-head e es))
      | inr differs ↦ elim (among es d) [
        | inl later ↦ inl (Contains-later e es d later)
        | inr no_later ↦ inr (λ c. elim (Contains-cons_cases e es d c) [ inl same ↦ differs same | inr later ↦ no_later later ])
      ]
    ]

-- ---- blobs that have the digests of their bytes

pub made-none : AreMade []
made-none blob c = absurd (not_in_nothing blob c)

pub made-push : (blobs : List Blob) (blob : Blob) → AreMade blobs → IsMade blob → AreMade (blobs ++ blob ∷ [])
made-push blobs blob all one b c = elim (Contains-push_cases blobs blob b c) [ inl before ↦ all b before | inr is ↦ subst IsMade is one ]

pub made-within : (few all : List Blob) → IsWithin few all → AreMade all → AreMade few
made-within few all w made b c = made b (w b c)

-- the blobs up to an index, and the one there
pub split-more : (blobs : List Blob) (i : ℕ) (blob : Blob) (known asked : List Digest) → i < length blobs → blob ≡ get_or blobs i blob →
    IsSplit (digests_of_blobs (take i blobs) ++ digest_of_blob blob ∷ []) known asked → IsSplit (digests_of_blobs (take (i + 1) blobs)) known asked
split-more blobs i blob known asked within e s =
    let more : take i blobs ++ blob ∷ [] ≡ take (i + 1) blobs = ap (λ b. take i blobs ++ b ∷ []) e ∙ sym (take_more blobs i blob within) in
    subst (λ bs. IsSplit (digests_of_blobs bs) known asked) more
    (subst (λ ds. IsSplit ds known asked) (sym (map-append digest_of_blob (take i blobs) (blob ∷ []))) s)
