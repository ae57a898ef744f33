-- What a script answers: parts of what was asked, blobs by their digests, and what its lines keep.
use Rattle.std.proofs.Common.{◌≡◌, ◌∙◌, ◌<◌, inl, inr, ℕ, suc, ◌+◌, List, [], ◌∷◌, ◌++◌, get_or, length, map, take}
use Rattle.std.proofs.Common.{ap, arith, refl, subst}
use Rattle.std.proofs.Math.Seq.{take-suc}
use Rattle.std.specs.List.{AllByRecursion}
use Rattle.rx_base.specs.Digests.{digest_of}
use Rattle.rx_base.specs.declared.digests.Digest.{Digest}
use Rattle.rx_exec_messages.specs.declared.exchanges.NamedBlob.{NamedBlob}
use Rattle.rx_exec_messages.specs.declared.script.Script.{Script}
use Rattle.rx_exec_messages.specs.declared.script_state.ScriptState.{ScriptState}
use Rattle.rx_exec_messages.specs.Calls.{AreBlobs, IsPartOf, Stays, digests_of}
use Rattle.rx_exec_messages.specs.Scripts.{IsBlob, IsGenuine, Keeps, Vouches, texts_of}

-- ---- parts of a list

part-skips : {A : Type 0} (xs ys : List A) (z : A) → IsPartOf xs ys → IsPartOf xs (ys ++ z ∷ [])
part-skips [] ys z h = tt
part-skips (x ∷ xs) [] z h = absurd h
part-skips (x ∷ xs) (y ∷ ys) z (inl h) = inl (h.0, part-skips xs ys z h.1)
part-skips (x ∷ xs) (y ∷ ys) z (inr h) = inr (part-skips (x ∷ xs) ys z h)

part-takes : {A : Type 0} (xs ys : List A) (z : A) → IsPartOf xs ys → IsPartOf (xs ++ z ∷ []) (ys ++ z ∷ [])
part-takes [] [] z h = inl (refl, tt)
part-takes [] (y ∷ ys) z h = inr (part-takes [] ys z tt)
part-takes (x ∷ xs) [] z h = absurd h
part-takes (x ∷ xs) (y ∷ ys) z (inl h) = inl (h.0, part-takes xs ys z h.1)
part-takes (x ∷ xs) (y ∷ ys) z (inr h) = inr (part-takes (x ∷ xs) ys z h)

-- one item more was passed over, or kept
pub part-passes : {A : Type 0} (xs all : List A) (i : ℕ) → i < length all →
    IsPartOf xs (take i all) → IsPartOf xs (take (i + 1) all)
part-passes xs [] i l h = absurd (omega arith)
part-passes xs (d ∷ all) i l h =
    let s : i + 1 ≡ suc i = omega arith in
    rw (s, take-suc (d ∷ all) i d l) (part-skips xs (take i (d ∷ all)) (get_or (d ∷ all) i d) h)

pub part-keeps : {A : Type 0} (xs all : List A) (i : ℕ) (d : A) → i < length all →
    IsPartOf xs (take i all) → IsPartOf (xs ++ get_or all i d ∷ []) (take (i + 1) all)
part-keeps xs all i d l h =
    let s : i + 1 ≡ suc i = omega arith in
    rw (s, take-suc all i d l) (part-takes xs (take i all) (get_or all i d) h)

-- ---- blobs of the world

texts-are : (blob : Digest → List ℕ) (blobs : List NamedBlob) → AllByRecursion (IsBlob blob) blobs →
    texts_of blobs ≡ map blob (digests_of blobs)
texts-are blob [] h = refl
texts-are blob (b ∷ bs) h =
    ap (λ (text : List ℕ). text ∷ texts_of bs) h.0.0
    ∙ ap (λ (texts : List (List ℕ)). blob b.digest ∷ texts) (texts-are blob bs h.1)

texts-own : (blob : Digest → List ℕ) (blobs : List NamedBlob) → AllByRecursion (IsBlob blob) blobs →
    map digest_of (texts_of blobs) ≡ digests_of blobs
texts-own blob [] h = refl
texts-own blob (b ∷ bs) h =
    ap (λ (digest : Digest). digest ∷ map digest_of (texts_of bs)) h.0.1
    ∙ ap (λ (digests : List Digest). b.digest ∷ digests) (texts-own blob bs h.1)

-- blobs of the world that go by these digests
pub genuine_texts : (blob : Digest → List ℕ) (blobs : List NamedBlob) (digests : List Digest) →
    digests_of blobs ≡ digests → AllByRecursion (IsBlob blob) blobs → AreBlobs blob digests (texts_of blobs)
genuine_texts blob blobs digests e h =
    subst (λ (all : List Digest). AreBlobs blob all (texts_of blobs)) e
    (record { texts_are = texts-are blob blobs h; own = texts-own blob blobs h })

-- ---- what stays

-- what the state keeps, the client keeps
pub script-stays : (blob : Digest → List ℕ) (operation : List ℕ → Digest) (old new : Script)
    (state : ScriptState) →
    Keeps blob operation old.state state → new.state ≡ state →
    Stays {C = Script} (λ s. Vouches blob s.state) (λ s. IsGenuine blob operation s.state)
    (λ s. s.state.dialect) old new
script-stays blob operation old new state kept same = rw same (record {
  triples = kept.triples;
  still_genuine = kept.still_genuine;
  same_dialect = kept.same_dialect;
})
