-- Texts that have the digests asked, place by place.
use Rattle.std.proofs.Common.{◌≡◌, ◌≢◌, ◌∙◌, ◌<◌, ℕ, suc, ◌+◌, List, [], ◌∷◌, ◌++◌, get_or, length, map, refl, sym, ap, take, take_all, arith}
use Rattle.std.proofs.Math.Seq.{take-suc}
use Rattle.std.proofs.lemmas.List.{get_or-map}
use Rattle.rx_base.specs.Digests.{digest_of}
use Rattle.rx_base.specs.declared.digests.Digest.{Digest}

push : (xs : List (List ℕ)) (x : List ℕ) → map digest_of (xs ++ x ∷ []) ≡ map digest_of xs ++ digest_of x ∷ []
push [] x = refl
push (y ∷ ys) x = ap (λ (rest : List Digest). digest_of y ∷ rest) (push ys x)

-- one more place was compared
pub same-more : (texts : List (List ℕ)) (digests : List Digest) (i : ℕ) (d : List ℕ) (e : Digest) → i < length texts → i < length digests →
    map digest_of (take i texts) ≡ take i digests → digest_of (get_or texts i d) ≡ get_or digests i e → map digest_of (take (i + 1) texts) ≡ take (i + 1) digests
same-more texts digests i d e lt ld h at =
    let s : i + 1 ≡ suc i = omega arith in
    rw (s, take-suc texts i d lt, take-suc digests i e ld) (push (take i texts) (get_or texts i d) ∙ rw (h, at) refl)

-- all places were compared
pub same-all : (texts : List (List ℕ)) (digests : List Digest) (i : ℕ) → length texts ≡ length digests → length digests ≡ i →
    map digest_of (take i texts) ≡ take i digests → map digest_of texts ≡ digests
same-all texts digests i lengths end h = rw (take_all i texts (omega arith), take_all i digests (omega arith)) at h

-- texts of which one hasn't its digest aren't these
pub not-same : (texts : List (List ℕ)) (digests : List Digest) (i : ℕ) (d : List ℕ) (e : Digest) → i < length texts → get_or digests i e ≢ digest_of (get_or texts i d) →
    map digest_of texts ≡ digests → ⊥
not-same texts digests i d e l differs same = differs (ap (λ (all : List Digest). get_or all i e) (sym same) ∙ get_or-map digest_of texts i d e l)
