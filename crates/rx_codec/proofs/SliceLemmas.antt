-- Loops over slices of bytes and over fields.
use Rattle.std.proofs.Common.{◌≡◌, ℕ, zero, suc, ◌+◌, ◌<◌, List, [], ◌∷◌, ◌++◌, length, take, get_or, Some, None, sym, ap, ◌∙◌, arith}
use Rattle.std.specs.Borrow.{Bor}
use Rattle.std.specs.List.{AllByRecursion, concat}
use Rattle.std.proofs.Math.Seq.{take-suc}
use Rattle.std.proofs.lemmas.List.{map-append}
use Rattle.rx_base.specs.Texts.{texts as slices}
use Rattle.rx_wire.specs.declared.values.Value.{Value}
use Rattle.rx_wire.specs.Values.{field_of}
use Rattle.rx_codec.specs.Contents.{chunks, number_in, text_in}
use Rattle.rx_codec.specs.FieldBytes.{contents}
use Rattle.rx_codec.specs.Seen.{chunk_in, seen, varint_in}
use Rattle.rx_codec.proofs.ContentLaws.{chunks_push_none, chunks_push_some, concat_push, number_push_none, number_push_some, text_push_none, text_push_some}
use Rattle.rx_codec.proofs.ReadLemmas.{seen-push}

slices-take : (pieces : List (Bor (List ℕ))) (i : ℕ) (d : Bor (List ℕ)) → i < length pieces → slices (take (i + 1) pieces) ≡ slices (take i pieces) ++ (get_or pieces i d).now ∷ []
slices-take pieces i d lt =
    let e : i + 1 ≡ suc i = omega arith in
    rw (e, take-suc pieces i d lt) (map-append (λ (name : Bor (List ℕ)). name.now) (take i pieces) (get_or pieces i d ∷ []))

seen-take : (fields : List (ℕ × Value)) (i : ℕ) (d : ℕ × Value) → i < length fields → seen (take (i + 1) fields) ≡ seen (take i fields) ++ field_of (get_or fields i d).0 (get_or fields i d).1 ∷ []
seen-take fields i d lt =
    let e : i + 1 ≡ suc i = omega arith in
    rw (e, take-suc fields i d lt) (seen-push (take i fields) (get_or fields i d))

pub slices-push : (pieces : List (Bor (List ℕ))) (piece : Bor (List ℕ)) → slices (pieces ++ piece ∷ []) ≡ slices pieces ++ piece.now ∷ []
slices-push pieces piece = map-append (λ (name : Bor (List ℕ)). name.now) pieces (piece ∷ [])

pub join_more : (pieces : List (Bor (List ℕ))) (i : ℕ) (d : Bor (List ℕ)) (old new : List ℕ) → i < length pieces → old ≡ concat (slices (take i pieces)) → new ≡ old ++ (get_or pieces i d).now
    → new ≡ concat (slices (take (i + 1) pieces))
join_more pieces i d old new lt so_far e =
    e ∙ ap (λ (text : List ℕ). text ++ (get_or pieces i d).now) so_far ∙ sym (concat_push (slices (take i pieces)) (get_or pieces i d).now) ∙ ap concat (sym (slices-take pieces i d lt))

pub each_at : (P : List ℕ → Type 0) (pieces : List (Bor (List ℕ))) (i : ℕ) (d : Bor (List ℕ)) → i < length pieces → AllByRecursion P (slices pieces) → P (get_or pieces i d).now
each_at P [] i d lt all = absurd (omega arith)
each_at P (piece ∷ pieces) zero d lt all = all.0
each_at P (piece ∷ pieces) (suc i) d lt all = each_at P pieces i d (omega arith) all.1

module _ (n : ℕ) (fields : List (ℕ × Value)) (i : ℕ) (d : ℕ × Value) (lt : i < length fields) where
  pub chunks_some : (b : List ℕ) → chunk_in n (field_of (get_or fields i d).0 (get_or fields i d).1) ≡ Some b → chunks (contents n (seen (take (i + 1) fields))) ≡ chunks (contents n (seen (take i fields))) ++ b ∷ []
  chunks_some b e = rw (seen-take fields i d lt) (chunks_push_some n (seen (take i fields)) (field_of (get_or fields i d).0 (get_or fields i d).1) b e)

  pub chunks_none : chunk_in n (field_of (get_or fields i d).0 (get_or fields i d).1) ≡ None → chunks (contents n (seen (take (i + 1) fields))) ≡ chunks (contents n (seen (take i fields)))
  chunks_none e = rw (seen-take fields i d lt) (chunks_push_none n (seen (take i fields)) (field_of (get_or fields i d).0 (get_or fields i d).1) e)

  pub text_some : (b : List ℕ) → chunk_in n (field_of (get_or fields i d).0 (get_or fields i d).1) ≡ Some b → text_in (contents n (seen (take (i + 1) fields))) ≡ b
  text_some b e = rw (seen-take fields i d lt) (text_push_some n (seen (take i fields)) (field_of (get_or fields i d).0 (get_or fields i d).1) b e)

  pub text_none : chunk_in n (field_of (get_or fields i d).0 (get_or fields i d).1) ≡ None → text_in (contents n (seen (take (i + 1) fields))) ≡ text_in (contents n (seen (take i fields)))
  text_none e = rw (seen-take fields i d lt) (text_push_none n (seen (take i fields)) (field_of (get_or fields i d).0 (get_or fields i d).1) e)

  pub number_some : (v : ℕ) → varint_in n (field_of (get_or fields i d).0 (get_or fields i d).1) ≡ Some v → number_in (contents n (seen (take (i + 1) fields))) ≡ v
  number_some v e = rw (seen-take fields i d lt) (number_push_some n (seen (take i fields)) (field_of (get_or fields i d).0 (get_or fields i d).1) v e)

  pub number_none : varint_in n (field_of (get_or fields i d).0 (get_or fields i d).1) ≡ None → number_in (contents n (seen (take (i + 1) fields))) ≡ number_in (contents n (seen (take i fields)))
  number_none e = rw (seen-take fields i d lt) (number_push_none n (seen (take i fields)) (field_of (get_or fields i d).0 (get_or fields i d).1) e)
