-- The bytes of a place fault, which are written without its message.
use Rattle.std.proofs.Common.{◌≡◌, ℕ, ◌==◌, true, false, List, ◌++◌, refl, sym, ap, ◌∙◌, append_assoc}
use Rattle.std.proofs.lemmas.List.{append-nil}
use Rattle.rx_codec.specs.Contents.{each_put, int32_put, number_put, one_put, text_put}
use Rattle.rx_codec.specs.FieldBytes.{fields_bytes}
use Rattle.rx_wire.specs.Out.{varint_field}
use Rattle.rx_session.specs.declared.replies.Reply.TheVariants.{PlaceFault}
use Rattle.rx_session.specs.Parts.{number_part}
use Rattle.rx_session.specs.Replies.{payload_of}
use Rattle.rx_session.specs.ReplyMessages.{reply_message_fields}

abbrev AreBytes : ℕ → ℕ → Type 0
AreBytes receipt placed = payload_of (PlaceFault receipt placed) ≡ number_part 1 9 ++ (number_part 6 receipt ++ number_part 7 placed)

place_fault_bytes : (receipt placed : ℕ) → payload_of (PlaceFault receipt placed) ≡ number_part 1 9 ++ (number_part 6 receipt ++ number_part 7 placed)
unfolding payload_of fields_bytes reply_message_fields number_part number_put int32_put text_put one_put each_put
place_fault_bytes receipt placed =
    elim (placed == 0) as (λ t. (placed == 0) ≡ t → AreBytes receipt placed) [
      | true ↦ λ p. elim (receipt == 0) as (λ t. (receipt == 0) ≡ t → AreBytes receipt placed) [ true ↦ λ r. rw (p, r) refl | false ↦ λ r. rw (p, r) refl ] refl
      | false ↦ λ p. elim (receipt == 0) as (λ t. (receipt == 0) ≡ t → AreBytes receipt placed) [
        | true ↦ λ r. rw (p, r, append-nil (varint_field 7 placed)) refl
        | false ↦ λ r. rw (p, r, append-nil (varint_field 7 placed)) refl
      ] refl
    ] refl

-- the three fields at the end of others
pub place_fault_end : (old : List ℕ) (receipt placed : ℕ) → old ++ number_part 1 9 ++ number_part 6 receipt ++ number_part 7 placed ≡ old ++ payload_of (PlaceFault receipt placed)
place_fault_end old receipt placed =
    append_assoc (old ++ number_part 1 9) (number_part 6 receipt) (number_part 7 placed)
    ∙ append_assoc old (number_part 1 9) (number_part 6 receipt ++ number_part 7 placed)
    ∙ ap (λ (text : List ℕ). old ++ text) (sym (place_fault_bytes receipt placed))
