use Rattle.std.proofs.Common.{refl}
use Rattle.std.proofs.lemmas.List.{append-nil}
use Rattle.rx_messages.specs.Batches.{blob_updated_fields, blob_updated_from}
use Rattle.rx_codec.proofs.ContentLaws.{contents-append, contents-numbered, some_unit}
use Rattle.rx_messages.proofs.batch_updates.BlobUpdatedMessage.write.Goals as goal

pub returns-clause-again : goal.returns-clause-again
unfolding blob_updated_fields blob_updated_from
returns-clause-again c = λ ok can.
    let x = c.args.self.now in
    simp (contents-append, contents-numbered, append-nil) (rw (c.in_ok-message.ensures.again refl can, c.message-2.ensures.again ok (some_unit x.status)) refl)
