use Rattle.std.proofs.Common.{refl}
use Rattle.std.proofs.lemmas.List.{append-nil}
use Rattle.rx_messages.specs.Batches.{blob_update_fields, blob_update_from}
use Rattle.rx_codec.proofs.ContentLaws.{contents-append, contents-numbered, text_again}
use Rattle.rx_messages.proofs.batch_updates.BlobUpdateMessage.write.Goals as goal

pub returns-clause-again : goal.returns-clause-again
unfolding blob_update_fields blob_update_from
returns-clause-again c = λ ok can.
    let x = c.args.self.now in
    simp (contents-append, contents-numbered, append-nil) (rw (c.in_ok-message.ensures.again refl can, text_again x.body) refl)
