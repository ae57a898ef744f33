use Rattle.std.proofs.Common.{refl}
use Rattle.std.proofs.lemmas.List.{append-nil}
use Rattle.rx_messages.specs.Batches.{batch_read_blobs_request_fields, batch_read_blobs_request_from}
use Rattle.rx_codec.proofs.ContentLaws.{contents-append, contents-numbered, text_again}
use Rattle.rx_messages.proofs.batch_reads.BatchReadBlobsRequestMessage.write.Goals as goal

pub returns-clause-again : goal.returns-clause-again
unfolding batch_read_blobs_request_fields batch_read_blobs_request_from
returns-clause-again c = λ ok can.
    let x = c.args.self.now in
    simp (contents-append, contents-numbered, append-nil) (rw (text_again x.instance_name, c.messages.ensures.again ok can) refl)
