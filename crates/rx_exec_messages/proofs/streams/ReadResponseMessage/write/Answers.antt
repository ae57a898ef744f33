use Rattle.std.proofs.Common.{refl}
use Rattle.rx_exec_messages.specs.Streams.{read_response_fields, read_response_from}
use Rattle.rx_codec.proofs.ContentLaws.{contents-numbered, text_again}
use Rattle.rx_exec_messages.proofs.streams.ReadResponseMessage.write.Goals as goal

pub returns-clause-again : goal.returns-clause-again
unfolding read_response_fields read_response_from
returns-clause-again c = λ ok can.
    let x = c.args.self.now in
    simp (contents-numbered) (rw (text_again x.body) refl)
