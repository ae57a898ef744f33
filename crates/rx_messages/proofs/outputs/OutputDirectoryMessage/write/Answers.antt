use Rattle.std.proofs.Common.{refl}
use Rattle.std.proofs.lemmas.List.{append-nil}
use Rattle.rx_messages.specs.Outputs.{output_directory_fields, output_directory_from}
use Rattle.rx_codec.proofs.ContentLaws.{contents-append, contents-numbered, text_again}
use Rattle.rx_messages.proofs.outputs.OutputDirectoryMessage.write.Goals as goal

pub returns-clause-again : goal.returns-clause-again
unfolding output_directory_fields output_directory_from
returns-clause-again c = λ ok can.
    let x = c.args.self.now in
    simp (contents-append, contents-numbered, append-nil) (rw (text_again x.path, c.message.ensures.again ok can) refl)
