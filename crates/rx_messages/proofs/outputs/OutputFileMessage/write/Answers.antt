use Rattle.std.proofs.Common.{refl}
use Rattle.std.proofs.lemmas.List.{append-nil}
use Rattle.rx_messages.specs.Outputs.{output_file_fields, output_file_from}
use Rattle.rx_codec.proofs.ContentLaws.{contents-append, contents-numbered, text_again, truth_again}
use Rattle.rx_messages.proofs.outputs.OutputFileMessage.write.Goals as goal

pub returns-clause-again : goal.returns-clause-again
unfolding output_file_fields output_file_from
returns-clause-again c = λ ok can.
    let x = c.args.self.now in
    simp (contents-append, contents-numbered, append-nil) (rw (text_again x.path, c.in_ok-message.ensures.again refl can, truth_again x.is_executable, text_again x.contents) refl)
