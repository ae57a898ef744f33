use Rattle.std.proofs.Common.{refl}
use Rattle.std.proofs.lemmas.List.{append-nil}
use Rattle.rx_messages.specs.Outputs.{output_symlink_fields, output_symlink_from}
use Rattle.rx_codec.proofs.ContentLaws.{contents-append, contents-numbered, text_again}
use Rattle.rx_messages.proofs.outputs.OutputSymlinkMessage.write.Goals as goal

pub returns-clause-again : goal.returns-clause-again
unfolding output_symlink_fields output_symlink_from
returns-clause-again c = λ ok can.
    let x = c.args.self.now in
    simp (contents-append, contents-numbered, append-nil) (rw (text_again x.path, text_again x.target) refl)
