use Rattle.std.proofs.Common.{refl}
use Rattle.std.proofs.lemmas.List.{append-nil}
use Rattle.rx_messages.specs.Nodes.{file_node_fields, file_node_from}
use Rattle.rx_codec.proofs.ContentLaws.{contents-append, contents-numbered, text_again, truth_again}
use Rattle.rx_messages.proofs.nodes.FileNodeMessage.write.Goals as goal

pub returns-clause-again : goal.returns-clause-again
unfolding file_node_fields file_node_from
returns-clause-again c = λ ok can.
    let x = c.args.self.now in
    simp (contents-append, contents-numbered, append-nil) (rw (text_again x.name, c.in_ok-message.ensures.again refl can, truth_again x.is_executable) refl)
