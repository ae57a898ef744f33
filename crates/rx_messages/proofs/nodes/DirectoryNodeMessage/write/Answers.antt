use Rattle.std.proofs.Common.{refl}
use Rattle.std.proofs.lemmas.List.{append-nil}
use Rattle.rx_messages.specs.Nodes.{directory_node_fields, directory_node_from}
use Rattle.rx_codec.proofs.ContentLaws.{contents-append, contents-numbered, text_again}
use Rattle.rx_messages.proofs.nodes.DirectoryNodeMessage.write.Goals as goal

pub returns-clause-again : goal.returns-clause-again
unfolding directory_node_fields directory_node_from
returns-clause-again c = λ ok can.
    let x = c.args.self.now in
    simp (contents-append, contents-numbered, append-nil) (rw (text_again x.name, c.message.ensures.again ok can) refl)
