use Rattle.std.proofs.Common.{refl}
use Rattle.std.proofs.lemmas.List.{append-nil}
use Rattle.rx_messages.specs.Trees.{tree_fields, tree_from}
use Rattle.rx_codec.proofs.ContentLaws.{contents-append, contents-numbered}
use Rattle.rx_messages.proofs.TreeLaws.{one_form}
use Rattle.rx_messages.proofs.trees.TreeMessage.write.Goals as goal

pub returns-clause-again : goal.returns-clause-again
unfolding tree_fields tree_from
returns-clause-again c = λ ok can.
    let x = c.args.self.now in
    simp (contents-append, contents-numbered, append-nil) (rw (c.in_ok-message.ensures.again refl can.0, c.messages.ensures.again ok can.1) refl)

pub returns-clause-form : goal.returns-clause-form
returns-clause-form c = λ ok can read. one_form c.args.self.now can read
