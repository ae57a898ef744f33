use Rattle.std.proofs.Common.{refl}
use Rattle.std.proofs.lemmas.List.{append-nil}
use Rattle.rx_messages.specs.Actions.{action_fields, action_from}
use Rattle.rx_codec.proofs.ContentLaws.{contents-append, contents-numbered, some_unit, text_again, truth_again}
use Rattle.rx_messages.proofs.actions.ActionMessage.write.Goals as goal

pub returns-clause-again : goal.returns-clause-again
unfolding action_fields action_from
returns-clause-again c = λ ok can.
    let x = c.args.self.now in
    simp (contents-append, contents-numbered, append-nil) (rw (c.in_ok-message.ensures.again refl can.0, c.in_ok-message-2.ensures.again refl can.1, c.in_ok-message-3.ensures.again refl (some_unit x.timeout), truth_again x.do_not_cache, text_again x.salt, c.message-4.ensures.again ok (some_unit x.platform)) refl)
