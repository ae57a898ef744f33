use Rattle.std.proofs.Common.{refl}
use Rattle.rx_session.specs.Replies.{payload_of}
use Rattle.rx_session.proofs.ReplyLemmas.{payloads_again}
use Rattle.rx_session.proofs.replies.Reply.encode.Goals as goal

pub returns-clause-payload : goal.returns-clause-payload
unfolding payload_of
returns-clause-payload c = rw c.in_ok-message.ensures.message at c.encode.ensures.bytes

pub returns-clause-again : goal.returns-clause-again
returns-clause-again c =
    payloads_again (λ payload. payload.items) c.encode.result c.args.self.now c.in_ok-message.message c.in_ok-message.ensures.message (c.in_ok-message.ensures.typed refl) c.encode.ensures.again
