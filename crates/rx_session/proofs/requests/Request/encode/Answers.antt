use Rattle.rx_session.specs.RequestMessages.{request_payload}
use Rattle.rx_session.proofs.RequestLemmas.{payloads_again}
use Rattle.rx_session.proofs.requests.Request.encode.Goals as goal

pub returns-clause-payload : goal.returns-clause-payload
unfolding request_payload
returns-clause-payload c = rw c.in_ok-message.ensures at c.encode.ensures.bytes

pub returns-clause-again : goal.returns-clause-again
returns-clause-again c = payloads_again (λ payload. payload.items) c.encode.result c.args.self.now c.in_ok-message.message c.in_ok-message.ensures c.encode.ensures.again
