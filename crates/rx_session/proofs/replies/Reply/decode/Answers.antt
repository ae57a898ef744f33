use Rattle.rx_session.proofs.ReplyLemmas.{fields_again}
use Rattle.rx_session.proofs.replies.Reply.decode.Goals as goal

pub returns-clause-only : goal.returns-clause-only
returns-clause-only c = λ reply typed can fields. rw (fields_again reply c.args.payload.now fields typed can) at c.decode_exactly.ensures
