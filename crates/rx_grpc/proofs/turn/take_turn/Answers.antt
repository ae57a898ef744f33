use Rattle.rx_grpc.proofs.TalkLemmas.{carries_trans}
use Rattle.rx_grpc.proofs.turn.take_turn.Goals as goal

pub returns-clause-carries : goal.returns-clause-carries
returns-clause-carries g c = carries_trans _ _ _ _ _ _ _ _ _ c.in_ok-give_body.ensures.carries c.in_ok-hear.ensures.carries

pub returns-clause-asks : goal.returns-clause-asks
returns-clause-asks g c = λ fields messages given a. c.in_ok-hear.ensures.asks _ fields messages given (c.in_ok-give_body.ensures.asks fields messages given a)
