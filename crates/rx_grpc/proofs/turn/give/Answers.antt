use Rattle.std.proofs.Common.{refl, ◌∙◌}
use Rattle.rx_grpc.proofs.AskingLemmas.{asking_given}
use Rattle.rx_grpc.proofs.TurnLemmas.{given_open, give_carries}
use Rattle.rx_grpc.proofs.turn.give.Goals as goal

pub returns-clause-opened : goal.returns-clause-opened
returns-clause-opened g c =
    given_open (g.L.Link.wire c.args.link.now) (g.L.Link.wire c.flush.new.link) (g.L.Link.rule c.args.link.now) (g.L.Link.rule c.flush.new.link) (g.L.Link.ended c.args.link.now) (g.L.Link.ended c.flush.new.link) c.args.conn.now c.push.new.conn c.flush.new.conn c.args.opened.now _ c.requires.opened c.requires.piece c.in_ok-push.ensures.pushes.moves c.in_ok-push.ensures.held c.in_ok-push.ensures.events c.in_ok-push.ensures.fault c.in_ok-flush.ensures.exchange c.in_ok-flush.ensures.meets c.in_ok-flush.ensures.held c.in_ok-flush.ensures.ended c.in_ok-flush.ensures.fault (c.in_ok-flush.ensures.drained (c.in_ok-push.ensures.events ∙ c.requires.opened.empty)) refl refl

pub returns-clause-carries : goal.returns-clause-carries
returns-clause-carries g c = give_carries _ _ _ _ _ _ c.in_ok-push.ensures.pushes.moves c.in_ok-flush.ensures.exchange

pub returns-clause-last : goal.returns-clause-last
returns-clause-last g c = c.in_ok-push.ensures.pushes.last

pub returns-clause-asks : goal.returns-clause-asks
returns-clause-asks g c =
    asking_given (g.L.Link.wire c.args.link.now) (g.L.Link.wire c.flush.new.link) (g.L.Link.rule c.args.link.now) (g.L.Link.rule c.flush.new.link) c.args.conn.now c.push.new.conn c.flush.new.conn c.args.opened.now c.push.new.self c.in_ok-push.ensures.pushes c.in_ok-flush.ensures.exchange (c.in_ok-flush.ensures.meets c.requires.opened.met)
