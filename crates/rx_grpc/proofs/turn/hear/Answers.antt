use Rattle.std.proofs.Common.{refl}
use Rattle.rx_grpc.proofs.AskingLemmas.{asking_heard}
use Rattle.rx_grpc.proofs.TurnLemmas.{heard_open, hear_carries}
use Rattle.rx_grpc.proofs.turn.hear.Goals as goal

pub returns-clause-opened : goal.returns-clause-opened
returns-clause-opened g c =
    heard_open (g.L.Link.wire c.args.link.now) (g.L.Link.wire c.take_in.new.link) (g.L.Link.rule c.args.link.now) (g.L.Link.rule c.take_in.new.link) (g.L.Link.ended c.args.link.now) (g.L.Link.ended c.take_in.new.link) c.args.conn.now c.take_in.new.conn c.drain.new.conn c.args.opened.now _ c.in_ok-came.came _ _ c.requires.opened c.requires.piece c.in_ok-came.ensures.exchange c.in_ok-came.ensures.meets c.in_ok-came.ensures.held c.in_ok-came.ensures.came c.in_ok-drain.ensures.drained c.in_ok-drain.ensures.none refl refl

pub returns-clause-carries : goal.returns-clause-carries
returns-clause-carries g c = hear_carries _ _ _ _ _ _ _ _ _ c.in_ok-came.ensures.exchange c.in_ok-drain.ensures.drained

pub returns-clause-asks : goal.returns-clause-asks
returns-clause-asks g c =
    asking_heard (g.L.Link.wire c.args.link.now) (g.L.Link.wire c.take_in.new.link) (g.L.Link.rule c.args.link.now) (g.L.Link.rule c.take_in.new.link) c.args.conn.now c.take_in.new.conn c.drain.new.conn c.args.opened.now _ _ _ c.in_ok-came.ensures.exchange c.in_ok-came.ensures.meets c.in_ok-drain.ensures.drained refl
