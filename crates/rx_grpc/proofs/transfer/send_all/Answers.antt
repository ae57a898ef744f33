use Rattle.rx_grpc.proofs.WireLemmas.{sending_goes_on}
use Rattle.rx_grpc.proofs.transfer.send_all.Goals as goal

pub loop-left-preserved : goal.loop-left-preserved
loop-left-preserved g c =
    sending_goes_on _ _ _ (g.L.Link.rule c.args.link.now) (g.L.Link.rule c.loop-left.link) (g.L.Link.rule c.send.new.self) _ _ _ _ _ _ _ _ _ c.in_ok-count.count c.loop-left.invariant c.in_ok-count.ensures.wire c.in_ok-count.ensures.rule c.in_ok-count.ensures.meets c.in_ok-count.ensures.ended c.in_ok-count.ensures.cause.later c.split_at.ensures.back
