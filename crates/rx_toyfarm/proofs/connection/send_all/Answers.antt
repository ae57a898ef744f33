use Rattle.rx_toyfarm.proofs.LinkLemmas.{sending_goes_on}
use Rattle.rx_toyfarm.proofs.connection.send_all.Goals as goal

pub loop-left-preserved : goal.loop-left-preserved
loop-left-preserved g c =
    sending_goes_on _ (g.L.Link.rule c.loop-left.link) (g.L.Link.rule c.send.new.self) _ _ _ _ _ _ c.loop-left.invariant c.in_ok-count.ensures.rule c.in_ok-count.ensures.cause.later c.in_ok-count.ensures.ended
