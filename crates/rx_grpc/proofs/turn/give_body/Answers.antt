use Rattle.std.proofs.Common.{rules}
use Rattle.rx_grpc.proofs.GiveLemmas.{giving_goes_on, idle_left}
use Rattle.rx_grpc.proofs.turn.give_body.Goals as goal

pub loop-alloc-init : goal.loop-alloc-init
loop-alloc-init g c = record {
  open_still = c.in_ok-give.ensures.opened;
  drained = c.in_ok-give.ensures.drained;
  gives = c.in_ok-give.ensures.gives;
  carries = c.in_ok-give.ensures.carries;
  rule = c.in_ok-give.ensures.rule;
  later = c.in_ok-give.ensures.cause.later;
  asks = c.in_ok-give.ensures.asks (g.B.Body.messages c.args.body.now);
}

pub loop-alloc-preserved : goal.loop-alloc-preserved
loop-alloc-preserved g c =
    giving_goes_on _ _ _ (g.L.Link.rule c.args.link.now) (g.L.Link.rule c.loop-alloc.link) (g.L.Link.rule c.give-in-loop-alloc.new.link) _ _ _ _ _ c.args.opened.now c.loop-alloc.opened c.give-in-loop-alloc.new.opened c.refill.new.self _ _ _ _ _ _ c.loop-alloc.invariant c.in_ok-give-2.ensures.opened c.in_ok-give-2.ensures.drained c.in_ok-give-2.ensures.gives c.in_ok-give-2.ensures.carries c.in_ok-give-2.ensures.rule c.in_ok-give-2.ensures.cause.later (idle_left c.loop-alloc.opened.request (search rules)) c.in_ok-refill.ensures.sends c.in_ok-give-2.ensures.asks
