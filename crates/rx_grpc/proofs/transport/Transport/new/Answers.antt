use Rattle.rx_grpc.proofs.StreamLemmas.{ready_new}
use Rattle.rx_grpc.proofs.transport.Transport.new.Goals as goal

pub invariant_of-result : goal.invariant_of-result
invariant_of-result g c = (λ _. ready_new _ (g.L.Link.rule c.args.link) _ _ c.in_ok-new.field-0 c.requires.fresh c.requires.meets c.in_ok-new.ensures.is, tt)
