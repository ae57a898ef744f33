use Rattle.std.proofs.Common.{[], refl}
use Rattle.rx_world.specs.declared.versions.Dialect.TheVariants.{New}
use Rattle.rx_grpc.proofs.EachAnswer.{each-ok, each-some}
use Rattle.rx_host.proofs.farm.HostFarmCallerHostWorld.next_operation.Goals as goal

pub returns-then-not-is_streaming-clause-stays : goal.returns-then-not-is_streaming-clause-stays
returns-then-not-is_streaming-clause-stays g c =
    rw (← c.self.view_is, c.count_fault-answer.ensures.rest) (record { triples = λ digest command outcome vouched. vouched; still_genuine = λ genuine. genuine; same_dialect = refl })

pub returns-clause-agrees : goal.returns-clause-agrees
returns-clause-agrees g c =
    rw (← c.self.view_is) (each-ok _ _ c.hear_operation-answer.result (λ state h. each-some _ _ state.done (λ response agrees. agrees (λ digest. []) (λ name. record { hash = []; size = 0 })) h) c.hear_operation-answer.ensures.agrees)

pub returns-clause-named : goal.returns-clause-named
returns-clause-named g c = rw (← c.self.view_is) (each-ok _ _ c.hear_operation-answer.result (λ state h genuine. h (λ digest. []) (λ name. record { hash = []; size = 0 }) New genuine) c.hear_operation-answer.ensures.named)

pub returns-clause-stays : goal.returns-clause-stays
returns-clause-stays g c =
    let s = c.hear_operation-answer.ensures.stays (λ digest. []) (λ name. record { hash = []; size = 0 }) New in
    rw (← c.self.view_is) (record { triples = s.triples; still_genuine = s.still_genuine; same_dialect = refl })
