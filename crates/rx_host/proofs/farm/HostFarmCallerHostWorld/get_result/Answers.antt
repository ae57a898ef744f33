use Rattle.std.proofs.Common.{[], refl}
use Rattle.rx_world.specs.declared.versions.Dialect.TheVariants.{New}
use Rattle.rx_grpc.proofs.EachAnswer.{each-ok, each-some}
use Rattle.rx_host.proofs.farm.HostFarmCallerHostWorld.get_result.Goals as goal

pub returns-clause-agrees : goal.returns-clause-agrees
returns-clause-agrees g c = rw (← c.self.view_is) (each-ok _ _ c.hear_result-answer.result (λ found h. each-some _ _ found (λ r agrees. agrees (λ digest. []) (λ name. record { hash = []; size = 0 })) h) c.hear_result-answer.ensures.agrees)

pub returns-clause-stays : goal.returns-clause-stays
returns-clause-stays g c =
    let s = c.hear_result-answer.ensures.stays (λ digest. []) (λ name. record { hash = []; size = 0 }) New in
    rw (← c.self.view_is) (record { triples = s.triples; still_genuine = s.still_genuine; same_dialect = refl })
