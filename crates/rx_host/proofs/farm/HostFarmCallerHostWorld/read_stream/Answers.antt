use Rattle.std.proofs.Common.{[], refl}
use Rattle.rx_world.specs.declared.versions.Dialect.TheVariants.{New}
use Rattle.rx_grpc.proofs.EachAnswer.{each-ok}
use Rattle.rx_host.proofs.farm.HostFarmCallerHostWorld.read_stream.Goals as goal

pub returns-clause-honest : goal.returns-clause-honest
returns-clause-honest g c = rw (← c.self.view_is) (each-ok _ _ c.hear_blob-answer.result (λ x h genuine. h (λ digest. []) (λ name. record { hash = []; size = 0 }) New genuine) c.hear_blob-answer.ensures.honest)

pub returns-clause-stays : goal.returns-clause-stays
returns-clause-stays g c =
    let s = c.hear_blob-answer.ensures.stays (λ digest. []) (λ name. record { hash = []; size = 0 }) New in
    rw (← c.self.view_is) (record { triples = s.triples; still_genuine = s.still_genuine; same_dialect = refl })
