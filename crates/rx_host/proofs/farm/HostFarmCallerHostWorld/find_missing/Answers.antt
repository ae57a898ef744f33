use Rattle.std.proofs.Common.{[], refl}
use Rattle.rx_world.specs.declared.versions.Dialect.TheVariants.{New}
use Rattle.rx_host.proofs.farm.HostFarmCallerHostWorld.find_missing.Goals as goal

pub returns-clause-stays : goal.returns-clause-stays
returns-clause-stays g c =
    let s = c.hear_missing-answer.ensures.stays (λ digest. []) (λ name. record { hash = []; size = 0 }) New in
    rw (← c.self.view_is) (record { triples = s.triples; still_genuine = s.still_genuine; same_dialect = refl })
