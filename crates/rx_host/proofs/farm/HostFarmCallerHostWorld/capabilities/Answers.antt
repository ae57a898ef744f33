use Rattle.std.proofs.Common.{[], ◌∙◌, ap, refl}
use Rattle.rx_world.specs.declared.versions.Dialect.TheVariants.{New}
use Rattle.rx_grpc.proofs.EachAnswer.{each-ok}
use Rattle.rx_host.specs.Farms.{FarmOf}
use Rattle.rx_host.proofs.farm.HostFarmCallerHostWorld.capabilities.Goals as goal

-- a client that took no connection up has its farm's name and instance yet

pub returns-in-Some-clause-stays : goal.returns-in-Some-clause-stays
returns-in-Some-clause-stays g c =
    rw (c.take_up.ensures.rest) (record { triples = λ digest command outcome vouched. vouched; still_genuine = λ genuine. genuine; same_dialect = refl })

pub returns-in-Ok-clause-honest : goal.returns-in-Ok-clause-honest
returns-in-Ok-clause-honest g c =
    let same = c.self.view_is ∙ c.take_up.ensures.rest in
    rw (← ap (λ (f : FarmOf). f.authority) same, ← ap (λ (f : FarmOf). f.instance) same)
    (each-ok _ _ c.hear_capabilities-answer.result (λ x h genuine. h (λ digest. []) (λ name. record { hash = []; size = 0 }) New genuine) c.hear_capabilities-answer.ensures.honest)

pub returns-in-Ok-clause-stays : goal.returns-in-Ok-clause-stays
returns-in-Ok-clause-stays g c =
    let same = c.self.view_is ∙ c.take_up.ensures.rest in
    let authority = ap (λ (f : FarmOf). f.authority) same in
    let instance = ap (λ (f : FarmOf). f.instance) same in
    let s = c.hear_capabilities-answer.ensures.stays (λ digest. []) (λ name. record { hash = []; size = 0 }) New in
    rw (c.note.ensures) (record {
      triples = λ digest command outcome vouched. s.triples digest command outcome (rw (authority, instance) vouched);
      still_genuine = λ genuine. s.still_genuine (rw (authority, instance) genuine);
      same_dialect = refl;
    })

pub returns-in_default-answer-clause-stays : goal.returns-in_default-answer-clause-stays
returns-in_default-answer-clause-stays g c =
    let same = c.self.view_is ∙ c.take_up.ensures.rest in
    let authority = ap (λ (f : FarmOf). f.authority) same in
    let instance = ap (λ (f : FarmOf). f.instance) same in
    let s = c.hear_capabilities-answer.ensures.stays (λ digest. []) (λ name. record { hash = []; size = 0 }) New in
    record {
      triples = λ digest command outcome vouched. s.triples digest command outcome (rw (authority, instance) vouched);
      still_genuine = λ genuine. s.still_genuine (rw (authority, instance) genuine);
      same_dialect = refl;
    }
