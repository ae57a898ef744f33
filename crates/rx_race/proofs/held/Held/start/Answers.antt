-- A start is one of the race, and the pass is refused where the race is decided for an attempt or
-- cancelled. An attempt of the plan that needn't wait is refused for nothing else.
use Rattle.std.proofs.Common.{ap, subst, sym, true≢false, ◌∙◌}
use Rattle.rx_world.specs.Decisions.{IsSettled}
use Rattle.rx_race.specs.Races.{standing_of}
use Rattle.rx_race.proofs.LockLemmas.{locked-start}
use Rattle.rx_race.proofs.LookLemmas.{refused-settled, start-planned}
use Rattle.rx_race.proofs.held.Held.start.Goals as goal

pub invariant_of-self : goal.invariant_of-self
invariant_of-self g c =
    let was = c.self.inside in
    let may = sym c.start.ensures.may ∙ c.if-start.true in
    rw (c.start.ensures.step, c.if-start.true, c.write.ensures.desk, c.check.ensures.desk)
    (rw (c.check.ensures.ticket, c.requires)
    (locked-start g.K.Contest.plan was.race was.desk c.args.attempt c.self.invariant may))

pub returns-then-start-clause-planned : goal.returns-then-start-clause-planned
returns-then-start-clause-planned g c =
    let was = c.self.inside in
    let may = sym c.start.ensures.may ∙ c.if-start.true in
    start-planned g.K.Contest.plan was.race was.desk c.args.attempt c.self.invariant may

pub returns-clause-refused : goal.returns-clause-refused
returns-clause-refused g c = λ planned turn.
    let was = c.self.inside in
    let may = sym c.start.ensures.may ∙ c.if-start.false in
    let same = rw c.if-start.false at c.start.ensures.step in
    let unused = rw c.requires at c.check.ensures.agrees in
    let turn_here = rw (← c.self.view_is) at turn in
    let attempt = c.args.attempt in
    let exact = refused-settled g.K.Contest.plan was.race was.desk attempt c.self.invariant in
    let settled = exact unused may planned turn_here in
    let seen = c.decision.ensures.replayed ∙ ap (λ race. (standing_of race).decision) same in
    let told = c.is_settled.ensures.1 (subst IsSettled (sym seen) settled) in
    absurd (true≢false (sym told ∙ c.if-is_settled.false))
