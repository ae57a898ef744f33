-- A look that finds a decision for an attempt or a cancel writes it on the pass.
use Rattle.std.proofs.Common.{subst}
use Rattle.rx_world.specs.Decisions.{IsSettled}
use Rattle.rx_race.proofs.LookLemmas.{locked-stopped}
use Rattle.rx_race.proofs.held.Held.look.Goals as goal

pub invariant_of-self : goal.invariant_of-self
invariant_of-self g c =
    let was = c.self.inside in
    let plan = g.K.Contest.plan in
    let live = rw (← rw c.requires.seat at c.check.ensures.agrees) at c.requires.live in
    let found = c.is_settled.ensures.0 c.if-is_settled.true in
    let replayed = c.decision-decision.ensures.replayed in
    let settled = subst IsSettled replayed found in
    rw (c.write.ensures.desk, c.check.ensures.desk)
    (rw (c.check.ensures.ticket, c.requires.seat, replayed)
    (locked-stopped plan was.race was.desk c.args.attempt c.self.invariant live settled))
