-- The pass is live, so its attempt runs.
use Rattle.rx_race.proofs.LockLemmas.{locked-offer}
use Rattle.rx_race.proofs.LookLemmas.{offer-told, runs}
use Rattle.rx_race.proofs.SlipLemmas.{offer-late, offer-seen}
use Rattle.rx_race.proofs.held.Held.offer.Goals as goal

pub invariant_of-self : goal.invariant_of-self
invariant_of-self g c =
    let was = c.self.inside in
    let plan = g.K.Contest.plan in
    let agrees = rw c.requires.seat at c.check.ensures.agrees in
    let live = rw (← agrees) at c.requires.live in
    let run = runs plan was.race was.desk c.args.attempt c.self.invariant live in
    rw (c.offer-verdict.ensures.step, c.write.ensures.desk, c.check.ensures.desk)
    (rw (c.offered-slip.ensures, c.slip.ensures, c.check.ensures.ticket, c.requires.seat, ← agrees, c.offer-verdict.ensures.verdict)
    (locked-offer plan was.race was.desk c.args.attempt _ c.self.invariant run))

pub returns-clause-told : goal.returns-clause-told
returns-clause-told g c =
    let was = c.self.inside in
    let plan = g.K.Contest.plan in
    let agrees = rw c.requires.seat at c.check.ensures.agrees in
    let live = rw (← agrees) at c.requires.live in
    rw (c.write.ensures.ticket, c.offered-slip.ensures, c.slip.ensures, c.check.ensures.ticket, ← agrees, c.offer-verdict.ensures.verdict)
    (offer-told plan was.race was.desk c.args.attempt _ c.self.invariant live)

pub returns-clause-seen : goal.returns-clause-seen
returns-clause-seen g c =
    rw (c.write.ensures.ticket, c.offered-slip.ensures, c.slip.ensures, c.check.ensures.ticket)
    (offer-seen c.args.ticket.now.slip c.offer-verdict.result)

pub returns-clause-late : goal.returns-clause-late
returns-clause-late g c =
    let was = c.self.inside in
    let plan = g.K.Contest.plan in
    let agrees = rw c.requires.seat at c.check.ensures.agrees in
    let live = rw (← agrees) at c.requires.live in
    rw (← agrees, c.offer-verdict.ensures.verdict)
    (offer-late _ _ (offer-told plan was.race was.desk c.args.attempt _ c.self.invariant live))
