-- The event might come to the race as it stands, so there was room for it, and what the race keeps
-- of its events goes on.
use Rattle.std.proofs.Common.{◌∙◌, ◌<◌, ap, arith, length}
use Rattle.std.specs.Prelude.{vec_capacity}
use Rattle.rx_race.specs.Races.{Course, IsStep, standing_of}
use Rattle.rx_race.proofs.SoundLemmas.{decision-after}
use Rattle.rx_race.proofs.StepLemmas.{goes-on, has-room, plan-after, standing-with_event}
use Rattle.rx_race.proofs.race.Race.add.Goals as goal

pub push_reserved-requires : goal.push_reserved-requires
push_reserved-requires c =
    let was = c.self.inside in
    let event = c.args.event in
    let step : IsStep was.standing event =
    rw (← c.self.view_is, c.self.invariant.replays) at c.requires.step in
    let few = rw (← c.self.view_is) at c.requires.few in
    let room : length was.events.items < vec_capacity was.events =
    has-room was.standing was.events.items _ event c.self.invariant step few in
    omega (arith, room, was.events.ok.0)

pub invariant_of-self : goal.invariant_of-self
invariant_of-self c =
    let was = c.self.inside in
    let event = c.args.event in
    let step : IsStep was.standing event =
    rw (← c.self.view_is, c.self.invariant.replays) at c.requires.step in
    let few = rw (← c.self.view_is) at c.requires.few in
    rw
    (c.push_reserved.ensures.items, c.push_reserved.ensures.capacity, c.after-self-inside.ensures)
    (goes-on was.standing was.events.items _ event c.self.invariant step few)

pub returns-clause-kept : goal.returns-clause-kept
returns-clause-kept c = λ made.
    let was = c.self.inside in
    let event = c.args.event in
    let race : Course = record { plan = was.standing.plan; events = was.events.items } in
    let step = rw (← c.self.view_is) at c.requires.step in
    let before = rw (← c.self.view_is) at made in
    let after = ap (λ s. s.decision) (standing-with_event race event) in
    let stays = after ∙ decision-after (standing_of race) event step before in
    let plan = plan-after was.standing event in
    rw
    (c.push_reserved.ensures.items, c.after-self-inside.ensures, plan, ← c.self.view_is)
    stays
