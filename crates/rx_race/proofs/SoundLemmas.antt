-- Each step keeps a race sound, and a decision that was made stays.
use Rattle.std.proofs.Common.{◌≡◌, Bool, List, [], ◌∷◌, refl, ◌∙◌}
use Rattle.std.specs.Prelude.{◌≢◌}
use Rattle.rx_world.specs.declared.attempts.Attempt.TheVariants.{Local, Remote}
use Rattle.rx_world.specs.declared.decisions.Decision.{Decision}
use Rattle.rx_world.specs.declared.decisions.Decision.TheVariants.{By, Cancelled, Nothing, Undecided}
use Rattle.rx_race.specs.declared.events.Event.{Event}
use Rattle.rx_race.specs.declared.events.Event.TheVariants.{Cancel, Offer, Start}
use Rattle.rx_race.specs.declared.events.Verdict.TheVariants.{Late}
use Rattle.rx_race.specs.declared.standing.Standing.{Standing}
use Rattle.rx_race.specs.Publishing.{cancel_verdict, offer_verdict}
use Rattle.rx_race.specs.Races.{AreSteps, IsStep, replay}
use Rattle.rx_race.specs.Sound.{Sound}
use Rattle.rx_race.specs.Standings.{after}
use Rattle.rx_race.proofs.StepLemmas.{start-says}
use Rattle.rx_race.proofs.SoundOffers.{sound-offer}
use Rattle.rx_race.proofs.SoundStarts.{sound-cancel, sound-start}

pub sound-after : (s : Standing) (event : Event) → Sound s → IsStep s event → Sound (after s event)
sound-after s (Start x) h step = sound-start s x h step
sound-after s (Offer x v) h step = rw step.1.1 (sound-offer s x s.decision step.1.0 refl h step.0)
sound-after s (Cancel v) h step = rw step (sound-cancel s h s.decision refl)

pub sound-replay : (s : Standing) (events : List Event) → Sound s → AreSteps s events
    → Sound (replay s events)
sound-replay s [] h steps = h
sound-replay s (event ∷ events) h steps =
    sound-replay (after s event) events (sound-after s event h steps.0) steps.1

-- ---- a decision that was made stays

late-offer : (d : Decision) (may : Bool) → d ≢ Undecided → offer_verdict d may ≡ Late
late-offer Undecided may made = absurd (made refl)
late-offer (By x) may made = refl
late-offer Cancelled may made = refl
late-offer Nothing may made = refl

late-cancel : (d : Decision) → d ≢ Undecided → cancel_verdict d ≡ Late
late-cancel Undecided made = absurd (made refl)
late-cancel (By x) made = refl
late-cancel Cancelled made = refl
late-cancel Nothing made = refl

pub decision-after : (s : Standing) (event : Event) → IsStep s event → s.decision ≢ Undecided
    → (after s event).decision ≡ s.decision
decision-after s (Start x) step made = absurd (made (start-says s x step).undecided)
decision-after s (Offer Local v) step made =
    rw (step.1.1 ∙ late-offer s.decision step.1.0 made) refl
decision-after s (Offer Remote v) step made =
    rw (step.1.1 ∙ late-offer s.decision step.1.0 made) refl
decision-after s (Cancel v) step made = rw (step ∙ late-cancel s.decision made) refl
