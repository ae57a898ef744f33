-- Whose outcome a session publishes, and whose the core has as the one that won: they are one.
use Rattle.std.proofs.Common.{◌≡◌, ◌∙◌, ◌||◌, Bool, true, false, Option, None, Some, ap, refl, subst, sym}
use Rattle.std.specs.Prelude.{if◌then◌else◌}
use Rattle.std.proofs.lemmas.Bool.{false_from_ne_true}
use Rattle.rx_core.specs.Actions.{winner_of}
use Rattle.rx_core.specs.Attempts.{Finished, finished_in}
use Rattle.rx_core.specs.ToldRaces.{decided_by, progress_of}
use Rattle.rx_core.proofs.Cases.{false-true, none-some, some-is, some-none}
use Rattle.rx_engine.specs.declared.attempts.Won.{Won as Winner}
use Rattle.rx_engine.specs.Attempts.{first_won, outcome_of, unless_cancelled, won_by, won_remote}
use Rattle.rx_engine.specs.Plans.{has_remote, is_due_here}
use Rattle.rx_engine.specs.Racing.{FitsEnd, first_by, is_cancelled, is_told_won}
use Rattle.rx_engine.proofs.Cases.{won-slip}
use Rattle.rx_engine.proofs.RaceLemmas.{unstarted-told}
use Rattle.rx_race.specs.declared.events.Verdict.TheVariants.{Late, Noted, Won}
use Rattle.rx_race.specs.declared.slips.Seat.TheVariants.{Canceller, Of}
use Rattle.rx_race.specs.declared.slips.Slip.{Slip}
use Rattle.rx_race.specs.declared.slips.Slip.TheVariants.{Live, Refused, Stopped, Told, Unused, Yielded}
use Rattle.rx_race.specs.Locked.{AreTold, SomeoneWon, slips_of}
use Rattle.rx_race.specs.Publishing.{is_remote_only, is_zero}
use Rattle.rx_race.specs.Slips.{told_in}
use Rattle.rx_world.specs.declared.attempts.Attempt.TheVariants.{Local, Remote}
use Rattle.rx_world.specs.declared.attempts.Cause.{Cause}
use Rattle.rx_world.specs.declared.attempts.End.{End}
use Rattle.rx_world.specs.declared.attempts.End.TheVariants.{Done, Failed}
use Rattle.rx_world.specs.declared.attempts.Plan.{Plan}
use Rattle.rx_world.specs.declared.decisions.Decision.{Decision}
use Rattle.rx_world.specs.declared.decisions.Decision.TheVariants.{Nothing}
use Rattle.rx_world.specs.declared.outcomes.Outcome.{Outcome}
use Rattle.rx_world.specs.declared.remote_causes.RemoteCause.{RemoteCause}
use Rattle.rx_daemon.proofs.CorePasses.{told_as}
use Rattle.rx_daemon.proofs.CoreRaces.{lost-here}

-- as the core has it
abbrev pub as_finished : Winner → Finished
as_finished won = record { outcome = won.outcome; origin = won.origin }

first-local : (slip : Slip) → is_told_won slip ≡ false → first_by slip ≡ Local
first-local (Told Won) e = false-true (sym e)
first-local (Told Late) e = refl
first-local (Told Noted) e = refl
first-local Unused e = refl
first-local Refused e = refl
first-local Live e = refl
first-local (Stopped seen) e = refl
first-local (Yielded seen) e = refl

free-by : (test : Bool) (made : Option Winner) (won : Winner) → (if test then None else made) ≡ Some won → test ≡ false
free-by true made won e = none-some e
free-by false made won e = refl

made-by : (test : Bool) (made : Option Winner) → test ≡ false → (if test then None else made) ≡ made
made-by test made e = rw e refl

test-first : (test : Bool) (first won : Winner) (other : Option Winner) → test ≡ true
    → first_won (if test then Some first else None) other ≡ Some won → first ≡ won
test-first true first won other e h = some-is h
test-first false first won other e h = false-true e

test-some : (test : Bool) (first won : Winner) → (if test then Some first else None) ≡ Some won → test ≡ true
test-some true first won e = refl
test-some false first won e = none-some e

none-test : (test : Bool) (first : Winner) (other : Option Winner) → test ≡ true → first_won (if test then Some first else None) other ≡ None → ⊥
none-test true first other e h = some-none h
none-test false first other e h = false-true e

module _ (plan : Plan) (told_local : Option Decision) (local : Option (End Outcome Cause))
    (told_remote : Option Decision) (remote : Option (End Outcome RemoteCause)) (at_local at_remote cancel : Slip)
    (told : AreTold plan (slips_of at_local at_remote cancel)) where
  abbrev FitsHere : Option (End Outcome Cause) → Slip → Type 0
  FitsHere end slip = FitsEnd plan Local (is_due_here plan at_remote) told_local end slip

  abbrev FitsThere : Option (End Outcome RemoteCause) → Slip → Type 0
  FitsThere end slip = FitsEnd plan Remote (has_remote plan) told_remote end slip

  -- ---- the remote one won

  there-won : (end : Option (End Outcome RemoteCause)) (slip : Slip) (other : Option Winner) (won : Winner) → FitsThere end slip → slip ≡ Told Won
      → first_won (won_remote plan end) other ≡ Some won → finished_in (progress_of (told_as end slip)) ≡ Some (as_finished won)
  there-won None slip other won fits is e = absurd (unstarted-told (has_remote plan) Won (sym fits.0 ∙ is))
  there-won (Some (Done outcome origin)) (Told Won) other won fits is e =
      ap (λ w. Some (as_finished w)) (test-first (is_zero outcome.exit.code || is_remote_only plan) (record { outcome = outcome; origin = origin }) won other
      (fits.1.won refl) e)
  there-won (Some (Failed cause)) (Told Won) other won fits is e = false-true (fits.1.won refl)
  there-won (Some end) (Told Late) other won fits is e = cc
  there-won (Some end) (Told Noted) other won fits is e = cc
  there-won (Some end) Unused other won fits is e = absurd fits
  there-won (Some end) Refused other won fits is e = absurd fits
  there-won (Some end) Live other won fits is e = absurd fits
  there-won (Some end) (Stopped seen) other won fits is e = absurd fits
  there-won (Some end) (Yielded seen) other won fits is e = cc

  there-has : (end : Option (End Outcome RemoteCause)) (slip : Slip) (other : Option Winner) → FitsThere end slip → slip ≡ Told Won
      → first_won (won_remote plan end) other ≡ None → ⊥
  there-has None slip other fits is e = unstarted-told (has_remote plan) Won (sym fits.0 ∙ is)
  there-has (Some (Done outcome origin)) (Told Won) other fits is e =
      none-test (is_zero outcome.exit.code || is_remote_only plan) (record { outcome = outcome; origin = origin }) other (fits.1.won refl) e
  there-has (Some (Failed cause)) (Told Won) other fits is e = false-true (fits.1.won refl)
  there-has (Some end) (Told Late) other fits is e = cc
  there-has (Some end) (Told Noted) other fits is e = cc
  there-has (Some end) Unused other fits is e = fits
  there-has (Some end) Refused other fits is e = fits
  there-has (Some end) Live other fits is e = fits
  there-has (Some end) (Stopped seen) other fits is e = fits
  there-has (Some end) (Yielded seen) other fits is e = cc

  -- ---- the remote one didn't win, and nobody cancelled

  module _ (lost : is_told_won at_remote ≡ false) (free : is_cancelled cancel ≡ false) where
    -- so whoever won is the local one
    winner-here : SomeoneWon (slips_of at_local at_remote cancel) → at_local ≡ Told Won
    winner-here (Of Local, won) = won
    winner-here (Of Remote, won) = false-true (sym lost ∙ ap is_told_won won)
    winner-here (Canceller, won) = false-true (sym free ∙ ap is_cancelled won)

    -- a remote outcome that may be published came late
    there-late : (end : Option (End Outcome RemoteCause)) (slip : Slip) (won : Winner) → at_remote ≡ slip → FitsThere end slip → won_remote plan end ≡ Some won
        → at_local ≡ Told Won
    there-late None slip won at fits e = none-some e
    there-late (Some (Failed cause)) slip won at fits e = none-some e
    there-late (Some (Done outcome origin)) (Told Late) won at fits e = winner-here (told.late Remote (ap told_in at))
    there-late (Some (Done outcome origin)) (Told Won) won at fits e = false-true (sym lost ∙ ap is_told_won at)
    there-late (Some (Done outcome origin)) (Told Noted) won at fits e =
        false-true (sym (fits.1.noted refl)
        ∙ test-some (is_zero outcome.exit.code || is_remote_only plan) (record { outcome = outcome; origin = origin }) won e)
    there-late (Some (Done outcome origin)) Unused won at fits e = absurd fits
    there-late (Some (Done outcome origin)) Refused won at fits e = absurd fits
    there-late (Some (Done outcome origin)) Live won at fits e = absurd fits
    there-late (Some (Done outcome origin)) (Stopped seen) won at fits e = absurd fits
    there-late (Some (Done outcome origin)) (Yielded seen) won at fits e = winner-here (told.late Remote (ap told_in at))

    -- the local one won, where there is an outcome to publish
    here-won : (end : Option (End Outcome Cause)) (slip : Slip) (won : Winner) → at_local ≡ slip → FitsHere end slip → FitsThere remote at_remote
        → first_won (outcome_of end) (won_remote plan remote) ≡ Some won → slip ≡ Told Won
    here-won None slip won at fits there e = sym at ∙ there-late remote at_remote won refl there e
    here-won (Some (Failed cause)) slip won at fits there e = sym at ∙ there-late remote at_remote won refl there e
    here-won (Some (Done outcome origin)) (Told Won) won at fits there e = refl
    here-won (Some (Done outcome origin)) (Told Late) won at fits there e = sym at ∙ winner-here (told.late Local (ap told_in at))
    here-won (Some (Done outcome origin)) (Told Noted) won at fits there e = false-true (sym (fits.1.noted refl))
    here-won (Some (Done outcome origin)) Unused won at fits there e = absurd fits
    here-won (Some (Done outcome origin)) Refused won at fits there e = absurd fits
    here-won (Some (Done outcome origin)) Live won at fits there e = absurd fits
    here-won (Some (Done outcome origin)) (Stopped seen) won at fits there e = absurd fits
    here-won (Some (Done outcome origin)) (Yielded seen) won at fits there e = sym at ∙ winner-here (told.late Local (ap told_in at))

  -- a local attempt that won has the outcome
  here-is : (end : Option (End Outcome Cause)) (slip : Slip) (other : Option Winner) (won : Winner) → FitsHere end slip → slip ≡ Told Won
      → first_won (outcome_of end) other ≡ Some won → finished_in (progress_of (told_as end slip)) ≡ Some (as_finished won)
  here-is None slip other won fits is e = absurd (unstarted-told (is_due_here plan at_remote) Won (sym fits.0 ∙ is))
  here-is (Some (Done outcome origin)) (Told verdict) other won fits is e = ap (λ w. Some (as_finished w)) (some-is e)
  here-is (Some (Failed cause)) (Told Won) other won fits is e = false-true (fits.1.won refl)
  here-is (Some (Failed cause)) (Told Late) other won fits is e = cc
  here-is (Some (Failed cause)) (Told Noted) other won fits is e = cc
  here-is (Some end) Unused other won fits is e = absurd fits
  here-is (Some end) Refused other won fits is e = absurd fits
  here-is (Some end) Live other won fits is e = absurd fits
  here-is (Some end) (Stopped seen) other won fits is e = absurd fits
  here-is (Some end) (Yielded seen) other won fits is e = cc

  here-has : (end : Option (End Outcome Cause)) (slip : Slip) (other : Option Winner) → FitsHere end slip → slip ≡ Told Won
      → first_won (outcome_of end) other ≡ None → ⊥
  here-has None slip other fits is e = unstarted-told (is_due_here plan at_remote) Won (sym fits.0 ∙ is)
  here-has (Some (Done outcome origin)) (Told verdict) other fits is e = some-none e
  here-has (Some (Failed cause)) (Told Won) other fits is e = false-true (fits.1.won refl)
  here-has (Some (Failed cause)) (Told Late) other fits is e = cc
  here-has (Some (Failed cause)) (Told Noted) other fits is e = cc
  here-has (Some end) Unused other fits is e = fits
  here-has (Some end) Refused other fits is e = fits
  here-has (Some end) Live other fits is e = fits
  here-has (Some end) (Stopped seen) other fits is e = fits
  here-has (Some end) (Yielded seen) other fits is e = cc

  -- ---- both

  abbrev published : Option Winner
  published = unless_cancelled cancel (won_by (first_by at_remote) (outcome_of local) (won_remote plan remote))

  abbrev in_race : Option Finished
  in_race = winner_of (decided_by (is_told_won at_local) (is_told_won at_remote) (is_cancelled cancel))
      (finished_in (progress_of (told_as local at_local))) (finished_in (progress_of (told_as remote at_remote)))

  victor-by : (there : Bool) (won : Winner) → is_told_won at_remote ≡ there → is_cancelled cancel ≡ false → FitsHere local at_local → FitsThere remote at_remote
      → won_by (first_by at_remote) (outcome_of local) (won_remote plan remote) ≡ Some won → in_race ≡ Some (as_finished won)
  victor-by true won is free here there e =
      let slip = won-slip at_remote is in
      let first = subst (λ x. won_by (first_by x) (outcome_of local) (won_remote plan remote) ≡ Some won) slip e in
      rw (is, lost-here plan at_local at_remote cancel told is) (there-won remote at_remote (outcome_of local) won there slip first)
  victor-by false won is free here there e =
      let first = subst (λ x. won_by x (outcome_of local) (won_remote plan remote) ≡ Some won) (first-local at_remote is) e in
      let slip = here-won is free local at_local won refl here there first in
      let won_it : is_told_won at_local ≡ true = ap is_told_won slip in
      rw won_it (here-is local at_local (won_remote plan remote) won here slip first)

  -- the outcome that is published is the one that won the race
  pub victor : (won : Winner) → FitsHere local at_local → FitsThere remote at_remote → published ≡ Some won → in_race ≡ Some (as_finished won)
  victor won here there e =
      let made = won_by (first_by at_remote) (outcome_of local) (won_remote plan remote) in
      let free = free-by (is_cancelled cancel) made won e in
      victor-by (is_told_won at_remote) won refl free here there (sym (made-by (is_cancelled cancel) made free) ∙ e)

  nobody-by : (there : Bool) → is_told_won at_remote ≡ there → is_cancelled cancel ≡ false → FitsHere local at_local → FitsThere remote at_remote
      → won_by (first_by at_remote) (outcome_of local) (won_remote plan remote) ≡ None
      → (is_told_won at_local ≡ false) × (is_told_won at_remote ≡ false)
  nobody-by true is free here there e =
      let slip = won-slip at_remote is in
      absurd (there-has remote at_remote (outcome_of local) there slip
      (subst (λ x. won_by (first_by x) (outcome_of local) (won_remote plan remote) ≡ None) slip e))
  nobody-by false is free here there e = (
    false_from_ne_true (is_told_won at_local) (λ won. here-has local at_local (won_remote plan remote) here (won-slip at_local won)
        (subst (λ x. won_by x (outcome_of local) (won_remote plan remote) ≡ None) (first-local at_remote is) e)),
    is,
  )

  -- where nothing is published and nobody cancelled, nothing won
  pub nobody : FitsHere local at_local → FitsThere remote at_remote → published ≡ None → is_cancelled cancel ≡ false
      → decided_by (is_told_won at_local) (is_told_won at_remote) (is_cancelled cancel) ≡ Nothing
  nobody here there e free =
      let made = won_by (first_by at_remote) (outcome_of local) (won_remote plan remote) in
      let lost = nobody-by (is_told_won at_remote) refl free here there (sym (made-by (is_cancelled cancel) made free) ∙ e) in
      rw (lost.0, lost.1, free) refl
