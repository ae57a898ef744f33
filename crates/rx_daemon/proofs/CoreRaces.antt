-- The race of a session's attempts, as its passes were told, is one that the core may have.
use Rattle.std.proofs.Common.{◌≡◌, ◌∙◌, ◌&&◌, ◌||◌, true, false, Option, None, Some, ap, refl, subst, sym}
use Rattle.std.proofs.lemmas.Bool.{and_from, and_parts, false_from_ne_true, or_from, or_left, or_parts, or_right}
use Rattle.std.specs.Prelude.{is_some, not}
use Rattle.rx_core.specs.Attempts.{Stops, phase_in}
use Rattle.rx_core.specs.ToldRaces.{ToldRace, are_all_noted, decided_by, has_come_late, has_won, noted_progress, progress_of}
use Rattle.rx_core.proofs.Cases.{false-true}
use Rattle.rx_engine.specs.Plans.{has_remote, is_due_here, is_noted}
use Rattle.rx_engine.specs.Racing.{FitsEnd, is_cancelled, is_told_won}
use Rattle.rx_engine.proofs.Cases.{late-won, won-slip}
use Rattle.rx_race.specs.declared.events.Verdict.TheVariants.{Late, Noted, Won}
use Rattle.rx_race.specs.declared.slips.Seat.TheVariants.{Canceller, Of}
use Rattle.rx_race.specs.declared.slips.Slip.{Slip}
use Rattle.rx_race.specs.declared.slips.Slip.TheVariants.{Live, Refused, Stopped, Told, Unused, Yielded}
use Rattle.rx_race.specs.Locked.{AllNoted, AreTold, IsDecidedFor, IsLook, SomeoneWon, slips_of}
use Rattle.rx_race.specs.Slips.{seen_in, slip_at, told_in}
use Rattle.rx_race.specs.Standings.{in_plan, is_offered, is_turn}
use Rattle.rx_race.proofs.SoundOffers.{has-offered, offered-if}
use Rattle.rx_world.specs.declared.attempts.Attempt.{Attempt}
use Rattle.rx_world.specs.declared.attempts.Attempt.TheVariants.{Local, Remote}
use Rattle.rx_world.specs.declared.attempts.Cause.{Cause}
use Rattle.rx_world.specs.declared.attempts.End.{End}
use Rattle.rx_world.specs.declared.attempts.Plan.{Plan}
use Rattle.rx_world.specs.declared.attempts.Plan.TheVariants.{Both, Fallback, LocalOnly, RemoteOnly}
use Rattle.rx_world.specs.declared.decisions.Decision.{Decision}
use Rattle.rx_world.specs.declared.outcomes.Outcome.{Outcome}
use Rattle.rx_world.specs.declared.remote_causes.RemoteCause.{RemoteCause}
use Rattle.rx_daemon.proofs.CorePasses.{has-turn, late-told, noted-offered, offered-noted, planned-local, planned-remote, same-remote, same-won, started-due, told_as}

-- ---- who won

module _ (plan : Plan) (local remote cancel : Slip) (told : AreTold plan (slips_of local remote cancel)) where
  abbrev NoneWon : Type 0
  NoneWon = (is_told_won local ≡ false) × (is_told_won remote ≡ false) × (is_cancelled cancel ≡ false)

  -- the race has no winner, where none of the passes won
  not-won : NoneWon → SomeoneWon (slips_of local remote cancel) → ⊥
  not-won none (Of Local, won) = false-true (sym none.0 ∙ ap is_told_won won)
  not-won none (Of Remote, won) = false-true (sym none.1 ∙ ap is_told_won won)
  not-won none (Canceller, won) = false-true (sym none.2 ∙ ap is_cancelled won)

  pub one-attempt : is_told_won local && is_told_won remote ≡ false
  one-attempt = false_from_ne_true (is_told_won local && is_told_won remote) (λ e.
      let both = and_parts (is_told_won local) (is_told_won remote) e in
      let same = told.one (Of Local) (Of Remote) (won-slip local both.0) (won-slip remote both.1) in cc)

  free-local : is_cancelled cancel ≡ true → is_told_won local ≡ false
  free-local gone = false_from_ne_true (is_told_won local) (λ e.
      let same = told.one (Of Local) Canceller (won-slip local e) (won-slip cancel gone) in cc)

  free-remote : is_cancelled cancel ≡ true → is_told_won remote ≡ false
  free-remote gone = false_from_ne_true (is_told_won remote) (λ e.
      let same = told.one (Of Remote) Canceller (won-slip remote e) (won-slip cancel gone) in cc)

  pub lost-here : is_told_won remote ≡ true → is_told_won local ≡ false
  lost-here won = false_from_ne_true (is_told_won local) (λ also.
      false-true (sym one-attempt ∙ and_from (is_told_won local) (is_told_won remote) also won))

  pub free-of-both : is_cancelled cancel ≡ true → is_told_won local || is_told_won remote ≡ false
  free-of-both gone = or_from (is_told_won local) (is_told_won remote) (free-local gone) (free-remote gone)

  after-late-local : told_in local ≡ Some Late → SomeoneWon (slips_of local remote cancel) → is_told_won remote || is_cancelled cancel ≡ true
  after-late-local late (Of Local, won) = absurd (late-won local late won)
  after-late-local late (Of Remote, won) = or_left (is_told_won remote) (is_cancelled cancel) (ap is_told_won won)
  after-late-local late (Canceller, won) = or_right (is_told_won remote) (is_cancelled cancel) (ap is_cancelled won)

  pub late-here : told_in local ≡ Some Late → is_told_won remote || is_cancelled cancel ≡ true
  late-here late = after-late-local late (told.late Local late)

  after-late-remote : told_in remote ≡ Some Late → SomeoneWon (slips_of local remote cancel) → is_told_won local || is_cancelled cancel ≡ true
  after-late-remote late (Of Remote, won) = absurd (late-won remote late won)
  after-late-remote late (Of Local, won) = or_left (is_told_won local) (is_cancelled cancel) (ap is_told_won won)
  after-late-remote late (Canceller, won) = or_right (is_told_won local) (is_cancelled cancel) (ap is_cancelled won)

  pub late-there : told_in remote ≡ Some Late → is_told_won local || is_cancelled cancel ≡ true
  late-there late = after-late-remote late (told.late Remote late)

  -- a decision that an attempt saw is the race's
  abbrev made : Decision
  made = decided_by (is_told_won local) (is_told_won remote) (is_cancelled cancel)

  seen-is : (d : Decision) → IsDecidedFor d (slips_of local remote cancel) → Stops made d
  seen-is d (Of Local, won, is) = rw (ap is_told_won won, is) (refl, tt)
  seen-is d (Of Remote, won, is) =
      let also : is_told_won remote ≡ true = ap is_told_won won in rw (lost-here also, also, is) (refl, tt)
  seen-is d (Canceller, won, is) =
      let gone : is_cancelled cancel ≡ true = ap is_cancelled won in rw (free-local gone, free-remote gone, gone, is) (refl, tt)

  pub seen-stops : (x : Attempt) (seen : Decision) → slip_at (Of x) (slips_of local remote cancel) ≡ Yielded seen → Stops made seen
  seen-stops x seen at = seen-is seen (told.seen x seen (ap seen_in at))

  -- where none won, an attempt that was to start was noted
  due-noted : {C : Type 0} (x : Attempt) (seen : Option Decision) (end : Option (End Outcome C)) (slip : Slip)
      → slip_at (Of x) (slips_of local remote cancel) ≡ slip → NoneWon → is_told_won slip ≡ false → FitsEnd plan x true seen end slip → slip ≡ Told Noted
  due-noted x seen None slip at none lost fits =
      absurd (not-won none (told.look x (subst IsLook (sym (at ∙ fits.0)) tt)))
  due-noted x seen (Some end) (Told Noted) at none lost fits = refl
  due-noted x seen (Some end) (Told Won) at none lost fits = false-true (sym lost)
  due-noted x seen (Some end) (Told Late) at none lost fits = absurd (not-won none (told.late x (ap told_in at)))
  due-noted x seen (Some end) Unused at none lost fits = absurd fits
  due-noted x seen (Some end) Refused at none lost fits = absurd fits
  due-noted x seen (Some end) Live at none lost fits = absurd fits
  due-noted x seen (Some end) (Stopped d) at none lost fits = absurd fits
  due-noted x seen (Some end) (Yielded d) at none lost fits = absurd (not-won none (told.late x (ap told_in at)))

-- ---- a whole race

-- an attempt of the plan that isn't the local one of a fallback is to start
due-local : (plan : Plan) (remote : Slip) → in_plan plan Local ≡ true → (has_remote plan ≡ true → remote ≡ Told Noted) → is_due_here plan remote ≡ true
due-local LocalOnly remote planned noted = refl
due-local RemoteOnly remote planned noted = planned
due-local Fallback remote planned noted = ap is_noted (noted refl)
due-local Both remote planned noted = refl

module _ (plan : Plan) (told_local : Option Decision) (local : Option (End Outcome Cause))
    (told_remote : Option Decision) (remote : Option (End Outcome RemoteCause)) (at_local at_remote cancel : Slip)
    (told : AreTold plan (slips_of at_local at_remote cancel)) (fits_local : FitsEnd plan Local (is_due_here plan at_remote) told_local local at_local)
    (fits_remote : FitsEnd plan Remote (has_remote plan) told_remote remote at_remote) where
  -- as the core has it
  abbrev pub told_race : ToldRace
  told_race = record {
    plan = plan;
    local = told_as local at_local;
    remote = told_as remote at_remote;
    cancelled = is_cancelled cancel;
  }

  pub won-here : has_won (told_as local at_local) ≡ is_told_won at_local
  won-here = same-won plan Local (is_due_here plan at_remote) told_local local at_local fits_local

  pub won-there : has_won (told_as remote at_remote) ≡ is_told_won at_remote
  won-there = same-won plan Remote (has_remote plan) told_remote remote at_remote fits_remote

  abbrev Lost : Type 0
  Lost = NoneWon plan at_local at_remote cancel told

  -- where none won, each attempt of the plan was noted
  remote-noted : Lost → has_remote plan ≡ true → at_remote ≡ Told Noted
  remote-noted none has =
      due-noted plan at_local at_remote cancel told Remote told_remote remote at_remote refl none none.1
      (subst (λ due. FitsEnd plan Remote due told_remote remote at_remote) has fits_remote)

  local-noted : Lost → in_plan plan Local ≡ true → at_local ≡ Told Noted
  local-noted none planned =
      due-noted plan at_local at_remote cancel told Local told_local local at_local refl none none.0
      (subst (λ due. FitsEnd plan Local due told_local local at_local) (due-local plan at_remote planned (remote-noted none)) fits_local)

  pub all-noted : Lost → are_all_noted told_race ≡ true
  all-noted none =
      let first : not (in_plan plan Local) || is_offered (phase_in (noted_progress (told_as local at_local))) ≡ true =
      offered-if (in_plan plan Local) (is_offered (phase_in (noted_progress (told_as local at_local))))
      (λ planned. offered-noted plan Local (is_due_here plan at_remote) told_local local at_local fits_local (local-noted none planned)) in
      let second : not (in_plan plan Remote) || is_offered (phase_in (noted_progress (told_as remote at_remote))) ≡ true =
      offered-if (in_plan plan Remote) (is_offered (phase_in (noted_progress (told_as remote at_remote))))
      (λ planned. offered-noted plan Remote (has_remote plan) told_remote remote at_remote fits_remote
      (remote-noted none (same-remote plan ∙ planned))) in
      rw (first, second) refl

  noted-each : are_all_noted told_race ≡ true → AllNoted plan (slips_of at_local at_remote cancel)
  noted-each all Local planned =
      let both = and_parts (not (in_plan plan Local) || is_offered (phase_in (noted_progress (told_as local at_local))))
      (not (in_plan plan Remote) || is_offered (phase_in (noted_progress (told_as remote at_remote)))) all in
      noted-offered plan Local (is_due_here plan at_remote) told_local local at_local
      (has-offered (in_plan plan Local) (is_offered (phase_in (noted_progress (told_as local at_local)))) both.0 planned)
  noted-each all Remote planned =
      let both = and_parts (not (in_plan plan Local) || is_offered (phase_in (noted_progress (told_as local at_local))))
      (not (in_plan plan Remote) || is_offered (phase_in (noted_progress (told_as remote at_remote)))) all in
      noted-offered plan Remote (has_remote plan) told_remote remote at_remote
      (has-offered (in_plan plan Remote) (is_offered (phase_in (noted_progress (told_as remote at_remote)))) both.1 planned)

  -- a race that was cancelled has an attempt left
  pub some-left : is_cancelled cancel ≡ true → are_all_noted told_race ≡ false
  some-left gone = false_from_ne_true (are_all_noted told_race) (λ all. told.none (noted-each all) (Canceller, won-slip cancel gone))

  -- what the core asks of a race, but for what was heard and how the attempts may end
  pub record IsRaced : Type 0 where
    pub planned_local : is_some told_race.local ≡ true → in_plan plan Local ≡ true
    pub planned_remote : is_some told_race.remote ≡ true → in_plan plan Remote ≡ true
    pub turn : is_some told_race.local ≡ true → is_turn plan Local (phase_in (progress_of told_race.remote)) ≡ true
    pub one : has_won told_race.local && has_won told_race.remote ≡ false
    pub free : is_cancelled cancel ≡ true → has_won told_race.local || has_won told_race.remote ≡ false
    pub late_local : has_come_late told_race.local ≡ true → has_won told_race.remote || is_cancelled cancel ≡ true
    pub late_remote : has_come_late told_race.remote ≡ true → has_won told_race.local || is_cancelled cancel ≡ true
    pub nothing : has_won told_race.local || (has_won told_race.remote || is_cancelled cancel) ≡ false → are_all_noted told_race ≡ true
    pub left : is_cancelled cancel ≡ true → are_all_noted told_race ≡ false

  lost-by : is_told_won at_local || (is_told_won at_remote || is_cancelled cancel) ≡ false → Lost
  lost-by e =
      let first = or_parts (is_told_won at_local) (is_told_won at_remote || is_cancelled cancel) e in
      let rest = or_parts (is_told_won at_remote) (is_cancelled cancel) first.1 in
      (first.0, rest.0, rest.1)

  pub is-raced : IsRaced
  is-raced =
      let due-here = started-due plan Local (is_due_here plan at_remote) told_local local at_local fits_local in
      record {
        planned_local = λ some. planned-local plan at_remote (due-here some);
        planned_remote = λ some. planned-remote plan (started-due plan Remote (has_remote plan) told_remote remote at_remote fits_remote some);
        turn = λ some. has-turn plan told_remote remote at_remote fits_remote (due-here some);
        one = rw (won-here, won-there) (one-attempt plan at_local at_remote cancel told);
        free = λ gone. rw (won-here, won-there) (free-of-both plan at_local at_remote cancel told gone);
        late_local = λ late. rw won-there (late-here plan at_local at_remote cancel told (late-told local at_local late));
        late_remote = λ late. rw won-here (late-there plan at_local at_remote cancel told (late-told remote at_remote late));
        nothing = λ none. all-noted (lost-by (rw (won-here, won-there) at none));
        left = some-left;
      }
