-- A session whose attempts were made is an action of the core: its race comes by steps, and its transcript tells of it.
use Rattle.std.proofs.Common.{◌≡◌, ◌∙◌, ℕ, ◌||◌, Bool, true, false, List, [], Option, None, Some, ap, refl, subst, sym}
use Rattle.std.specs.Prelude.{IfSome, MatchOption}
use Rattle.rx_base.specs.declared.digests.Digest.{Digest}
use Rattle.rx_board.specs.declared.journal.Entry.{Entry}
use Rattle.rx_core.specs.Actions.{Action, winner_of, won as core_won}
use Rattle.rx_core.specs.Answering.{HasFailed}
use Rattle.rx_core.specs.Attempts.{Finished, MayEnd, Stops, end_in, finished_in, local_stop}
use Rattle.rx_core.specs.Remote.{Job}
use Rattle.rx_core.specs.Replies.{Reply as CoreReply}
use Rattle.rx_core.specs.States.{State}
use Rattle.rx_core.specs.ToldRaces.{HeardOf, IsToldRace, ToldRace, decided, decided_by, progress_of, raced_action, seen_by}
use Rattle.rx_core.proofs.Cases.{false-true, none-some}
use Rattle.rx_core.proofs.RaceSteps.{raced}
use Rattle.rx_core.proofs.Reaching.{Reaches}
use Rattle.rx_engine.specs.declared.attempts.Won.{Won}
use Rattle.rx_engine.specs.declared.transcripts.Passes.{Passes}
use Rattle.rx_engine.specs.declared.transcripts.Tally.{Tally}
use Rattle.rx_engine.specs.declared.transcripts.Transcript.{Transcript}
use Rattle.rx_engine.specs.Answers.{Grounds, HasRun}
use Rattle.rx_engine.specs.Attempts.{AreTellable, Attempts, HasLocal, HasRemote, in_order, kept_of, listed_local, listed_remote, winner}
use Rattle.rx_engine.specs.Meanings.{Meanings}
use Rattle.rx_engine.specs.Plans.{has_remote, is_due_here}
use Rattle.rx_engine.specs.Racing.{FitsEnd, first_by, is_cancelled, is_told_won}
use Rattle.rx_engine.specs.Session.{tally_in}
use Rattle.rx_race.specs.declared.events.Verdict.TheVariants.{Won as won_race}
use Rattle.rx_race.specs.declared.slips.Seat.TheVariants.{Of}
use Rattle.rx_race.specs.declared.slips.Slip.{Slip}
use Rattle.rx_race.specs.declared.slips.Slip.TheVariants.{Live, Refused, Stopped, Told, Unused, Yielded}
use Rattle.rx_race.specs.Locked.{slips_of}
use Rattle.rx_race.specs.Slips.{slip_at}
use Rattle.rx_remote.specs.Marks.{Turn}
use Rattle.rx_session.specs.declared.requests.Request.{Request}
use Rattle.rx_world.specs.declared.attempts.Attempt.{Attempt}
use Rattle.rx_world.specs.declared.attempts.Attempt.TheVariants.{Local, Remote}
use Rattle.rx_world.specs.declared.attempts.Cause.{Cause}
use Rattle.rx_world.specs.declared.attempts.End.{End}
use Rattle.rx_world.specs.declared.attempts.Plan.{Plan}
use Rattle.rx_world.specs.declared.decisions.Decision.{Decision}
use Rattle.rx_world.specs.declared.decisions.Decision.TheVariants.{By, Cancelled, Nothing, Undecided}
use Rattle.rx_world.specs.declared.outcomes.Outcome.{Outcome}
use Rattle.rx_world.specs.declared.remote_causes.RemoteCause.{RemoteCause}
use Rattle.rx_world.specs.declared.trees.Tree.{Tree}
use Rattle.rx_daemon.specs.CoreRuns.{IsActionOf, decision_of, ends_of, in_core, rules_of}
use Rattle.rx_daemon.proofs.CoreEnds.{hears, if-none, local-may-end}
use Rattle.rx_daemon.proofs.CoreListed.{local-tellable, remote-tellable}
use Rattle.rx_daemon.proofs.CorePasses.{fits-told, has-pass, same-end, told_as}
use Rattle.rx_daemon.proofs.CoreRaces.{free-of-both, is-raced, seen-stops, told_race, won-here, won-there}
use Rattle.rx_daemon.proofs.CoreVictors.{as_finished, nobody, victor}

-- The tree of an action is nothing to these facts.
abbrev no_tree : Tree
no_tree = record { files = []; directories = [] }

-- ---- decisions

-- a race that was won is decided for an attempt
won-by : (d : Decision) (local remote : Option Finished) (f : Finished) → winner_of d local remote ≡ Some f → (x : Attempt) × (d ≡ By x)
won-by (By x) local remote f e = (x, refl)
won-by Undecided local remote f e = none-some e
won-by Cancelled local remote f e = none-some e
won-by Nothing local remote f e = none-some e

cancel-by : (local remote : Bool) → local || remote ≡ false → decided_by local remote true ≡ Cancelled
cancel-by true remote e = false-true (sym e)
cancel-by false true e = false-true (sym e)
cancel-by false false e = refl

-- ---- the attempts

module _ {P W B : Type 0} (m : Meanings P W B) (g : Grounds P) (asked : Request) (tally : Tally) (run : HasRun m g asked tally) where
  abbrev plan : Plan
  plan = run.gathered.plan

  abbrev own : Attempts
  own = run.attempts

  abbrev made : Decision
  made = decision_of run.attempts.passes

  abbrev fits_here : FitsEnd run.gathered.plan Local (is_due_here run.gathered.plan run.attempts.passes.remote) run.attempts.told_local
      run.attempts.local run.attempts.passes.local
  fits_here = run.made.raced.fits_local

  abbrev fits_there : FitsEnd run.gathered.plan Remote (has_remote run.gathered.plan) run.attempts.told_remote run.attempts.remote run.attempts.passes.remote
  fits_there = run.made.raced.fits_remote

  abbrev race : ToldRace
  race = told_race plan own.told_local own.local own.told_remote own.remote
      own.passes.local own.passes.remote own.passes.cancel run.made.raced.told fits_here fits_there

  decided-is : decided race ≡ made
  decided-is = rw (
    won-here plan own.told_local own.local own.told_remote own.remote
        own.passes.local own.passes.remote own.passes.cancel run.made.raced.told fits_here fits_there,
    won-there plan own.told_local own.local own.told_remote own.remote
        own.passes.local own.passes.remote own.passes.cancel run.made.raced.told fits_here fits_there,
  ) refl

  pub cancelled-by : own.passes.cancel ≡ Told won_race → decided race ≡ Cancelled
  cancelled-by gone =
      let asked_off : is_cancelled own.passes.cancel ≡ true = ap is_cancelled gone in
      decided-is ∙ rw asked_off (cancel-by (is_told_won own.passes.local) (is_told_won own.passes.remote)
      (free-of-both plan own.passes.local own.passes.remote own.passes.cancel run.made.raced.told asked_off))

  -- the decision that an attempt was told of is the race's
  stops : (x : Attempt) (seen : Decision) (told : Option Decision) → slip_at (Of x) (slips_of own.passes.local own.passes.remote own.passes.cancel) ≡ Yielded seen
      → IfSome told (λ decision. decision ≡ seen) → IfSome told (Stops made)
  stops x seen None at same = tt
  stops x seen (Some decision) at same =
      subst (Stops made) (sym same) (seen-stops plan own.passes.local own.passes.remote own.passes.cancel run.made.raced.told x seen at)

  -- how the local attempt may end in the core
  ends-here : (end : Option (End Outcome Cause)) (slip : Slip) → own.passes.local ≡ slip
      → FitsEnd plan Local (is_due_here plan own.passes.remote) own.told_local end slip
      → HasLocal m run.gathered own.told_local g.before g.after end
      → IfSome (told_as end slip) (λ told. MayEnd local_stop run.gathered.command (seen_by made told.verdict) told.end)
  ends-here None slip at fits has = tt
  ends-here (Some end) (Told verdict) at fits has =
      local-may-end run.gathered.command (seen_by made verdict) own.told_local end has.proper has.stopped
      (if-none own.told_local (Stops (seen_by made verdict)) fits.1.untold)
  ends-here (Some end) Unused at fits has = absurd fits
  ends-here (Some end) Refused at fits has = absurd fits
  ends-here (Some end) Live at fits has = absurd fits
  ends-here (Some end) (Stopped seen) at fits has = absurd fits
  ends-here (Some end) (Yielded seen) at fits has =
      local-may-end run.gathered.command made own.told_local end has.proper has.stopped (stops Local seen own.told_local at fits.1)

  abbrev job_for : List Digest → Job
  job_for blobs = record { command = run.gathered.command; tree = no_tree; accept_cached = asked.accept_cached; blobs = blobs }

  -- what the remote one heard there
  pub record Heard (end : Option (End Outcome RemoteCause)) (slip : Slip) : Type 0 where
    pub blobs : List Digest
    pub heard : List Turn
    pub of : HeardOf (rules_of m) (job_for blobs) made (told_as end slip) heard

  heard-there : (end : Option (End Outcome RemoteCause)) (slip : Slip) → own.passes.remote ≡ slip
      → FitsEnd plan Remote (has_remote plan) own.told_remote end slip
      → HasRemote m run.gathered asked.accept_cached own.told_remote g.before g.after end → Heard end slip
  heard-there None slip at fits has = record { blobs = []; heard = []; of = refl }
  heard-there (Some end) (Told verdict) at fits has =
      let seen = seen_by made verdict in
      let hear = hears m.world m.farm m.tree_remote run.gathered asked.accept_cached no_tree seen own.told_remote
      (if-none own.told_remote (Stops seen) fits.1.untold) g.before g.after g.before g.after end has in
      record { blobs = hear.blobs; heard = hear.heard; of = hear.leaves }
  heard-there (Some end) Unused at fits has = absurd fits
  heard-there (Some end) Refused at fits has = absurd fits
  heard-there (Some end) Live at fits has = absurd fits
  heard-there (Some end) (Stopped seen) at fits has = absurd fits
  heard-there (Some end) (Yielded seen) at fits has =
      let hear = hears m.world m.farm m.tree_remote run.gathered asked.accept_cached no_tree made own.told_remote
      (stops Remote seen own.told_remote at fits.1) g.before g.after g.before g.after end has in
      record { blobs = hear.blobs; heard = hear.heard; of = hear.leaves }

  pub all_heard : Heard own.remote own.passes.remote
  all_heard = heard-there own.remote own.passes.remote refl fits_there run.made.remote

  abbrev job : Job
  job = job_for all_heard.blobs

  is-told : IsToldRace (rules_of m) job all_heard.heard race
  is-told =
      let raced = is-raced plan own.told_local own.local own.told_remote own.remote
      own.passes.local own.passes.remote own.passes.cancel run.made.raced.told fits_here fits_there in
      record {
        planned_local = raced.planned_local;
        planned_remote = raced.planned_remote;
        turn = raced.turn;
        fits_local = fits-told plan Local (is_due_here plan own.passes.remote) own.told_local own.local own.passes.local fits_here;
        fits_remote = fits-told plan Remote (has_remote plan) own.told_remote own.remote own.passes.remote fits_there;
        ends_local = subst (λ d. IfSome race.local (λ told. MayEnd local_stop job.command (seen_by d told.verdict) told.end)) (sym decided-is)
            (ends-here own.local own.passes.local refl fits_here run.made.local);
        ends_remote = subst (λ d. HeardOf (rules_of m) job d race.remote all_heard.heard) (sym decided-is) all_heard.of;
        one = raced.one;
        free = raced.free;
        late_local = raced.late_local;
        late_remote = raced.late_remote;
        nothing = raced.nothing;
        left = raced.left;
      }

  -- ---- the action

  abbrev pub action_of : ℕ → Action Turn
  action_of number = raced_action number job all_heard.heard race

  -- steps lead to it
  pub reached : (base : State Turn) (number : ℕ) → base.actions number ≡ None → Reaches (rules_of m) base number (action_of number)
  reached base number free = raced (rules_of m) base number number job all_heard.heard race is-told free

  module _ (won : Won) (won_is : winner run.gathered.plan run.attempts ≡ Some won) where
    -- the outcome that is published is the one that won
    pub victor-is : (number : ℕ) → core_won (action_of number) ≡ Some (as_finished won)
    victor-is number =
        subst (λ d. winner_of d (finished_in (progress_of race.local)) (finished_in (progress_of race.remote)) ≡ Some (as_finished won)) (sym decided-is)
        (victor plan own.told_local own.local own.told_remote own.remote
        own.passes.local own.passes.remote own.passes.cancel run.made.raced.told won fits_here fits_there won_is)

    pub decided-for : (number : ℕ) → (x : Attempt) × ((action_of number).decision ≡ By x)
    decided-for number =
        won-by (decided race) (finished_in (progress_of race.local)) (finished_in (progress_of race.remote)) (as_finished won) (victor-is number)

  -- ---- its transcript

  module _ (t : Transcript) (request_is : t.request ≡ Some asked) (same_tally : tally_in t ≡ tally) where
    abbrev action : Action Turn
    action = action_of t.number

    passes-are : t.passes ≡ own.passes
    passes-are = ap (λ (x : Tally). x.passes) (same_tally ∙ run.tally_is)

    ends-are : t.ends ≡ in_order (first_by own.passes.remote) (listed_local (kept_of own.local)) (listed_remote (kept_of own.remote))
    ends-are = ap (λ (x : Tally). x.ends) (same_tally ∙ run.tally_is)

    end-here : end_in action.local ≡ own.local
    end-here = same-end plan Local (is_due_here plan own.passes.remote) own.told_local own.local own.passes.local fits_here

    end-there : end_in action.remote ≡ own.remote
    end-there = same-end plan Remote (has_remote plan) own.told_remote own.remote own.passes.remote fits_there

    ends-told : t.ends ≡ ends_of action own.passes.remote
    ends-told =
        ends-are
        ∙ ap (λ (e : Option (End Outcome Cause)). in_order (first_by own.passes.remote) (listed_local (kept_of e)) (listed_remote (kept_of own.remote))) (sym end-here)
        ∙ ap (λ (e : Option (End Outcome RemoteCause)). in_order (first_by own.passes.remote) (listed_local (kept_of (end_in action.local))) (listed_remote (kept_of e)))
        (sym end-there)

    -- with an entry and a reply that are the transcript's, it is its action
    pub is-action : (entry : Option Entry) (replied : Option CoreReply)
        → MatchOption t.receipt (entry ≡ None) (λ receipt. (e : Entry) × (entry ≡ Some e) × (e.number ≡ receipt.number))
        → replied ≡ in_core t.reply → IsActionOf t (record action { entry = entry; reply = replied })
    is-action entry replied entered reply_is = record {
      request = asked;
      request_is = request_is;
      command_is = run.inputs.orderly.command_is;
      planned = run.inputs.orderly.planned;
      accepts_is = refl;
      session_is = refl;
      local_is = rw passes-are (has-pass plan Local (is_due_here plan own.passes.remote) own.told_local own.local own.passes.local fits_here);
      remote_is = rw passes-are (has-pass plan Remote (has_remote plan) own.told_remote own.remote own.passes.remote fits_there);
      decision_is = decided-is ∙ ap decision_of (sym passes-are);
      ends_are = subst (λ (p : Passes). t.ends ≡ ends_of action p.remote) (sym passes-are) ends-told;
      entry_is = entered;
      reply_is = reply_is;
    }

    -- no attempt has what may be published
    pub has-failed : winner run.gathered.plan run.attempts ≡ None → is_cancelled own.passes.cancel ≡ false → AreTellable t.ends → HasFailed action
    has-failed lost unasked tellable = record {
      nothing = decided-is ∙ nobody plan own.told_local own.local own.told_remote own.remote
          own.passes.local own.passes.remote own.passes.cancel run.made.raced.told fits_here fits_there lost unasked;
      local = λ e. local-tellable (first_by own.passes.remote) own.local (listed_remote (kept_of own.remote)) (subst AreTellable ends-are tellable)
          (sym end-here ∙ e);
      remote = λ e. remote-tellable (first_by own.passes.remote) own.remote (listed_local (kept_of own.local)) (subst AreTellable ends-are tellable)
          (sym end-there ∙ e);
    }
