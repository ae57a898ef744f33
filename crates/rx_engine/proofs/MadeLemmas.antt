-- What is kept and published of the attempts of a plan.
use Rattle.std.proofs.Common.{◌≡◌, ◌||◌, Bool, true, false, List, ◌++◌, ap, refl, sym}
use Rattle.std.specs.Prelude.{None, Option, Some, if◌then◌else◌}
use Rattle.rx_core.proofs.Cases.{none-some, some-is}
use Rattle.rx_race.specs.declared.slips.Slip.{Slip}
use Rattle.rx_race.specs.Publishing.{is_remote_only, is_zero}
use Rattle.rx_scan.specs.declared.gathering.Gathered.{Gathered}
use Rattle.rx_world.specs.declared.attempts.Attempt.{Attempt}
use Rattle.rx_world.specs.declared.attempts.Attempt.TheVariants as whose
use Rattle.rx_world.specs.declared.attempts.Cause.{Cause}
use Rattle.rx_world.specs.declared.attempts.End.{End}
use Rattle.rx_world.specs.declared.attempts.End.TheVariants as ends
use Rattle.rx_world.specs.declared.attempts.Ended.{Ended}
use Rattle.rx_world.specs.declared.attempts.Plan.{Plan}
use Rattle.rx_world.specs.declared.outcomes.Outcome.{Outcome}
use Rattle.rx_world.specs.declared.remote_causes.RemoteCause.{RemoteCause}
use Rattle.rx_world.specs.Outcomes.{kept, listing}
use Rattle.rx_engine.specs.declared.attempts.Attempted.{Attempted}
use Rattle.rx_engine.specs.declared.attempts.Heard.{Heard}
use Rattle.rx_engine.specs.declared.attempts.Won.{Won}
use Rattle.rx_engine.specs.declared.transcripts.Passes.{Passes}
use Rattle.rx_engine.specs.declared.transcripts.Tally.{Tally}
use Rattle.rx_engine.specs.Attempts.{Attempts, HasAttempts, HasMade, IsMadeOf, first_done, first_of, first_won, in_order, kept_ends, kept_of, listed_local, listed_remote, outcome_of, tally_of, unless_cancelled, winner, won_by, won_remote}
use Rattle.rx_engine.specs.Journal.{files_of}
use Rattle.rx_engine.specs.Meanings.{Meanings}
use Rattle.rx_engine.specs.RacedAttempts.{HasRaced}
use Rattle.rx_engine.specs.Racing.{is_cancelled}
use Rattle.rx_engine.proofs.RaceLemmas.{first-won}
use Rattle.rx_engine.proofs.TurnLemmas.{in-turn}

-- ---- what was made

-- the tally has these ends and passes
tally-is : (tally : Tally) (kept : List Ended) (passes : Passes) → tally.ends ≡ kept → tally.passes ≡ passes → tally ≡ record { ends = kept; passes = passes }
tally-is tally kept passes e p = rw (sym e, sym p) refl

tally-made : (attempts : Attempts) (tally : Tally) → tally.ends ≡ kept_ends attempts → tally.passes ≡ attempts.passes → tally ≡ tally_of attempts
tally-made attempts tally e p = tally-is tally (kept_ends attempts) attempts.passes e p

module _ {P W B : Type 0} (m : Meanings P W B) (gathered : Gathered) (accepts : Bool) (before after : P) (here : Option (End Outcome Cause)) (there : Option (End Outcome RemoteCause)) (heard : Heard) (made : Attempted) (passes : Passes) where
  pub made-raced : HasRaced m gathered accepts before after here there passes → IsMadeOf gathered.plan passes here there heard made → HasMade m gathered accepts before after made
  made-raced h is =
      let attempts : Attempts = record { local = here; remote = there; told_local = h.told_local; told_remote = h.told_remote; passes = passes } in
      record {
        attempts = attempts;
        each = record {
          local = h.here;
          remote = h.there;
          raced = h.raced;
          in_turn = λ f free. in-turn gathered.plan here there h.told_local h.told_remote passes h.raced f free;
        };
        tally_is = tally-made attempts made.tally is.ends_are is.passes_are;
        won_is = is.won_is;
      }

-- ---- the outcome that is published

-- an outcome is published only where the race wasn't cancelled
else-some : (test : Bool) (made : Option Won) (won : Won) → (if test then None else made) ≡ Some won → made ≡ Some won
else-some true made won h = absurd (none-some h)
else-some false made won h = h

pub unless-some : (cancel : Slip) (made : Option Won) (won : Won) → unless_cancelled cancel made ≡ Some won → made ≡ Some won
unless-some cancel made won h = else-some (is_cancelled cancel) made won h

pub if-some : (test : Bool) (first won : Won) → (if test then Some first else None) ≡ Some won → first ≡ won
if-some true first won h = some-is h
if-some false first won h = absurd (none-some h)

remote-first : (plan : Plan) (remote : Option (End Outcome RemoteCause)) (won : Won) → won_remote plan remote ≡ Some won → first_done (listed_remote (kept_of remote)) ≡ Some (kept won.outcome)
remote-first plan None won h = absurd (none-some h)
remote-first plan (Some (ends.Failed cause)) won h = absurd (none-some h)
remote-first plan (Some (ends.Done outcome origin)) won h =
    ap (λ (x : Won). Some (kept x.outcome)) (if-some (is_zero outcome.exit.code || is_remote_only plan) (record { outcome = outcome; origin = origin }) won h)

first-local : (plan : Plan) (local : Option (End Outcome Cause)) (remote : Option (End Outcome RemoteCause)) (won : Won) → first_won (outcome_of local) (won_remote plan remote) ≡ Some won
    → first_done (listed_local (kept_of local) ++ listed_remote (kept_of remote)) ≡ Some (kept won.outcome)
first-local plan None remote won h = remote-first plan remote won h
first-local plan (Some (ends.Failed cause)) remote won h = remote-first plan remote won h
first-local plan (Some (ends.Done outcome origin)) remote won h = ap (λ (x : Won). Some (kept x.outcome)) (some-is h)

-- of two, the first is there
if-first : (test : Bool) (first won : Won) (other : Option Won) → ((if test then Some first else None) ≡ None → ⊥) → first_won (if test then Some first else None) other ≡ Some won → first ≡ won
if-first true first won other n h = some-is h
if-first false first won other n h = absurd (n refl)

first-remote : (plan : Plan) (local : Option (End Outcome Cause)) (remote : Option (End Outcome RemoteCause)) (won : Won) → (won_remote plan remote ≡ None → ⊥)
    → first_won (won_remote plan remote) (outcome_of local) ≡ Some won → first_done (listed_remote (kept_of remote) ++ listed_local (kept_of local)) ≡ Some (kept won.outcome)
first-remote plan local None won n h = absurd (n refl)
first-remote plan local (Some (ends.Failed cause)) won n h = absurd (n refl)
first-remote plan local (Some (ends.Done outcome origin)) won n h =
    ap (λ (x : Won). Some (kept x.outcome))
    (if-first (is_zero outcome.exit.code || is_remote_only plan) (record { outcome = outcome; origin = origin }) won (outcome_of local) n h)

first-by : (plan : Plan) (first : Attempt) (local : Option (End Outcome Cause)) (remote : Option (End Outcome RemoteCause)) (won : Won) → (first ≡ whose.Remote → won_remote plan remote ≡ None → ⊥)
    → won_by first (outcome_of local) (won_remote plan remote) ≡ Some won → first_done (in_order first (listed_local (kept_of local)) (listed_remote (kept_of remote))) ≡ Some (kept won.outcome)
first-by plan whose.Local local remote won n h = first-local plan local remote won h
first-by plan whose.Remote local remote won n h = first-remote plan local remote won (n refl) h

module _ {P W B : Type 0} (m : Meanings P W B) (gathered : Gathered) (accepts : Bool) (before after : P) (attempts : Attempts) (made : HasAttempts m gathered accepts before after attempts) where
  -- the first outcome among the ends is the one that is published
  pub won-first : (won : Won) → winner gathered.plan attempts ≡ Some won → first_done (kept_ends attempts) ≡ Some (kept won.outcome)
  won-first won h =
      first-by gathered.plan (first_of attempts) attempts.local attempts.remote won (first-won m gathered accepts before after attempts made)
      (unless-some attempts.passes.cancel (won_by (first_of attempts) (outcome_of attempts.local) (won_remote gathered.plan attempts.remote)) won h)

  -- and its files are those of the entry
  pub won-files : (won : Won) (tally : Tally) → winner gathered.plan attempts ≡ Some won → tally ≡ tally_of attempts → files_of tally.ends ≡ listing won.outcome.files
  won-files won tally h e = rw (e, won-first won h) refl
