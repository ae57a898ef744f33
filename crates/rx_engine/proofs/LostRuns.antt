-- Which failures a calm session may tell.
use Rattle.std.proofs.Common.{◌≡◌, ◌≢◌, ◌≤◌, ℕ, Bool, true, false, List, [], ◌++◌, refl, ap, subst, sym, ◌∙◌, arith, length, inl, inr}
use Rattle.std.specs.List.{flat_map}
use Rattle.std.specs.Prelude.{All, None, Option, Some, if◌then◌else◌, is_some}
use Rattle.std.proofs.lemmas.Bool.{or_right}
use Rattle.std.proofs.lemmas.List.Elements.{All-head}
use Rattle.rx_core.proofs.Cases.{false-true, none-some, some-is}
use Rattle.rx_exec_messages.specs.declared.callers.Caller as callers
use Rattle.rx_scan.specs.declared.gathering.Gathered.{Gathered}
use Rattle.rx_scan.specs.Gathering.{plan_of}
use Rattle.rx_local.specs.Local.{IsStopped}
use Rattle.rx_race.specs.declared.slips.Slip.{Slip}
use Rattle.rx_race.specs.Publishing.{is_zero}
use Rattle.rx_remote.specs.Actions.{Work}
use Rattle.rx_remote.specs.Marks.{faults_of}
use Rattle.rx_remote.specs.Runs.{EndsOr, task_of}
use Rattle.rx_remote.specs.Turns.{RoseBy}
use Rattle.rx_remote.proofs.CallEnds.{call-faulted}
use Rattle.rx_session.specs.declared.requests.Request.{Request}
use Rattle.rx_world.specs.declared.attempts.Attempt.{Attempt}
use Rattle.rx_world.specs.declared.attempts.Attempt.TheVariants as whose
use Rattle.rx_world.specs.declared.attempts.Cause.{Cause}
use Rattle.rx_world.specs.declared.attempts.End.{End}
use Rattle.rx_world.specs.declared.attempts.End.TheVariants as ends
use Rattle.rx_world.specs.declared.attempts.Origin.{Origin}
use Rattle.rx_world.specs.declared.attempts.Plan.{Plan}
use Rattle.rx_world.specs.declared.attempts.Plan.TheVariants as plans
use Rattle.rx_world.specs.declared.call_faults.CallFault.{CallFault}
use Rattle.rx_world.specs.declared.commands.Strategy.{Strategy}
use Rattle.rx_world.specs.declared.commands.Strategy.TheVariants as strategies
use Rattle.rx_world.specs.declared.decisions.Decision.{Decision}
use Rattle.rx_world.specs.declared.outcomes.Outcome.{Outcome}
use Rattle.rx_world.specs.declared.refusals.LocalCause.{LocalCause}
use Rattle.rx_world.specs.declared.attempts.Ended.{Ended}
use Rattle.rx_world.specs.declared.attempts.Ended.TheVariants as ended
use Rattle.rx_world.specs.declared.remote_causes.RemoteCause.{RemoteCause}
use Rattle.rx_world.specs.declared.remote_causes.RemoteCause.TheVariants as remote_causes
use Rattle.rx_world.specs.declared.sources.SourceEntry.{SourceEntry}
use Rattle.rx_world.specs.Causes.{Rose}
use Rattle.rx_world.specs.Inputs.{IsAsListed}
use Rattle.rx_engine.specs.declared.attempts.Won.{Won}
use Rattle.rx_engine.specs.declared.transcripts.Tally.{Tally}
use Rattle.rx_engine.specs.Answers.{Grounds, HasGathered, HasLost, asked_of}
use Rattle.rx_engine.specs.Attempts.{AreTellable, HasLocal, HasRemote, IsTellable, failure_of, first_of, first_won, in_order, kept_of, listed_local, listed_remote, outcome_of, unless_cancelled, won_by, won_remote}
use Rattle.rx_engine.specs.Choices.{choice_of}
use Rattle.rx_engine.specs.Meanings.{Meanings}
use Rattle.rx_engine.specs.Plans.{has_both, has_local, has_remote}
use Rattle.rx_engine.specs.Quiet.{IsFarmCause, IsQuietThere, MayFail}
use Rattle.rx_engine.specs.Racing.{is_cancelled}
use Rattle.rx_engine.specs.RemoteAttempts.{EndsThere}
use Rattle.rx_engine.proofs.HonestRuns.{files-listed, right-there, told-by, trusted}
use Rattle.rx_engine.proofs.Calm.{IsCalm, not-failed-for}
use Rattle.rx_engine.proofs.RaceLemmas.{first-won, started-here, unstopped-here}

abbrev fails-for : RemoteCause → End Outcome RemoteCause
fails-for cause = ends.Failed cause

failed-inj : (a b : RemoteCause) → fails-for a ≡ fails-for b → a ≡ b
failed-inj a b h = cc

-- one fault or more is a count that rose
rose-once : (n before now : ℕ) → 1 ≤ n → RoseBy n before now → Rose before now
rose-once n before now one rose = omega arith

-- calls that failed are a count that rose
called : {C W : Type 0} {c : callers.Ghosts C W} {work : Work} {before after : C} (faults : List CallFault) → EndsOr c work before after (ends.Failed (remote_causes.CallFailed faults)) → Rose (c.faults before) (c.faults after)
called faults (inl memory) = absurd (cc (failed-inj (remote_causes.CallFailed faults) remote_causes.NoMemory memory))
called {c = c} {work = work} {before = before} {after = after} faults (inr h) =
    rose-once (length (faults_of h.history)) (c.faults before) (c.faults after) (call-faulted (task_of work) h.history faults h.leaves) h.counted

-- ---- plans

-- by the strategy remote there is the remote attempt alone, and by each other one a local attempt too
abbrev IsPlanOf : Strategy → Plan → Type 0
IsPlanOf strategies.Remote plan = plan ≡ plans.RemoteOnly
IsPlanOf strategies.Local plan = has_local plan ≡ true
IsPlanOf strategies.RemoteLocalFallback plan = has_local plan ≡ true
IsPlanOf strategies.Racing plan = has_local plan ≡ true

plan-by : (strategy : Strategy) (in_place : Bool) (cause : Option LocalCause) (plan : Plan) → plan_of (record { strategy = strategy; in_place = in_place }) cause ≡ Some plan
    → IsPlanOf strategy plan
plan-by strategies.Remote in_place None plan h = sym (some-is h)
plan-by strategies.Local in_place None plan h = ap has_local (sym (some-is h))
plan-by strategies.RemoteLocalFallback in_place None plan h = ap has_local (sym (some-is h))
plan-by strategies.Racing in_place None plan h = ap has_local (sym (some-is h))
plan-by strategies.Remote false (Some cause) plan h = absurd (none-some h)
plan-by strategies.Local false (Some cause) plan h = ap has_local (sym (some-is h))
plan-by strategies.RemoteLocalFallback false (Some cause) plan h = ap has_local (sym (some-is h))
plan-by strategies.Racing false (Some cause) plan h = ap has_local (sym (some-is h))
plan-by strategy true (Some cause) plan h = absurd (none-some h)

-- nothing is published of a race that wasn't cancelled only where nothing won
unless-none : (cancel : Slip) (made : Option Won) → is_cancelled cancel ≡ false → unless_cancelled cancel made ≡ None → made ≡ None
unless-none cancel made free h = rw free at h

-- of two, neither won
neither-won : (one other : Option Won) → first_won one other ≡ None → (one ≡ None) × (other ≡ None)
neither-won None other h = (refl, h)
neither-won (Some won) other h = absurd (none-some (sym h))

both-none : (first : Attempt) (here there : Option Won) → won_by first here there ≡ None → (here ≡ None) × (there ≡ None)
both-none whose.Local here there h = neither-won here there h
both-none whose.Remote here there h = let both = neither-won there here h in (both.1, both.0)

-- a remote outcome alone is published
published-alone : (outcome : Outcome) (origin : Origin) → won_remote plans.RemoteOnly (Some (ends.Done outcome origin)) ≡ None → ⊥
published-alone outcome origin h =
    none-some (sym h ∙ ap (λ test. if test then Some (record { outcome = outcome; origin = origin }) else None)
    (or_right (is_zero outcome.exit.code) true refl))

module _ {P W B : Type 0} (m : Meanings P W B) (entries : List SourceEntry) (g : Grounds P) (asked : Request) (c : IsCalm m entries g asked) where
  not-lost-here : (gathered : Gathered) (told : Option Decision) (local : Option (End Outcome Cause)) (rest : List Ended) → HasGathered m g asked gathered → HasLocal m gathered told g.before g.after local
      → (local ≡ None → ⊥) → ((why : Cause) → local ≡ Some (ends.Failed why) → IsStopped why → ⊥) → outcome_of local ≡ None → AreTellable (listed_local (kept_of local) ++ rest) → ⊥
  not-lost-here gathered told None rest inputs h started unstopped none tellable = started refl
  not-lost-here gathered told (Some (ends.Done outcome origin)) rest inputs h started unstopped none tellable = none-some (sym none)
  not-lost-here gathered told (Some (ends.Failed why)) rest inputs h started unstopped none tellable =
      not-failed-for m entries g asked c gathered told why inputs h (unstopped why refl) (All-head IsTellable (ended.Local (ends.Failed why)) rest tellable)

  -- of two attempts, one that isn't the remote one is the local one
  is-local : (first : Attempt) → (first ≡ whose.Remote → ⊥) → first ≡ whose.Local
  is-local whose.Local n = refl
  is-local whose.Remote n = absurd (n refl)

  -- the local end stands first where the remote one doesn't come first
  local-first : (first : Attempt) (here there : List Ended) → (first ≡ whose.Remote → ⊥) → AreTellable (in_order first here there) → AreTellable (here ++ there)
  local-first whose.Local here there n tellable = tellable
  local-first whose.Remote here there n tellable = absurd (n refl)

  -- with a local attempt there is an outcome, whatever the farm does
  not-lost : (tally : Tally) → (h : HasLost m g asked tally) → has_local h.run.gathered.plan ≡ true → ⊥
  not-lost tally h has =
      let run = h.run in
      let attempts = run.attempts in
      let free : is_cancelled attempts.passes.cancel ≡ false = ap (λ (x : Tally). is_cancelled x.passes.cancel) (sym run.tally_is) ∙ h.uncancelled in
      let here_won : Option Won = outcome_of attempts.local in
      let there_won : Option Won = won_remote run.gathered.plan attempts.remote in
      let none = both-none (first_of attempts) here_won there_won
      (unless-none attempts.passes.cancel (won_by (first_of attempts) here_won there_won) free h.none_won) in
      not-lost-here run.gathered attempts.told_local attempts.local (listed_remote (kept_of attempts.remote)) run.inputs run.made.local
      (started-here m run.gathered asked.accept_cached g.before g.after attempts run.made free has none.1)
      (unstopped-here m run.gathered asked.accept_cached g.before g.after attempts run.made free has none.1)
      none.0
      (local-first (first_of attempts) (listed_local (kept_of attempts.local)) (listed_remote (kept_of attempts.remote))
      (λ f. first-won m run.gathered asked.accept_cached g.before g.after attempts run.made f none.1)
      (rw run.tally_is at h.tellable))

  -- ---- the remote attempt alone

  module _ (q : IsQuietThere m g.before g.after entries (asked_of asked)) (gathered : Gathered) (inputs : HasGathered m g asked gathered) (has : has_remote gathered.plan ≡ true) where
    -- it fails for a cause that is the farm's own
    farm-cause : (why : RemoteCause) → EndsThere m.world m.farm m.tree_remote gathered asked.accept_cached None g.before g.after g.before g.after (ends.Failed why) → why ≢ remote_causes.NoMemory → IsFarmCause why
    farm-cause why (inl h) n = absurd (n (failed-inj why remote_causes.NoMemory h.0))
    farm-cause remote_causes.NoMemory (inr h) n = absurd (n refl)
    farm-cause (remote_causes.WrongVersion low high) (inr h) n = tt
    farm-cause remote_causes.OperationsSpent (inr h) n = tt
    farm-cause (remote_causes.Stopped decision) (inr h) n = absurd (none-some h.own.is_such.1)
    farm-cause (remote_causes.SourceFault path) (inr h) n = absurd (q.tree h.own.is_such.rose)
    farm-cause (remote_causes.InputChanged input) (inr h) n =
        absurd (told-by (λ entries. All (IsAsListed entries) gathered.files → ⊥) (m.tree_remote.listed g.before) entries q.listed (h.unchanged q.kept_list)
        (files-listed m entries g asked gathered c.by_list c.stamps_hold inputs))
    farm-cause (remote_causes.CallFailed faults) (inr h) n = absurd (q.calls (called faults h.ended))
    farm-cause (remote_causes.BadBlob expected got) (inr h) n =
        absurd ((right-there m entries g gathered asked.accept_cached None (ends.Failed (remote_causes.BadBlob expected got)) (files-listed m entries g asked gathered c.by_list c.stamps_hold inputs)
        (trusted m entries g asked c.by_list q.farm gathered inputs has) h).fine)
    farm-cause (remote_causes.BadResult fault) (inr h) n =
        absurd ((right-there m entries g gathered asked.accept_cached None (ends.Failed (remote_causes.BadResult fault)) (files-listed m entries g asked gathered c.by_list c.stamps_hold inputs)
        (trusted m entries g asked c.by_list q.farm gathered inputs has) h).fine)

  -- the failures that are told of a remote attempt that was alone
  fails-alone : (gathered : Gathered) (local : Option (End Outcome Cause)) (remote : Option (End Outcome RemoteCause)) → HasGathered m g asked gathered
      → IsQuietThere m g.before g.after entries (asked_of asked) → gathered.plan ≡ plans.RemoteOnly
      → HasRemote m gathered asked.accept_cached None g.before g.after remote → is_some local ≡ false → is_some remote ≡ true
      → won_remote plans.RemoteOnly remote ≡ None → AreTellable (listed_local (kept_of local) ++ listed_remote (kept_of remote))
      → MayFail strategies.Remote (flat_map failure_of (listed_local (kept_of local) ++ listed_remote (kept_of remote)))
  fails-alone gathered (Some end) remote inputs q plan h here there none tellable = absurd (false-true (sym here))
  fails-alone gathered None None inputs q plan h here there none tellable = absurd (false-true there)
  fails-alone gathered None (Some (ends.Done outcome origin)) inputs q plan h here there none tellable = absurd (published-alone outcome origin none)
  fails-alone gathered None (Some (ends.Failed why)) inputs q plan h here there none tellable = (
    why,
    farm-cause q gathered inputs (ap has_remote plan) why h (All-head IsTellable (ended.Remote (ends.Failed why)) [] tellable),
    refl,
  )

  fails-there : (tally : Tally) → (h : HasLost m g asked tally) → IsQuietThere m g.before g.after entries (asked_of asked) → h.run.gathered.plan ≡ plans.RemoteOnly
      → MayFail strategies.Remote (flat_map failure_of tally.ends)
  fails-there tally h q plan =
      let run = h.run in
      let attempts = run.attempts in
      let free : is_cancelled attempts.passes.cancel ≡ false = ap (λ (x : Tally). is_cancelled x.passes.cancel) (sym run.tally_is) ∙ h.uncancelled in
      let here_won : Option Won = outcome_of attempts.local in
      let there_won : Option Won = won_remote run.gathered.plan attempts.remote in
      let none = both-none (first_of attempts) here_won there_won
      (unless-none attempts.passes.cancel (won_by (first_of attempts) here_won there_won) free h.none_won) in
      let turn = run.made.in_turn (ap has_both plan) free in
      let here : List Ended = listed_local (kept_of attempts.local) in
      let there : List Ended = listed_remote (kept_of attempts.remote) in
      let first : first_of attempts ≡ whose.Local = is-local (first_of attempts) (λ f. first-won m run.gathered asked.accept_cached g.before g.after attempts run.made f none.1) in
      let ordered : tally.ends ≡ here ++ there = ap (λ (x : Tally). x.ends) run.tally_is ∙ ap (λ x. in_order x here there) first in
      subst (λ x. MayFail strategies.Remote (flat_map failure_of x)) (sym ordered)
      (fails-alone run.gathered attempts.local attempts.remote run.inputs q plan
      (subst (λ x. HasRemote m run.gathered asked.accept_cached x g.before g.after attempts.remote) turn.told_remote_is run.made.remote)
      (rw plan at turn.started_here) (rw plan at turn.started_there) (rw plan at none.1) (subst AreTellable ordered h.tellable))

  -- what a quiet session tells of its failures, by its strategy
  fails-by : (strategy : Strategy) (tally : Tally) → asked.strategy ≡ strategy → (h : HasLost m g asked tally) → IsPlanOf strategy h.run.gathered.plan → MayFail strategy (flat_map failure_of tally.ends)
  fails-by strategies.Remote tally e h plan = fails-there tally h (c.there e) plan
  fails-by strategies.Local tally e h plan = not-lost tally h plan
  fails-by strategies.RemoteLocalFallback tally e h plan = not-lost tally h plan
  fails-by strategies.Racing tally e h plan = not-lost tally h plan

  pub fails : (tally : Tally) → HasLost m g asked tally → MayFail asked.strategy (flat_map failure_of tally.ends)
  fails tally h =
      let planned = h.run.inputs.orderly.planned in
      fails-by asked.strategy tally refl h (plan-by asked.strategy (choice_of asked).in_place planned.0 h.run.gathered.plan planned.2)
