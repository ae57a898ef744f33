-- The ends of the attempts of a session, as the core may have them: what the remote one heard, and that its race's decision stopped one.
use Rattle.std.proofs.Common.{◌≡◌, ℕ, Bool, List, [], ◌∷◌, Option, None, Some, ap, refl, subst, sym, ◌∙◌}
use Rattle.std.specs.Prelude.{Err, IfOk, IfSome}
use Rattle.std.proofs.Common.{inl, inr}
use Rattle.rx_base.specs.declared.digests.Digest.{Digest}
use Rattle.rx_core.specs.Attempts.{MayEnd, Stops, local_stop, remote_stop}
use Rattle.rx_core.specs.FarmHistories.{farm_rules}
use Rattle.rx_core.specs.Remote.{Job}
use Rattle.rx_core.specs.ToldRaces.{LeavesEnd, LeavesOpen}
use Rattle.rx_engine.specs.Attempts.{result_of}
use Rattle.rx_engine.specs.RemoteAttempts.{EndsThere, HasRunThere, work_on}
use Rattle.rx_exec_messages.specs.declared.callers.Caller as callers
use Rattle.rx_local.specs.Local.{HasTold}
use Rattle.rx_remote.specs.declared.asks.Ask.{Ask}
use Rattle.rx_remote.specs.declared.asks.Ask.TheVariants.{Capabilities, End as Ends, Execute, Fetch, GetResult, NextOperation, Upload, Wait}
use Rattle.rx_remote.specs.declared.asks.Heard.{Heard}
use Rattle.rx_remote.specs.declared.asks.Heard.TheVariants.{Begun, Blobs, Cached, Fault, Fetched, Next, Over, Stopped, Told, Uploaded}
use Rattle.rx_remote.specs.declared.marks.Marks.{Marks}
use Rattle.rx_remote.specs.declared.phases.Phase.{Phase}
use Rattle.rx_remote.specs.declared.tasks.Task.{Task}
use Rattle.rx_remote.specs.Actions.{Work}
use Rattle.rx_remote.specs.Ends.{StopTellsEnd, end_in, stop_heard}
use Rattle.rx_remote.specs.History.{after, after_fault, next_of}
use Rattle.rx_remote.specs.Legal.{Fits, IsLegal}
use Rattle.rx_remote.specs.Marks.{Turn, marks_of, phase_of}
use Rattle.rx_remote.specs.Runs.{EndsBy, EndsOr, task_of}
use Rattle.rx_scan.specs.declared.gathering.Gathered.{Gathered}
use Rattle.rx_world.specs.declared.attempts.Cause.{Cause}
use Rattle.rx_world.specs.declared.attempts.Cause.TheVariants as causes
use Rattle.rx_world.specs.declared.attempts.End.{End}
use Rattle.rx_world.specs.declared.attempts.End.TheVariants.{Done, Failed}
use Rattle.rx_world.specs.declared.call_faults.CallFault.TheVariants.{NoMemory as no_memory}
use Rattle.rx_world.specs.declared.commands.Command.{Command}
use Rattle.rx_world.specs.declared.decisions.Decision.{Decision}
use Rattle.rx_world.specs.declared.outcomes.Outcome.{Outcome}
use Rattle.rx_world.specs.declared.remote_causes.RemoteCause.{RemoteCause}
use Rattle.rx_world.specs.declared.remote_causes.RemoteCause.TheVariants as remote_causes
use Rattle.rx_world.specs.declared.sources.Sources as sources
use Rattle.rx_world.specs.declared.trees.Tree.{Tree}
use Rattle.rx_world.specs.declared.world.World as world
use Rattle.rx_world.specs.Outcomes.{IsProper}

-- ---- what a history leaves

-- what answers an ask isn't heard at an end
ends-unheard : (blobs : List Digest) (end : End Outcome RemoteCause) (heard : Heard) → Fits blobs (Ends end) heard → ⊥
ends-unheard blobs end (Told capabilities) fits = cc
ends-unheard blobs end (Cached result) fits = cc
ends-unheard blobs end (Uploaded left_out) (_, inl e) = cc
ends-unheard blobs end (Uploaded left_out) (_, inr e) = let never = e.0 in cc
ends-unheard blobs end Begun fits = fits
ends-unheard blobs end (Next operation) fits = cc
ends-unheard blobs end (Fetched texts) fits = cc
ends-unheard blobs end (Fault fault) fits = fits
ends-unheard blobs end (Over code) fits = cc
ends-unheard blobs end (Blobs fault) fits = fits
ends-unheard blobs end (Stopped decision) fits = fits refl

asked-open : (blobs : List Digest) (ask : Ask) (heard : Heard) → Fits blobs ask heard → end_in ask ≡ None
asked-open blobs (Ends end) heard fits = absurd (ends-unheard blobs end heard fits)
asked-open blobs Capabilities heard fits = refl
asked-open blobs GetResult heard fits = refl
asked-open blobs (Upload fresh) heard fits = refl
asked-open blobs (Execute skip_cache) heard fits = refl
asked-open blobs NextOperation heard fits = refl
asked-open blobs (Wait name) heard fits = refl
asked-open blobs (Fetch digests) heard fits = refl

-- the decision that ended a remote attempt
abbrev stop_of : End Outcome RemoteCause → Option Decision
stop_of (Done outcome origin) = None
stop_of (Failed cause) = remote_stop cause

abbrev stop_left : Option (End Outcome RemoteCause) → Option Decision
stop_left None = None
stop_left (Some end) = stop_of end

-- a stop is heard only where it ends the attempt
unstopped : (task : Task) (marks : Marks) (phase : Phase) (heard : Heard) → stop_left (end_in (after task marks phase heard)) ≡ None
    → stop_heard heard ≡ None
unstopped task marks phase (Stopped decision) e = let never : Some decision ≡ None = e in cc
unstopped task marks phase (Told capabilities) e = refl
unstopped task marks phase (Cached result) e = refl
unstopped task marks phase (Uploaded left_out) e = refl
unstopped task marks phase Begun e = refl
unstopped task marks phase (Next operation) e = refl
unstopped task marks phase (Fetched texts) e = refl
unstopped task marks phase (Fault fault) e = refl
unstopped task marks phase (Over code) e = refl
unstopped task marks phase (Blobs fault) e = refl

pub if-none : (found : Option Decision) (P : Decision → Type 0) → found ≡ None → IfSome found P
if-none found P e = rw e tt

module _ (blob : Digest → List ℕ) (tool : Command → Tree → Outcome) (job : Job) where
  abbrev task : Task
  task = record { command = job.command; accept_cached = job.accept_cached }

  left-open : (made : Decision) (history : List Turn) → IsLegal task job.blobs history → end_in (next_of task history) ≡ None
      → LeavesOpen (farm_rules blob tool) job made history
  left-open made [] legal e = tt
  left-open made (turn ∷ earlier) legal e = (
    record { asked = legal.0; answers = legal.1 },
    if-none (stop_heard turn.heard) (Stops made)
        (unstopped task (marks_of task.command (turn ∷ earlier)) (phase_of turn.ask) turn.heard (ap stop_left e)),
    e,
    left-open made earlier legal.2 (subst (λ ask. end_in ask ≡ None) legal.0 (asked-open job.blobs turn.ask turn.heard legal.1)),
  )

  -- a legal history leaves its end, which is no stop
  left-end : (made : Decision) (history : List Turn) (end : End Outcome RemoteCause) → IsLegal task job.blobs history
      → next_of task history ≡ Ends end → stop_of end ≡ None → LeavesEnd (farm_rules blob tool) job made end history
  left-end made [] end legal leaves stop = let never : Capabilities ≡ Ends end = leaves in cc
  left-end made (turn ∷ earlier) end legal leaves stop = (
    record { asked = legal.0; answers = legal.1 },
    if-none (stop_heard turn.heard) (Stops made)
        (unstopped task (marks_of task.command (turn ∷ earlier)) (phase_of turn.ask) turn.heard (ap (λ ask. stop_left (end_in ask)) leaves ∙ stop)),
    ap end_in leaves,
    left-open made earlier legal.2 (subst (λ ask. end_in ask ≡ None) legal.0 (asked-open job.blobs turn.ask turn.heard legal.1)),
  )

  -- an attempt that hears of a decision at once
  stopped-at-once : (made decision : Decision) → Stops made decision
      → LeavesEnd (farm_rules blob tool) job made (Failed (remote_causes.Stopped decision)) (record { ask = Capabilities; heard = Stopped decision } ∷ [])
  stopped-at-once made decision stops = (record { asked = refl; answers = λ h. cc }, stops, refl, tt)

  -- and one for which there is no memory
  starved-at-once : (made : Decision)
      → LeavesEnd (farm_rules blob tool) job made (Failed remote_causes.NoMemory) (record { ask = Capabilities; heard = Fault no_memory } ∷ [])
  unfolding after_fault
  starved-at-once made = (record { asked = refl; answers = tt }, tt, refl, tt)

-- ---- stops

stopped-cause : (cause : RemoteCause) (decision : Decision) → remote_stop cause ≡ Some decision → cause ≡ remote_causes.Stopped decision
stopped-cause (remote_causes.Stopped made) decision e = let same : made ≡ decision = cc in ap remote_causes.Stopped same
stopped-cause (remote_causes.CallFailed faults) decision e = cc
stopped-cause (remote_causes.BadBlob expected got) decision e = cc
stopped-cause (remote_causes.BadResult fault) decision e = cc
stopped-cause remote_causes.OperationsSpent decision e = cc
stopped-cause (remote_causes.InputChanged input) decision e = cc
stopped-cause (remote_causes.WrongVersion low high) decision e = cc
stopped-cause (remote_causes.SourceFault path) decision e = cc
stopped-cause remote_causes.NoMemory decision e = cc

stopped-end : (end : End Outcome RemoteCause) (decision : Decision) → stop_of end ≡ Some decision → end ≡ Failed (remote_causes.Stopped decision)
stopped-end (Done outcome origin) decision e = cc
stopped-end (Failed cause) decision e = ap Failed (stopped-cause cause decision e)

-- ---- local ends

local-cause : (command : Command) (made : Decision) (told : Option Decision) (cause : Cause) → HasTold None told (Err cause) → IfSome told (Stops made)
    → MayEnd local_stop command made (Failed cause)
local-cause command made told (causes.Stopped decision) is stops = subst (λ found. IfSome found (Stops made)) is.1 stops
local-cause command made told (causes.BenchFault step) is stops = tt
local-cause command made told (causes.OutputMissing path) is stops = tt
local-cause command made told (causes.InputChanged input) is stops = tt
local-cause command made told (causes.OutputTooLarge limit n) is stops = tt
local-cause command made told (causes.SourceFault path) is stops = tt
local-cause command made told causes.NoMemory is stops = tt

-- a local attempt may end so in the core
pub local-may-end : (command : Command) (made : Decision) (told : Option Decision) (end : End Outcome Cause) → IfOk (result_of end) (IsProper command)
    → HasTold None told (result_of end) → IfSome told (Stops made) → MayEnd local_stop command made end
local-may-end command made told (Done outcome origin) proper is stops = proper
local-may-end command made told (Failed cause) proper is stops = local-cause command made told cause is stops

-- ---- remote ends

-- what a remote attempt of a job heard, where these are the digests of its blobs
pub record Hears (blob : Digest → List ℕ) (tool : Command → Tree → Outcome) (job_of : List Digest → Job) (made : Decision)
    (end : End Outcome RemoteCause) : Type 0 where
  pub blobs : List Digest
  pub heard : List Turn
  pub leaves : LeavesEnd (farm_rules blob tool) (job_of blobs) made end heard

module _ {C T W : Type 0} (w : world.Ghosts W) (c : callers.Ghosts C W) (s : sources.Ghosts T W) (gathered : Gathered) (accepts : Bool) (tree : Tree)
    (made : Decision) (told : Option Decision) (stops : IfSome told (Stops made)) (farm_before farm_after : C) (before after : T) where
  abbrev job_with : List Digest → Job
  job_with blobs = record { command = gathered.command; tree = tree; accept_cached = accepts; blobs = blobs }

  abbrev Here : End Outcome RemoteCause → Type 0
  Here end = Hears w.blob w.tool job_with made end

  starved : (end : End Outcome RemoteCause) → end ≡ Failed remote_causes.NoMemory → Here end
  starved end is = subst Here (sym is) (record {
    blobs = [];
    heard = record { ask = Capabilities; heard = Fault no_memory } ∷ [];
    leaves = starved-at-once w.blob w.tool (job_with []) made;
  })

  by-history : (work : Work) (end : End Outcome RemoteCause) → task_of work ≡ record { command = gathered.command; accept_cached = accepts }
      → EndsBy c work farm_before farm_after end → stop_of end ≡ None → Here end
  by-history work end same by none = record {
    blobs = by.stored;
    heard = by.history;
    leaves = left-end w.blob w.tool (job_with by.stored) made by.history end
        (subst (λ task. IsLegal task by.stored by.history) same by.legal)
        (subst (λ task. next_of task by.history ≡ Ends end) same by.leaves) none;
  }

  by-run : (end : End Outcome RemoteCause) (run : HasRunThere w c s gathered accepts told farm_before farm_after before after end)
      → EndsOr c (work_on gathered accepts run.root run.directories) farm_before farm_after end → stop_of end ≡ None → Here end
  by-run end run (inl e) none = starved end e
  by-run end run (inr by) none = by-history (work_on gathered accepts run.root run.directories) end refl by none

  unstopped-hears : (end : End Outcome RemoteCause) → EndsThere w c s gathered accepts told farm_before farm_after before after end
      → stop_of end ≡ None → Here end
  unstopped-hears end (inl idle) none = starved end idle.0
  unstopped-hears end (inr run) none = by-run end run run.ended none

  was-told-of : (end : End Outcome RemoteCause) (decision : Decision) → EndsThere w c s gathered accepts told farm_before farm_after before after end
      → end ≡ Failed (remote_causes.Stopped decision) → told ≡ Some decision
  was-told-of end decision (inl idle) is = let never = sym idle.0 ∙ is in cc
  was-told-of end decision (inr run) is =
      let tells : StopTellsEnd None told (Failed (remote_causes.Stopped decision)) = subst (StopTellsEnd None told) is run.stopped in tells.1

  stopped-hears : (end : End Outcome RemoteCause) (decision : Decision) → EndsThere w c s gathered accepts told farm_before farm_after before after end
      → end ≡ Failed (remote_causes.Stopped decision) → Here end
  stopped-hears end decision there is =
      let stop : Stops made decision = subst (λ found. IfSome found (Stops made)) (was-told-of end decision there is) stops in
      subst Here (sym is) (record {
        blobs = [];
        heard = record { ask = Capabilities; heard = Stopped decision } ∷ [];
        leaves = stopped-at-once w.blob w.tool (job_with []) made decision stop;
      })

  hears-by : (end : End Outcome RemoteCause) (stop : Option Decision) → stop_of end ≡ stop
      → EndsThere w c s gathered accepts told farm_before farm_after before after end → Here end
  hears-by end None is there = unstopped-hears end there is
  hears-by end (Some decision) is there = stopped-hears end decision there (stopped-end end decision is)

  -- what a remote attempt may have heard in the core, that ended so
  pub hears : (end : End Outcome RemoteCause) → EndsThere w c s gathered accepts told farm_before farm_after before after end
      → Here end
  hears end there = hears-by end (stop_of end) refl there
