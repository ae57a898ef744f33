-- One turn with a farm's client: what is asked of it, what is heard, and what holds between two turns.
use Rattle.std.specs.Prelude.{◌≡◌, ◌≢◌, ◌≤◌, ◌+◌, ◌-◌, ◌^◌, ℕ, false, length, min, List, None}
use Rattle.rx_base.specs.declared.digests.Digest.{Digest}
use Rattle.rx_world.specs.declared.call_faults.CallFault.{CallFault}
use Rattle.rx_world.specs.declared.commands.Command.{Command}
use Rattle.rx_world.specs.declared.outcomes.Outcome.{Outcome}
use Rattle.rx_world.specs.declared.world.World as world
use Rattle.rx_world.specs.Causes.{Rose}
use Rattle.rx_exec_messages.specs.declared.callers.Caller as callers
use Rattle.rx_exec_messages.specs.Calls.{IsNamedFor}
use Rattle.rx_exec_messages.specs.Exchanged.{HasExchanged}
use Rattle.rx_blobs.specs.declared.blob_fault.BlobFault.{BlobFault}
use Rattle.rx_blobs.specs.declared.blob_fault.BlobFault.TheVariants as blobs
use Rattle.rx_remote.specs.declared.asks.Ask.{Ask}
use Rattle.rx_remote.specs.declared.asks.Ask.TheVariants as asks
use Rattle.rx_remote.specs.declared.asks.Heard.{Heard}
use Rattle.rx_remote.specs.declared.asks.Heard.TheVariants.{Begun, Blobs, Cached, Fault, Fetched, Next, Over, Stopped, Told, Uploaded}
use Rattle.rx_remote.specs.declared.phases.Phase.TheVariants as phases
use Rattle.rx_remote.specs.declared.states.RemoteState.{RemoteState}
use Rattle.rx_remote.specs.declared.tasks.Task.{Task}
use Rattle.rx_remote.specs.Faults.{is_no_memory}
use Rattle.rx_remote.specs.Grown.{Grew, IsPart}
use Rattle.rx_remote.specs.History.{next_of}
use Rattle.rx_remote.specs.Honest.{IsHonestHeard, IsHonestHistory}
use Rattle.rx_remote.specs.Legal.{Fits, IsLegal}
use Rattle.rx_remote.specs.Marks.{Turn, faults_of, name_of, phase_of}
use Rattle.rx_remote.specs.States.{IsStateOf}

-- ---- which ask it is

-- neither the next operation nor a wait
abbrev pub IsOther : Ask → Type 0
IsOther asks.NextOperation = ⊥
IsOther (asks.Wait name) = ⊥
IsOther asks.Capabilities = Unit {0}
IsOther asks.GetResult = Unit {0}
IsOther (asks.Upload fresh) = Unit {0}
IsOther (asks.Execute skip_cache) = Unit {0}
IsOther (asks.Fetch digests) = Unit {0}
IsOther (asks.End end) = Unit {0}

-- not what the farm says of itself
abbrev pub IsLater : Ask → Type 0
IsLater asks.Capabilities = ⊥
IsLater asks.GetResult = Unit {0}
IsLater (asks.Upload fresh) = Unit {0}
IsLater (asks.Execute skip_cache) = Unit {0}
IsLater asks.NextOperation = Unit {0}
IsLater (asks.Wait name) = Unit {0}
IsLater (asks.Fetch digests) = Unit {0}
IsLater (asks.End end) = Unit {0}

-- ---- which action runs

-- what was heard leaves an operation that may be waited for
abbrev pub IsUnderWay : Heard → Type 0
IsUnderWay Begun = Unit {0}
IsUnderWay (Next operation) = operation.done ≡ None
IsUnderWay (Told capabilities) = ⊥
IsUnderWay (Cached result) = ⊥
IsUnderWay (Uploaded left_out) = ⊥
IsUnderWay (Fetched texts) = ⊥
IsUnderWay (Fault fault) = ⊥
IsUnderWay (Over code) = ⊥
IsUnderWay (Blobs fault) = ⊥
IsUnderWay (Stopped decision) = ⊥

-- the action that runs once an execution was begun, or is waited for
abbrev pub Starts : (List ℕ → Digest) → Digest → Digest → Ask → Type 0
Starts operation action running (asks.Execute skip_cache) = running ≡ action
Starts operation action running (asks.Wait name) = running ≡ operation name
Starts operation action running asks.Capabilities = Unit {0}
Starts operation action running asks.GetResult = Unit {0}
Starts operation action running (asks.Upload fresh) = Unit {0}
Starts operation action running asks.NextOperation = Unit {0}
Starts operation action running (asks.Fetch digests) = Unit {0}
Starts operation action running (asks.End end) = Unit {0}

-- the action that runs after what was heard
abbrev pub Runs : (List ℕ → Digest) → Digest → Digest → Digest → Ask → Heard → Type 0
Runs operation action old new ask Begun = Starts operation action new ask
Runs operation action old new ask (Next told) = new ≡ old
Runs operation action old new ask (Told capabilities) = Unit {0}
Runs operation action old new ask (Cached result) = Unit {0}
Runs operation action old new ask (Uploaded left_out) = Unit {0}
Runs operation action old new ask (Fetched texts) = Unit {0}
Runs operation action old new ask (Fault fault) = Unit {0}
Runs operation action old new ask (Over code) = Unit {0}
Runs operation action old new ask (Blobs fault) = Unit {0}
Runs operation action old new ask (Stopped decision) = Unit {0}

-- a name that was heard is one of the running action
abbrev pub Names : (List ℕ → Digest) → Digest → Heard → Type 0
Names operation running (Next told) = IsNamedFor operation running told.name
Names operation running Begun = Unit {0}
Names operation running (Told capabilities) = Unit {0}
Names operation running (Cached result) = Unit {0}
Names operation running (Uploaded left_out) = Unit {0}
Names operation running (Fetched texts) = Unit {0}
Names operation running (Fault fault) = Unit {0}
Names operation running (Over code) = Unit {0}
Names operation running (Blobs fault) = Unit {0}
Names operation running (Stopped decision) = Unit {0}

-- ---- how often the client failed

-- the count rose so often, or stands at its end
abbrev pub RoseBy : ℕ → ℕ → ℕ → Type 0
RoseBy times before now = min (before + times) (2 ^ 64 - 1) ≤ now

-- it rose for each fault that stands in the list of an attempt
abbrev pub IsListedFault : ℕ → ℕ → CallFault → Type 0
IsListedFault before now fault = is_no_memory fault ≡ false → Rose before now

abbrev pub IsBlobCount : ℕ → ℕ → BlobFault → Type 0
IsBlobCount before now (blobs.Call fault) = Rose before now
IsBlobCount before now (blobs.Missing digest) = Rose before now
IsBlobCount before now (blobs.Refused digest code) = Rose before now
IsBlobCount before now (blobs.BadBlob expected got) = Unit {0}
IsBlobCount before now (blobs.InputChanged input) = Unit {0}
IsBlobCount before now (blobs.SourceFault path) = Unit {0}
IsBlobCount before now blobs.NoMemory = Unit {0}

abbrev pub IsCountedHeard : ℕ → ℕ → Heard → Type 0
IsCountedHeard before now (Fault fault) = IsListedFault before now fault
IsCountedHeard before now (Over code) = Rose before now
IsCountedHeard before now (Blobs fault) = IsBlobCount before now fault
IsCountedHeard before now (Told capabilities) = Unit {0}
IsCountedHeard before now (Cached result) = Unit {0}
IsCountedHeard before now (Uploaded left_out) = Unit {0}
IsCountedHeard before now Begun = Unit {0}
IsCountedHeard before now (Next operation) = Unit {0}
IsCountedHeard before now (Fetched texts) = Unit {0}
IsCountedHeard before now (Stopped decision) = Unit {0}

-- ---- a turn

-- What was heard answers the ask. It is honest where the client is genuine and vouches for the outcome at the action that runs. The calls
-- are those of the ask, and the count rose where one failed.
pub record IsTurn {C W : Type 0} (w : world.Ghosts W) (c : callers.Ghosts C W) (action : Digest) (stored : List Digest) (ask : Ask) (old new : C)
    (heard : Heard) : Type 0 where
  pub fits : Fits stored ask heard
  pub honest : (command : Command) (outcome : Outcome) → c.genuine old → c.vouches old action command outcome →
      (ask ≡ asks.NextOperation → c.running old ≡ action) → IsHonestHeard w.blob command outcome ask heard
  pub names : c.genuine old → Names w.operation (c.running old) heard
  pub runs : Runs w.operation action (c.running old) (c.running new) ask heard
  pub streams : IsUnderWay heard → c.streaming new
  pub exchanged : HasExchanged c old new (IsPart action stored ask heard)
  pub counted : IsCountedHeard (c.faults old) (c.faults new) heard

-- ---- between two turns

-- Where the client is genuine and vouches for the outcome at the action: all that was heard is honest, the name belongs to the action,
-- and the action runs where the next operation is asked for.
pub record IsHonestSoFar (blob : Digest → List ℕ) (operation : List ℕ → Digest) (action : Digest) (command : Command) (outcome : Outcome)
    (running : Digest) (history : List Turn) (ask : Ask) : Type 0 where
  pub heard : IsHonestHistory blob command outcome history
  pub named : IsNamedFor operation action (name_of history)
  pub runs : ask ≡ asks.NextOperation → running ≡ action

-- the state and the ask are those of a legal history
pub record IsGoing (task : Task) (stored : List Digest) (history : List Turn) (state : RemoteState) (ask : Ask) (streaming : Type 0) : Type 0 where
  pub legal : IsLegal task stored history
  pub state_is : IsStateOf task history state
  pub ask_is : ask ≡ next_of task history
  pub streams : ask ≡ asks.NextOperation → streaming

-- An attempt that goes on with a client: what it asked and heard is this history, which is honest where the client was and vouched for
-- the outcome.
pub record IsRunning {C W : Type 0} (w : world.Ghosts W) (c : callers.Ghosts C W) (action : Digest) (stored : List Digest) (task : Task) (old now : C)
    (history : List Turn) (state : RemoteState) (ask : Ask) : Type 0 where
  pub going : IsGoing task stored history state ask (c.streaming now)
  pub on : phase_of ask ≢ phases.Ended
  pub honest : (outcome : Outcome) → c.genuine old → c.vouches old action task.command outcome →
      IsHonestSoFar w.blob w.operation action task.command outcome (c.running now) history ask
  pub exchanged : HasExchanged c old now (Grew action stored history)
  pub counted : RoseBy (length (faults_of history)) (c.faults old) (c.faults now)
