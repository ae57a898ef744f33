-- A whole remote attempt with a farm's client.
use Rattle.std.specs.Prelude.{◌≡◌, ◌⊎◌, ◌≤◌, ◌<◌, length, List, [], ◌∷◌, Option, None, Some}
use Rattle.rx_base.specs.SortedPaths.{AreSorted, HasSameMembers}
use Rattle.rx_base.specs.declared.digests.Digest.{Digest}
use Rattle.rx_world.specs.declared.attempts.End.{End}
use Rattle.rx_world.specs.declared.attempts.End.TheVariants as ends
use Rattle.rx_world.specs.declared.attempts.Origin.{Origin}
use Rattle.rx_world.specs.declared.commands.Command.{Command}
use Rattle.rx_world.specs.declared.input_files.InputFile.{InputFile}
use Rattle.rx_world.specs.declared.outcomes.Outcome.{Outcome}
use Rattle.rx_world.specs.declared.remote_causes.RemoteCause.{RemoteCause}
use Rattle.rx_world.specs.declared.remote_causes.RemoteCause.TheVariants as causes
use Rattle.rx_world.specs.declared.sources.Sources as sources
use Rattle.rx_world.specs.declared.trees.Tree.{Tree}
use Rattle.rx_world.specs.declared.versions.Dialect.{Dialect}
use Rattle.rx_world.specs.declared.versions.Dialect.TheVariants.{New}
use Rattle.rx_world.specs.declared.world.World as world
use Rattle.rx_world.specs.Outcomes.{IsClean}
use Rattle.rx_exec_messages.specs.declared.answers.Capabilities.{Capabilities}
use Rattle.rx_exec_messages.specs.declared.callers.Caller as callers
use Rattle.rx_exec_messages.specs.Dialects.{dialect_of}
use Rattle.rx_exec_messages.specs.Exchanged.{HasExchanged}
use Rattle.rx_blobs.specs.Uploads.{digests_of_blobs}
use Rattle.rx_tree.specs.Blobs.{HasNoRepeats}
use Rattle.rx_action.specs.declared.action_keys.ActionKey.{ActionKey}
use Rattle.rx_action.specs.ActionKeys.{key_of}
use Rattle.rx_remote.specs.declared.asks.Ask.TheVariants.{Capabilities as AskOfFarm, End as Ends}
use Rattle.rx_remote.specs.declared.asks.Heard.{Heard}
use Rattle.rx_remote.specs.declared.asks.Heard.TheVariants.{Begun as HasBegunNow, Blobs, Cached, Fault, Fetched, Next, Over, Stopped, Told, Uploaded}
use Rattle.rx_remote.specs.declared.begins.Begun.{Begun}
use Rattle.rx_remote.specs.declared.begins.FirstTurn.{FirstTurn}
use Rattle.rx_remote.specs.declared.jobs.RemoteJob.{RemoteJob}
use Rattle.rx_remote.specs.declared.phases.Phase.TheVariants as phases
use Rattle.rx_remote.specs.declared.states.RemoteState.{RemoteState}
use Rattle.rx_remote.specs.declared.tasks.Task.{Task}
use Rattle.rx_remote.specs.declared.turns.Going.{Going}
use Rattle.rx_remote.specs.Actions.{Work, all_blobs}
use Rattle.rx_remote.specs.Ends.{ListsFault}
use Rattle.rx_remote.specs.Fine.{IsEndOf, IsFineCause, IsSoundOutcome}
use Rattle.rx_remote.specs.Grown.{Grew}
use Rattle.rx_remote.specs.History.{next_of}
use Rattle.rx_remote.specs.Honest.{IsHonestHistory}
use Rattle.rx_remote.specs.Legal.{IsLegal}
use Rattle.rx_remote.specs.Marks.{Turn, faults_of, phase_of}
use Rattle.rx_remote.specs.Measure.{turns_left}
use Rattle.rx_remote.specs.Reading.{HasRead}
use Rattle.rx_remote.specs.Turns.{IsLater, IsRunning, RoseBy}

-- ---- the action

abbrev pub work_of : RemoteJob → Work
work_of job = record {
  command = job.command.now;
  accept_cached = job.accept_cached;
  root = job.tree.now.root;
  directories = job.tree.now.blobs;
  files = job.files.now;
}

abbrev pub task_of : Work → Task
task_of work = record { command = work.command; accept_cached = work.accept_cached }

-- the dialect that was told last; before a farm told versions, that of one that tells none
abbrev pub dialect_after : Dialect → Heard → Dialect
dialect_after dialect (Told capabilities) = dialect_of capabilities.low capabilities.high
dialect_after dialect (Cached result) = dialect
dialect_after dialect (Uploaded left_out) = dialect
dialect_after dialect HasBegunNow = dialect
dialect_after dialect (Next operation) = dialect
dialect_after dialect (Fetched texts) = dialect
dialect_after dialect (Fault fault) = dialect
dialect_after dialect (Over code) = dialect
dialect_after dialect (Blobs fault) = dialect
dialect_after dialect (Stopped decision) = dialect

abbrev pub dialect_told : List Turn → Dialect
dialect_told [] = New
dialect_told (turn ∷ earlier) = dialect_after (dialect_told earlier) turn.heard

-- the key of the action under a dialect
abbrev pub key_under : Work → Dialect → ActionKey
key_under work dialect = key_of work.command work.root dialect

-- the digests of its blobs
abbrev pub blobs_under : Work → Dialect → List Digest
blobs_under work dialect = digests_of_blobs (all_blobs (key_under work dialect) work)

-- ---- how an attempt ends

-- The history is legal and left this end. The client's calls are its calls. It is honest where the client was and vouched for the outcome
-- at the action.
pub record IsEnded {C W : Type 0} (w : world.Ghosts W) (c : callers.Ghosts C W) (action : Digest) (stored : List Digest) (task : Task) (old now : C)
    (history : List Turn) (end : End Outcome RemoteCause) : Type 0 where
  pub legal : IsLegal task stored history
  pub leaves : next_of task history ≡ Ends end
  pub honest : (outcome : Outcome) → c.genuine old → c.vouches old action task.command outcome → IsHonestHistory w.blob task.command outcome history
  pub exchanged : HasExchanged c old now (Grew action stored history)
  pub counted : RoseBy (length (faults_of history)) (c.faults old) (c.faults now)

-- The end is the one that a legal history leaves, by which the client's conversation grew, with the action under the dialect that this
-- history heard and the blobs of that action, each digest once. The count rose by its faults at least, which are four at most.
pub record EndsBy {C W : Type 0} (c : callers.Ghosts C W) (work : Work) (old new : C) (end : End Outcome RemoteCause) : Type 0 where
  pub history : List Turn
  pub stored : List Digest
  pub of_action : HasSameMembers (blobs_under work (dialect_told history)) stored
  pub once : HasNoRepeats stored
  pub legal : IsLegal (task_of work) stored history
  pub leaves : next_of (task_of work) history ≡ Ends end
  pub exchanged : HasExchanged c old new (Grew (key_under work (dialect_told history)).digest stored history)
  pub counted : RoseBy (length (faults_of history)) (c.faults old) (c.faults new)
  pub few : length (faults_of history) ≤ 4

-- that, or memory ran out
abbrev pub EndsOr : {C W : Type 0} → callers.Ghosts C W → Work → C → C → End Outcome RemoteCause → Type 0
EndsOr c work old new end = (end ≡ ends.Failed causes.NoMemory) ⊎ EndsBy c work old new end

-- no result and no blob is blamed, and an outcome is what the tool makes of the command on the tree
pub record IsRightEnd (tool : Command → Tree → Outcome) (command : Command) (tree : Tree) (end : End Outcome RemoteCause) : Type 0 where
  pub fine : IsEndOf IsFineCause end
  pub clean : (outcome : Outcome) (origin : Origin) → end ≡ ends.Done outcome origin → IsClean tool command tree outcome

-- Where the client was genuine, and vouched for what the tool makes of the command on a tree, at the action under its farm's own dialect,
-- the end is right for that tree.
abbrev pub IsRightFor : {C W : Type 0} → world.Ghosts W → callers.Ghosts C W → Work → C → End Outcome RemoteCause → Type 0
IsRightFor w c work old end =
    (tree : Tree) → c.genuine old → c.vouches old (key_under work (c.dialect old)).digest work.command (w.tool work.command tree) →
    IsRightEnd w.tool work.command tree end

-- whatever the farm told, an outcome is proper for the command and within the limits
abbrev pub IsSoundEnd : Command → End Outcome RemoteCause → Type 0
IsSoundEnd command end = (outcome : Outcome) (origin : Origin) → end ≡ ends.Done outcome origin → IsSoundOutcome command outcome

-- all of these
pub record HasRun {C W : Type 0} (w : world.Ghosts W) (c : callers.Ghosts C W) (work : Work) (old new : C) (end : End Outcome RemoteCause) : Type 0 where
  pub ended : EndsOr c work old new end
  pub right : IsRightFor w c work old end
  pub sound : IsSoundEnd work.command end
  pub listed : IsEndOf ListsFault end

-- ---- until the farm told of itself

-- Only that was asked so far. Nothing is known of the action yet.
pub record IsAsking {C W : Type 0} (w : world.Ghosts W) (c : callers.Ghosts C W) (task : Task) (old now : C) (state : RemoteState) : Type 0 where
  pub history : List Turn
  pub running : (action : Digest) (stored : List Digest) → IsRunning w c action stored task old now history state AskOfFarm

-- the same amid the loop
pub record HasAsked {C W : Type 0} (w : world.Ghosts W) (c : callers.Ghosts C W) (task : Task) (old now : C) (state : RemoteState) : Type 0 where
  pub asking : IsAsking w c task old now state
  pub exchanged : HasExchanged c old now (λ part. Unit {0})
  pub sorted : AreSorted state.task.command.outputs

-- the farm told of itself
pub record HasTold {C W : Type 0} (w : world.Ghosts W) (c : callers.Ghosts C W) (task : Task) (old now : C) (told : Capabilities) (going : Going) : Type 0 where
  pub history : List Turn
  pub running : (action : Digest) (stored : List Digest) → IsRunning w c action stored task old now history going.state going.ask
  pub dialect_is : dialect_told history ≡ dialect_of told.low told.high
  pub own : c.genuine old → dialect_told history ≡ c.dialect old
  pub later : IsLater going.ask

-- it ended before that
pub record EndsEarly {C W : Type 0} (w : world.Ghosts W) (c : callers.Ghosts C W) (task : Task) (old now : C) (end : End Outcome RemoteCause) : Type 0 where
  pub history : List Turn
  pub ended : (action : Digest) (stored : List Digest) → IsEnded w c action stored task old now history end

abbrev pub EndsEarlyOr : {C W : Type 0} → world.Ghosts W → callers.Ghosts C W → Task → C → C → End Outcome RemoteCause → Type 0
EndsEarlyOr w c task old now end = (end ≡ ends.Failed causes.NoMemory) ⊎ EndsEarly w c task old now end

-- what was told in what was heard
abbrev pub told_in : Heard → Option Capabilities
told_in (Told capabilities) = Some capabilities
told_in (Cached result) = None
told_in (Uploaded left_out) = None
told_in HasBegunNow = None
told_in (Next operation) = None
told_in (Fetched texts) = None
told_in (Fault fault) = None
told_in (Over code) = None
told_in (Blobs fault) = None
told_in (Stopped decision) = None

-- a genuine client's farm told its own dialect
abbrev pub TellsOwn : {C W : Type 0} → callers.Ghosts C W → C → Option Capabilities → Type 0
TellsOwn c old (Some told) = c.genuine old → dialect_of told.low told.high ≡ c.dialect old
TellsOwn c old None = Unit {0}

-- the same is asked again, or the farm told of itself
abbrev pub FirstGoesOn : {C W : Type 0} → world.Ghosts W → callers.Ghosts C W → Task → C → C → RemoteState → Option Capabilities → Going → Type 0
FirstGoesOn w c task old now state (Some told) next = HasTold w c task old now told next
FirstGoesOn w c task old now state None next =
    IsAsking w c task old now next.state × (turns_left next.state.marks phases.Capabilities < turns_left state.marks phases.Capabilities)

abbrev pub FirstTurns : {C W : Type 0} → world.Ghosts W → callers.Ghosts C W → C → C → RemoteState → FirstTurn → Type 0
FirstTurns {C} w c client new state next =
    (task : Task) (old : C) → IsAsking w c task old client state → FirstGoesOn w c task old new state next.told next.going

abbrev pub FirstEnds : {C W : Type 0} → world.Ghosts W → callers.Ghosts C W → C → C → RemoteState → End Outcome RemoteCause → Type 0
FirstEnds {C} w c client new state end = (task : Task) (old : C) → IsAsking w c task old client state → EndsEarlyOr w c task old new end

-- some attempt was told that
pub record WasTold {C W : Type 0} (w : world.Ghosts W) (c : callers.Ghosts C W) (task : Task) (now : C) (begun : Begun) : Type 0 where
  pub old : C
  pub has : HasTold w c task old now begun.told begun.going

-- ---- from then on

-- the farm told this dialect, and the attempt goes on
pub record IsUnder {C W : Type 0} (w : world.Ghosts W) (c : callers.Ghosts C W) (dialect : Dialect) (action : Digest) (stored : List Digest)
    (task : Task) (old now : C) (going : Going) : Type 0 where
  pub history : List Turn
  pub running : IsRunning w c action stored task old now history going.state going.ask
  pub dialect_is : dialect_told history ≡ dialect
  pub later : IsLater going.ask

-- an attempt that goes on, of a command with sorted outputs
pub record HasBegun {C W : Type 0} (w : world.Ghosts W) (c : callers.Ghosts C W) (action : Digest) (stored : List Digest) (now : C) (going : Going) : Type 0 where
  pub dialect : Dialect
  pub task : Task
  pub old : C
  pub sorted : AreSorted task.command.outputs
  pub under : IsUnder w c dialect action stored task old now going

-- the attempt goes on, with fewer turns left
abbrev pub GoesOn : {C W : Type 0} → world.Ghosts W → callers.Ghosts C W → Digest → List Digest → C → C → Going → Going → Type 0
GoesOn {C} w c action stored client new before next =
    (dialect : Dialect) (task : Task) (old : C) → IsUnder w c dialect action stored task old client before →
    IsUnder w c dialect action stored task old new next ×
    (turns_left next.state.marks (phase_of next.ask) < turns_left before.state.marks (phase_of before.ask))

-- the farm told this dialect, and the attempt ended
pub record EndsUnder {C W : Type 0} (w : world.Ghosts W) (c : callers.Ghosts C W) (dialect : Dialect) (action : Digest) (stored : List Digest)
    (task : Task) (old now : C) (end : End Outcome RemoteCause) : Type 0 where
  pub history : List Turn
  pub ended : IsEnded w c action stored task old now history end
  pub dialect_is : dialect_told history ≡ dialect

abbrev pub EndsAfter : {C W : Type 0} → world.Ghosts W → callers.Ghosts C W → Digest → List Digest → C → C → Going → End Outcome RemoteCause → Type 0
EndsAfter {C} w c action stored client new before end =
    (dialect : Dialect) (task : Task) (old : C) → IsUnder w c dialect action stored task old client before →
    (end ≡ ends.Failed causes.NoMemory) ⊎ EndsUnder w c dialect action stored task old new end

-- ---- amid the loops

-- the attempt went on from one place to another
pub record HasGone {C T W : Type 0} (w : world.Ghosts W) (c : callers.Ghosts C W) (s : sources.Ghosts T W) (action : Digest) (stored : List Digest)
    (files : List InputFile) (client now : C) (before after : T) (first going : Going) : Type 0 where
  pub begun : HasBegun w c action stored now going
  pub under : (dialect : Dialect) (task : Task) (old : C) → IsUnder w c dialect action stored task old client first → IsUnder w c dialect action stored task old now going
  pub exchanged : HasExchanged c client now (λ part. Unit {0})
  pub reads : HasRead w s files before after (λ answers. Unit {0})
