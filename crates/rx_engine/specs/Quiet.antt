-- Sessions in which nothing fails, in an honest world, and what they answer.
use Rattle.std.specs.Prelude.{◌≡◌, ◌≢◌, ◌↔◌, ℕ, true, List, [], ◌∷◌, Option, None, Some, Contains, length, pos}
use Rattle.rx_base.specs.Paths.{is_below}
use Rattle.rx_base.specs.SortedPaths.{AreSorted}
use Rattle.rx_board.specs.declared.journal.Entry.{Entry}
use Rattle.rx_local.specs.Limits.{IsWithinLimits}
use Rattle.rx_local.specs.Local.{first_missing}
use Rattle.rx_scan.specs.declared.gathering.Gathered.{Gathered}
use Rattle.rx_scan.specs.Gathering.{Asked, IsGathered, IsInput, IsKept, IsOrderly, PassesList, PassesScan, command_asked, plan_of}
use Rattle.rx_scan.specs.Inputs.{first_missing as missing_input}
use Rattle.rx_reach.specs.Scenes.{Scene, scene_of}
use Rattle.rx_scan.specs.Ways.{blocked}
use Rattle.rx_session.specs.declared.replies.Reply.{Reply}
use Rattle.rx_session.specs.declared.replies.Reply.TheVariants as reply
use Rattle.rx_session.specs.declared.requests.Request.{Request}
use Rattle.rx_world.specs.declared.attempts.Failure.{Failure}
use Rattle.rx_world.specs.declared.attempts.Failure.TheVariants as failure
use Rattle.rx_world.specs.declared.commands.Command.{Command}
use Rattle.rx_world.specs.declared.commands.Strategy.{Strategy}
use Rattle.rx_world.specs.declared.commands.Strategy.TheVariants.{Local, Racing, Remote, RemoteLocalFallback}
use Rattle.rx_world.specs.declared.looks.Look.TheVariants.{Absent}
use Rattle.rx_world.specs.declared.outcomes.Outcome.{Outcome}
use Rattle.rx_world.specs.declared.refusals.Limit.{Limit}
use Rattle.rx_world.specs.declared.refusals.LocalCause.{LocalCause}
use Rattle.rx_world.specs.declared.remote_causes.RemoteCause.{RemoteCause}
use Rattle.rx_world.specs.declared.remote_causes.RemoteCause.TheVariants as causes
use Rattle.rx_world.specs.declared.sources.SourceEntry.{SourceEntry}
use Rattle.rx_world.specs.declared.trees.Tree.{Tree}
use Rattle.rx_world.specs.Causes.{Rose}
use Rattle.rx_world.specs.Outcomes.{IsClean}
use Rattle.rx_world.specs.Sources.{entry_at, is_file}
use Rattle.rx_engine.specs.declared.transcripts.Ending.{Ending}
use Rattle.rx_engine.specs.declared.transcripts.Ending.TheVariants.{NoMemory, Replied, ShutDown, SinkLost, SourceLost}
use Rattle.rx_engine.specs.Answers.{asked_of}
use Rattle.rx_engine.specs.Honest.{IsSteady, IsTrustedFor, listed_tree}
use Rattle.rx_engine.specs.Meanings.{Meanings}

-- the list has a file at the path
abbrev pub IsFileIn : List SourceEntry → List ℕ → Type 0
IsFileIn entries path = is_file (entry_at path entries).look ≡ true

-- below a file of the list there is nothing
abbrev pub AreApart : List SourceEntry → Type 0
AreApart entries = (path below : List ℕ) → IsFileIn entries path → is_below below path ≡ true → (entry_at below entries).look ≡ Absent

-- Nothing keeps what is asked for from being gathered in a scene: no declared input is missing, the files pass no limit, the command may
-- run where its request wants it, and none of its files stands in its way.
pub record CanGather (scene : Scene) (asked : Asked) : Type 0 where
  pub there : missing_input scene asked.inputs ≡ None
  pub scan : (limit : Limit) (n : ℕ) (path : Option (List ℕ)) → PassesScan scene asked limit n path → ⊥
  pub list : (limit : Limit) (n : ℕ) (path : Option (List ℕ)) → PassesList scene asked limit n path → ⊥
  pub planned : (cause : LocalCause) → IsKept scene asked (Some cause) → plan_of asked.choice (Some cause) ≢ None
  pub free : (cause : Option LocalCause) (files : List (List ℕ)) → IsKept scene asked cause → AreSorted files →
      ((file : List ℕ) → Contains files file ↔ IsInput scene asked cause file) → blocked (command_asked asked) files ≡ None

-- where the tool ends with code 0, it makes each output
abbrev pub MakesOutputs : (Command → Tree → Outcome) → Command → Tree → Type 0
MakesOutputs tool command tree =
    (tool command tree).exit.code ≡ pos 0 → first_missing command.outputs (tool command tree).files ≡ None

-- the tool makes each output from whatever is gathered from the list
abbrev pub MakesFrom : (Command → Tree → Outcome) → List SourceEntry → Asked → Type 0
MakesFrom tool entries asked =
    (gathered : Gathered) → IsGathered (scene_of entries) asked gathered → IsOrderly asked gathered → MakesOutputs tool gathered.command (listed_tree entries gathered)

-- the clean outcome is within the limits on what a command writes
abbrev pub KeepsLimits : (Command → Tree → Outcome) → Command → Tree → Type 0
KeepsLimits tool command tree = (outcome : Outcome) → IsClean tool command tree outcome → IsWithinLimits outcome

-- so it is for whatever is gathered from the list
abbrev pub KeepsLimitsFrom : (Command → Tree → Outcome) → List SourceEntry → Asked → Type 0
KeepsLimitsFrom tool entries asked =
    (gathered : Gathered) → IsGathered (scene_of entries) asked gathered → IsOrderly asked gathered → KeepsLimits tool gathered.command (listed_tree entries gathered)

-- The farm is trusted where it is asked, no call on it failed, and the source tree that remote attempts read tells the list, keeps it and
-- didn't fail.
pub record IsQuietThere {P W B : Type 0} (m : Meanings P W B) (before after : P) (entries : List SourceEntry) (asked : Asked) : Type 0 where
  pub farm : IsTrustedFor m before entries asked
  pub calls : Rose (m.farm.faults before) (m.farm.faults after) → ⊥
  pub listed : m.tree_remote.listed before ≡ Some entries
  pub kept_list : m.tree_remote.keeps before
  pub tree : Rose (m.tree_remote.faults before) (m.tree_remote.faults after) → ⊥

-- The session is steady, stamps are honest, what is asked for can be gathered from the list, the clean outcome of its command is proper and
-- within the limits, and no count rises. Of the farm this says something for the strategy remote alone.
pub record IsQuiet {P W B : Type 0} (m : Meanings P W B) (root : List ℕ) (before after : P) (bytes : List ℕ) (asked : Request) : Type 0 where
  pub entries : List SourceEntry
  pub steady : IsSteady m root before bytes asked entries
  pub stamps : m.world.stamps_honest
  pub apart : AreApart entries
  pub gathers : CanGather (scene_of entries) (asked_of asked)
  pub proper : MakesFrom m.world.tool entries (asked_of asked)
  pub limits : KeepsLimitsFrom m.world.tool entries (asked_of asked)
  pub input : Rose (m.input.faults before) (m.input.faults after) → ⊥
  pub tree : Rose (m.tree.faults before) (m.tree.faults after) → ⊥
  pub tree_local : Rose (m.tree_local.faults before) (m.tree_local.faults after) → ⊥
  pub benches : Rose (m.benches.faults before) (m.benches.faults after) → ⊥
  pub there : asked.strategy ≡ Remote → IsQuietThere m before after entries (asked_of asked)

-- the journal takes an entry, and the place doesn't fail
pub record HasRoom (limit : ℕ) (journal : List Entry) (before now : ℕ) : Type 0 where
  pub room : length journal ≢ limit
  pub place : Rose before now → ⊥

-- for these two an attempt may end on a farm that is honest and didn't fail: it serves another version, or it isn't done after so many states
abbrev pub IsFarmCause : RemoteCause → Type 0
IsFarmCause (causes.WrongVersion low high) = Unit {0}
IsFarmCause causes.OperationsSpent = Unit {0}
IsFarmCause (causes.CallFailed faults) = ⊥
IsFarmCause (causes.BadBlob expected got) = ⊥
IsFarmCause (causes.BadResult fault) = ⊥
IsFarmCause (causes.Stopped decision) = ⊥
IsFarmCause (causes.InputChanged input) = ⊥
IsFarmCause (causes.SourceFault path) = ⊥
IsFarmCause causes.NoMemory = ⊥

-- under the strategy remote that is the one failure that may be told, and under the others there is none
abbrev pub MayFail : Strategy → List Failure → Type 0
MayFail Remote failures = (cause : RemoteCause) × IsFarmCause cause × (failures ≡ failure.Remote cause ∷ [])
MayFail Local failures = ⊥
MayFail RemoteLocalFallback failures = ⊥
MayFail Racing failures = ⊥

-- The reply is Done, or says that memory ran out, or that the farm's own end left the strategy remote no outcome. A client that may cancel may
-- have done so.
abbrev pub IsDoneReply : Request → Option Reply → Type 0
IsDoneReply asked (Some (reply.Done exit stdout stderr from number placed)) = Unit {0}
IsDoneReply asked (Some reply.NoMemory) = Unit {0}
IsDoneReply asked (Some (reply.AllFailed failures)) = MayFail asked.strategy failures
IsDoneReply asked (Some (reply.Cancelled reason)) = asked.watch ≡ true
IsDoneReply asked (Some (reply.BadRequest bad)) = ⊥
IsDoneReply asked (Some (reply.NotRemotable cause)) = ⊥
IsDoneReply asked (Some (reply.InputMissing path)) = ⊥
IsDoneReply asked (Some (reply.InputChanged input)) = ⊥
IsDoneReply asked (Some (reply.SourceFault path)) = ⊥
IsDoneReply asked (Some (reply.TooLarge limit n path)) = ⊥
IsDoneReply asked (Some (reply.PlaceFault number placed)) = ⊥
IsDoneReply asked (Some reply.JournalFull) = ⊥
IsDoneReply asked (Some (reply.Blocked path)) = ⊥
IsDoneReply asked (Some (reply.InPlace cause)) = ⊥
IsDoneReply asked None = ⊥

-- the session ended so, or memory ran out even for that
abbrev pub IsDoneOr : Request → Ending → Option Reply → Type 0
IsDoneOr asked Replied answer = IsDoneReply asked answer
IsDoneOr asked SinkLost answer = IsDoneReply asked answer
IsDoneOr asked NoMemory answer = Unit {0}
IsDoneOr asked SourceLost answer = ⊥
IsDoneOr asked ShutDown answer = ⊥
