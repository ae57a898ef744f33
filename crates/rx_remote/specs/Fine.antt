-- Ends that are sound, whatever the farm told, and right, where it was honest.
use Rattle.std.specs.Prelude.{◌≡◌, ℕ, List}
use Rattle.rx_base.specs.declared.digests.Digest.{Digest}
use Rattle.rx_world.specs.declared.attempts.End.{End}
use Rattle.rx_world.specs.declared.attempts.End.TheVariants as ends
use Rattle.rx_world.specs.declared.attempts.Origin.{Origin}
use Rattle.rx_world.specs.declared.commands.Command.{Command}
use Rattle.rx_world.specs.declared.outcomes.Outcome.{Outcome}
use Rattle.rx_world.specs.declared.remote_causes.RemoteCause.{RemoteCause}
use Rattle.rx_world.specs.declared.remote_causes.RemoteCause.TheVariants as causes
use Rattle.rx_world.specs.declared.trees.Tree.{Tree}
use Rattle.rx_world.specs.Outcomes.{IsClean, IsProper}
use Rattle.rx_results.specs.Outcomes.{IsWithinLimits}
use Rattle.rx_remote.specs.declared.asks.Ask.{Ask}
use Rattle.rx_remote.specs.declared.asks.Heard.{Heard}
use Rattle.rx_remote.specs.declared.tasks.Task.{Task}
use Rattle.rx_remote.specs.Honest.{IsHonestHistory}
use Rattle.rx_remote.specs.Legal.{IsLegal}
use Rattle.rx_remote.specs.Marks.{Turn}
use Rattle.rx_remote.specs.States.{heard_then}
use Rattle.rx_remote.specs.declared.asks.Ask.TheVariants.{Capabilities, End as Ends, Execute, Fetch, GetResult, NextOperation, Upload, Wait}

-- no result and no blob is blamed
abbrev pub IsFineCause : RemoteCause → Type 0
IsFineCause (causes.BadResult fault) = ⊥
IsFineCause (causes.BadBlob expected got) = ⊥
IsFineCause (causes.CallFailed faults) = Unit {0}
IsFineCause causes.OperationsSpent = Unit {0}
IsFineCause (causes.Stopped decision) = Unit {0}
IsFineCause (causes.InputChanged input) = Unit {0}
IsFineCause (causes.WrongVersion low high) = Unit {0}
IsFineCause (causes.SourceFault path) = Unit {0}
IsFineCause causes.NoMemory = Unit {0}

-- the attempt ended with an outcome, or with such a cause
abbrev pub IsEndOf : (RemoteCause → Type 0) → End Outcome RemoteCause → Type 0
IsEndOf IsSuch (ends.Done outcome origin) = Unit {0}
IsEndOf IsSuch (ends.Failed cause) = IsSuch cause

-- it goes on, or ended so
abbrev pub IfEnded : (RemoteCause → Type 0) → Ask → Type 0
IfEnded IsSuch (Ends end) = IsEndOf IsSuch end
IfEnded IsSuch Capabilities = Unit {0}
IfEnded IsSuch GetResult = Unit {0}
IfEnded IsSuch (Upload fresh) = Unit {0}
IfEnded IsSuch (Execute skip_cache) = Unit {0}
IfEnded IsSuch NextOperation = Unit {0}
IfEnded IsSuch (Wait name) = Unit {0}
IfEnded IsSuch (Fetch digests) = Unit {0}

abbrev pub IsFine : Ask → Type 0
IsFine ask = IfEnded IsFineCause ask

-- Nothing is blamed on a result or a blob, and an outcome is what the tool makes of the command on the tree.
pub record IsRight (tool : Command → Tree → Outcome) (command : Command) (tree : Tree) (ask : Ask) : Type 0 where
  pub fine : IsFine ask
  pub clean : (outcome : Outcome) (origin : Origin) → ask ≡ Ends (ends.Done outcome origin) → IsClean tool command tree outcome

-- Where the history with this answer is legal, and honest for what the tool makes of the command on a tree, the ask is right.
abbrev pub IsRightAfter : Task → List Turn → Heard → Ask → Type 0
IsRightAfter task history heard ask =
    (stored : List Digest) (blob : Digest → List ℕ) (tool : Command → Tree → Outcome) (tree : Tree) →
    IsLegal task stored (heard_then task history heard) → IsHonestHistory blob task.command (tool task.command tree) (heard_then task history heard) →
    IsRight tool task.command tree ask

-- ---- whatever the farm told

-- the outcome has a file for each output of the command at code 0, and none at another, and passes no limit
pub record IsSoundOutcome (command : Command) (outcome : Outcome) : Type 0 where
  pub proper : IsProper command outcome
  pub limits : IsWithinLimits outcome

-- Where the history with this answer is legal, an outcome is sound.
abbrev pub IsSoundAfter : Task → List Turn → Heard → Ask → Type 0
IsSoundAfter task history heard ask =
    (stored : List Digest) (outcome : Outcome) (origin : Origin) → IsLegal task stored (heard_then task history heard) →
    ask ≡ Ends (ends.Done outcome origin) → IsSoundOutcome task.command outcome
