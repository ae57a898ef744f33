-- A farm that tells the end of an attempt at once, and two runs with it: the laws of a remote attempt
-- can be met, and steps lead from a request to its answer.
use Rattle.std.specs.Prelude.{◌≡◌, List, [], ◌∷◌, Option, None, Some, length, pos}
use Rattle.std.proofs.Common.{ap}
use Rattle.rx_core.specs.Attempts.{remote_stop}
use Rattle.rx_core.specs.Honest.{IsCleanEnd}
use Rattle.rx_core.specs.Remote.{AreHeard, AreLawful, Job, Rules}
use Rattle.rx_core.specs.Replies.{Reply}
use Rattle.rx_core.specs.Steps.{Admit, Answer, Exit, Hear, Offer, Publish, Start, Step}
use Rattle.rx_world.specs.declared.attempts.Attempt.TheVariants.{Local, Remote}
use Rattle.rx_world.specs.declared.attempts.Cause.TheVariants as local_causes
use Rattle.rx_world.specs.declared.attempts.End.{End}
use Rattle.rx_world.specs.declared.attempts.End.TheVariants.{Done, Failed}
use Rattle.rx_world.specs.declared.attempts.Origin.{Origin}
use Rattle.rx_world.specs.declared.attempts.Origin.TheVariants as origins
use Rattle.rx_world.specs.declared.attempts.Plan.TheVariants.{Both, Fallback}
use Rattle.rx_world.specs.declared.commands.Command.{Command}
use Rattle.rx_world.specs.declared.decisions.Decision.{Decision}
use Rattle.rx_world.specs.declared.decisions.Decision.TheVariants.{By}
use Rattle.rx_world.specs.declared.outcomes.FileOut.{FileOut}
use Rattle.rx_world.specs.declared.outcomes.Outcome.{Outcome}
use Rattle.rx_world.specs.declared.remote_causes.RemoteCause.{RemoteCause}
use Rattle.rx_world.specs.declared.remote_causes.RemoteCause.TheVariants.{OperationsSpent}
use Rattle.rx_world.specs.declared.trees.Tree.{Tree}
use Rattle.rx_world.specs.Outcomes.{IsClean, IsProper}

abbrev pub RemoteEnd : Type 0
RemoteEnd = End Outcome RemoteCause

-- any end may be told, and an outcome is proper
abbrev pub FitsAtOnce : Job → RemoteEnd → Type 0
FitsAtOnce job (Done outcome origin) = IsProper job.command outcome
FitsAtOnce job (Failed cause) = Unit {0}

abbrev pub stop_in : RemoteEnd → Option Decision
stop_in (Done outcome origin) = None
stop_in (Failed cause) = remote_stop cause

-- the latest of these
abbrev pub latest : List RemoteEnd → Option RemoteEnd
latest [] = None
latest (end ∷ earlier) = Some end

-- an honest farm's outcome is clean
abbrev pub IsHonestAtOnce : (Command → Tree → Outcome) → Job → List RemoteEnd → Type 0
IsHonestAtOnce tool job [] = Unit {0}
IsHonestAtOnce tool job (end ∷ earlier) = IsCleanEnd tool job end

abbrev pub at_once : (Command → Tree → Outcome) → Rules RemoteEnd
at_once tool = record {
  Fits = λ job earlier end. FitsAtOnce job end;
  decision_of = stop_in;
  end_of = λ job heard. latest heard;
  IsHonest = IsHonestAtOnce tool;
}

some-is : {A : Type 0} {x y : A} → Some x ≡ Some y → x ≡ y
some-is e = cc

proper-latest : (tool : Command → Tree → Outcome) (job : Job) (heard : List RemoteEnd)
    (outcome : Outcome) (origin : Origin) → AreHeard (at_once tool) job heard
    → latest heard ≡ Some (Done outcome origin) → IsProper job.command outcome
proper-latest tool job [] outcome origin are e = cc
proper-latest tool job (Done made from ∷ earlier) outcome origin are e =
    let same : made ≡ outcome = cc in rw same at are.0
proper-latest tool job (Failed cause ∷ earlier) outcome origin are e = cc

clean-latest : (tool : Command → Tree → Outcome) (job : Job) (heard : List RemoteEnd)
    (outcome : Outcome) (origin : Origin) → IsHonestAtOnce tool job heard
    → latest heard ≡ Some (Done outcome origin) → IsClean tool job.command job.tree outcome
clean-latest tool job [] outcome origin honest e = cc
clean-latest tool job (Done made from ∷ earlier) outcome origin honest e =
    let same : made ≡ outcome = cc in rw same at honest
clean-latest tool job (Failed cause ∷ earlier) outcome origin honest e = cc

pub at_once-lawful : (tool : Command → Tree → Outcome) → AreLawful tool (at_once tool)
at_once-lawful tool = record {
  proper = proper-latest tool;
  stops = λ job end earlier decision are e. ap stop_in (some-is e);
  clean = λ job heard outcome origin are honest e.
      clean-latest tool job heard outcome origin honest e;
}

-- Under Fallback the farm gives up. Then the command is run here, and what it made is published and
-- answered.
abbrev pub fallen_back : Job → Outcome → List (Step RemoteEnd)
fallen_back job outcome =
    Admit 7 1 Fallback job
    ∷ Start 7 Remote
    ∷ Hear 7 (Failed OperationsSpent)
    ∷ Offer 7 Remote
    ∷ Start 7 Local
    ∷ Exit 7 (Done outcome origins.Local)
    ∷ Offer 7 Local
    ∷ Publish 7 (length outcome.files) 0
    ∷ Answer 7 (Reply.Done outcome.exit origins.Local)
    ∷ []

-- a command that ended with code 0 and wrote these files
abbrev pub success : List FileOut → Outcome
success files = record { exit = record { code = pos 0; stdout = []; stderr = [] }; files = files }

-- Under Both the farm's outcome wins. The local attempt is stopped, and its offer comes late. The
-- place takes no file of the outcome, and the client is told so.
abbrev pub raced : Job → List FileOut → List (Step RemoteEnd)
raced job files =
    Admit 7 1 Both job
    ∷ Start 7 Local
    ∷ Start 7 Remote
    ∷ Hear 7 (Done (success files) origins.Remote)
    ∷ Offer 7 Remote
    ∷ Exit 7 (Failed (local_causes.Stopped (By Remote)))
    ∷ Offer 7 Local
    ∷ Publish 7 0 1
    ∷ Answer 7 (Reply.PlaceFault 0)
    ∷ []
