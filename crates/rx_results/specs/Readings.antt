-- The reading of a farm's result, and what may be said of the outcome that comes of it.
use Rattle.std.specs.Prelude.{◌≡◌, ℕ, List, ◌∷◌, Option, None, map}
use Rattle.rx_base.specs.Digests.{digest_of}
use Rattle.rx_base.specs.declared.digests.Digest.{Digest}
use Rattle.rx_messages.specs.declared.results.ActionResult.{ActionResult}
use Rattle.rx_world.specs.declared.commands.Command.{Command}
use Rattle.rx_world.specs.declared.outcomes.Outcome.{Outcome}
use Rattle.rx_world.specs.declared.remote_causes.ResultFault.{ResultFault}
use Rattle.rx_world.specs.declared.trees.Tree.{Tree}
use Rattle.rx_world.specs.Outcomes.{IsClean, IsProper}
use Rattle.rx_results.specs.declared.readings.Reading.{Reading}
use Rattle.rx_results.specs.declared.slots.DigestMismatch.{DigestMismatch}
use Rattle.rx_results.specs.declared.slots.Slot.{Slot}
use Rattle.rx_results.specs.Agreement.{Agrees}
use Rattle.rx_results.specs.Outcomes.{outcome_of, IsWithinLimits}
use Rattle.rx_results.specs.ResultOutputs.{output_at, slot_at}
use Rattle.rx_results.specs.Results.{counted, fault_of, spoiled_of, stderr_slot, stdout_slot, wanted_of}

-- what a result of a command is read as
unfoldable pub reading_of : Command → ActionResult → Reading
reading_of command result = record {
  code = result.exit_code;
  stdout = stdout_slot result;
  stderr = stderr_slot result;
  outputs = map (output_at command result) (counted command result);
}

-- the reading is that of this result of this command
pub record IsReading (command : Command) (result : ActionResult) (reading : Reading) : Type 0 where
  pub is : reading ≡ reading_of command result

-- all slots of a reading: standard output, standard error, and the outputs that count
abbrev pub slots_in : Reading → List Slot
slots_in reading = reading.stdout ∷ reading.stderr ∷ map slot_at reading.outputs

-- ---- what is said of a reading, whatever command and result were read

-- it is the fault of these
abbrev pub IsFaultOf : Reading → Option ResultFault → Type 0
IsFaultOf reading fault =
    (command : Command) (result : ActionResult) → IsReading command result reading →
    fault ≡ fault_of command result

-- these are the contents with another digest
abbrev pub IsSpoiledOf : Reading → Option DigestMismatch → Type 0
IsSpoiledOf reading mismatch =
    (command : Command) (result : ActionResult) → IsReading command result reading →
    mismatch ≡ spoiled_of command result

-- where the result agrees with an outcome, there are none
abbrev pub IsNoneIfAgreed : Reading → Option DigestMismatch → Type 0
IsNoneIfAgreed reading mismatch =
    (blob : Digest → List ℕ) (command : Command) (outcome : Outcome) (result : ActionResult) →
    IsReading command result reading → Agrees blob command outcome result → mismatch ≡ None

-- these digests have to be fetched
abbrev pub AreWantedOf : Reading → List Digest → Type 0
AreWantedOf reading digests =
    (command : Command) (result : ActionResult) → IsReading command result reading →
    digests ≡ wanted_of command result

-- ---- the outcome that comes of a reading and the fetched texts

-- it is the outcome of what was read and the texts
abbrev pub IsOutcomeOf : Reading → List (List ℕ) → Outcome → Type 0
IsOutcomeOf reading texts outcome =
    (command : Command) (result : ActionResult) → IsReading command result reading →
    outcome ≡ outcome_of command result texts

-- it has a file for each output of the command where its code is 0, and else none
abbrev pub IsProperOf : Reading → Outcome → Type 0
IsProperOf reading outcome =
    (command : Command) (result : ActionResult) → IsReading command result reading →
    IsProper command outcome

-- The result has no fault and no contents with another digest than theirs, and the texts have the
-- digests that had to be fetched.
pub record IsFetched (command : Command) (result : ActionResult) (texts : List (List ℕ))
    : Type 0 where
  pub sound : fault_of command result ≡ None
  pub unspoiled : spoiled_of command result ≡ None
  pub fetched : map digest_of texts ≡ wanted_of command result

-- where all was fetched, it passes no limit
abbrev pub IsWithinLimitsOf : Reading → List (List ℕ) → Outcome → Type 0
IsWithinLimitsOf reading texts outcome =
    (command : Command) (result : ActionResult) → IsReading command result reading →
    IsFetched command result texts → IsWithinLimits outcome

-- The result agrees with what the tool makes of the tree, and the texts are the blobs that had to be
-- fetched.
pub record IsHonest (blob : Digest → List ℕ) (tool : Command → Tree → Outcome) (tree : Tree)
    (command : Command) (result : ActionResult) (texts : List (List ℕ)) : Type 0 where
  pub agrees : Agrees blob command (tool command tree) result
  pub fetched : texts ≡ map blob (wanted_of command result)

-- where the farm is honest for a tool and a tree, it is the clean outcome of these
abbrev pub IsCleanOf : Reading → List (List ℕ) → Outcome → Type 0
IsCleanOf reading texts outcome =
    (blob : Digest → List ℕ) (tool : Command → Tree → Outcome) (tree : Tree) (command : Command)
    (result : ActionResult) → IsReading command result reading →
    IsHonest blob tool tree command result texts → IsClean tool command tree outcome
