-- What the lines of a script answer, and what they vouch for.
use Rattle.std.specs.Prelude.{◌≡◌, ◌≢◌, ◌⊎◌, ℕ, ◌≤◌, List, [], ◌∷◌, Option, None, Some, IfSome, map}
use Rattle.std.specs.List.{AllByRecursion}
use Rattle.rx_base.specs.Digests.{digest_of}
use Rattle.rx_base.specs.declared.digests.Digest.{Digest}
use Rattle.rx_messages.specs.declared.results.ActionResult.{ActionResult}
use Rattle.rx_results.specs.Agreement.{Agrees}
use Rattle.rx_world.specs.Causes.{Rose}
use Rattle.rx_world.specs.declared.call_faults.CallFault.{CallFault}
use Rattle.rx_world.specs.declared.call_faults.CallFault.TheVariants as faults
use Rattle.rx_world.specs.declared.commands.Command.{Command}
use Rattle.rx_world.specs.declared.outcomes.Outcome.{Outcome}
use Rattle.rx_world.specs.declared.versions.Dialect.{Dialect}
use Rattle.rx_exec_messages.specs.Calls.{IsNamedFor, Stays}
use Rattle.rx_exec_messages.specs.Dialects.{dialect_of}
use Rattle.rx_exec_messages.specs.declared.exchanges.NamedBlob.{NamedBlob}
use Rattle.rx_exec_messages.specs.declared.executions.ExecuteResponse.{ExecuteResponse}
use Rattle.rx_exec_messages.specs.declared.script_lines.Running.{Running}
use Rattle.rx_exec_messages.specs.declared.script_lines.Running.TheVariants as runs
use Rattle.rx_exec_messages.specs.declared.script_lines.ScriptLine.{ScriptLine}
use Rattle.rx_exec_messages.specs.declared.script_lines.ScriptLine.TheVariants.{Blobs, Cached, Capabilities as Says}
use Rattle.rx_exec_messages.specs.declared.script_lines.ScriptLine.TheVariants.{Executes, Fault, Lacks}
use Rattle.rx_exec_messages.specs.declared.script_lines.ScriptLine.TheVariants.{Operation, Over, Resumes, Stored}
use Rattle.rx_exec_messages.specs.declared.script_state.ScriptState.{ScriptState}

-- the action of an execution
abbrev pub action_of : (List ℕ → Digest) → Running → Digest
action_of operation (runs.Action action) = action
action_of operation (runs.Name name) = operation name

abbrev pub texts_of : List NamedBlob → List (List ℕ)
texts_of blobs = map (λ (blob : NamedBlob). blob.bytes) blobs

-- ---- counts

-- the count rose, or stays where the fault is want of memory
abbrev pub IsCounted : ℕ → ℕ → CallFault → Type 0
IsCounted before now fault = (before ≤ now) × (fault ≢ faults.NoMemory → Rose before now)

-- ---- what lines vouch for

-- a response without a result agrees with no outcome
abbrev pub ResultIsOf : (Digest → List ℕ) → Command → Outcome → Option ActionResult → Type 0
ResultIsOf blob command outcome (Some result) = Agrees blob command outcome result
ResultIsOf blob command outcome None = ⊥

-- each result of a line agrees with the outcome
abbrev pub LineAgrees : (Digest → List ℕ) → Command → Outcome → ScriptLine → Type 0
LineAgrees blob command outcome (Cached found) = IfSome found (Agrees blob command outcome)
LineAgrees blob command outcome (Operation operation) =
    IfSome operation.done (λ (response : ExecuteResponse). ResultIsOf blob command outcome response.result)
LineAgrees blob command outcome (Says told) = Unit {0}
LineAgrees blob command outcome (Lacks digests) = Unit {0}
LineAgrees blob command outcome Stored = Unit {0}
LineAgrees blob command outcome (Blobs blobs) = Unit {0}
LineAgrees blob command outcome (Executes action) = Unit {0}
LineAgrees blob command outcome (Resumes name) = Unit {0}
LineAgrees blob command outcome (Over code) = Unit {0}
LineAgrees blob command outcome (Fault fault) = Unit {0}

-- At each digest the script vouches for the outcomes with which each result of its lines agrees.
abbrev pub Vouches : (Digest → List ℕ) → ScriptState → Digest → Command → Outcome → Type 0
Vouches blob script digest command outcome = AllByRecursion (LineAgrees blob command outcome) script.lines.items

-- ---- genuine lines

-- the bytes are those that the world has for the digest, and have it
abbrev pub IsBlob : (Digest → List ℕ) → NamedBlob → Type 0
IsBlob blob named = (named.bytes ≡ blob named.digest) × (digest_of named.bytes ≡ named.digest)

-- Blobs are the world's, versions are those of the farm, and a name is empty or belongs to what runs.
abbrev pub IsGenuineLine : (Digest → List ℕ) → (List ℕ → Digest) → Dialect → Digest → ScriptLine → Type 0
IsGenuineLine blob operation dialect running (Says told) = dialect_of told.low told.high ≡ dialect
IsGenuineLine blob operation dialect running (Blobs blobs) = AllByRecursion (IsBlob blob) blobs
IsGenuineLine blob operation dialect running (Operation state) = IsNamedFor operation running state.name
IsGenuineLine blob operation dialect running (Cached found) = Unit {0}
IsGenuineLine blob operation dialect running (Lacks digests) = Unit {0}
IsGenuineLine blob operation dialect running Stored = Unit {0}
IsGenuineLine blob operation dialect running (Executes action) = Unit {0}
IsGenuineLine blob operation dialect running (Resumes name) = Unit {0}
IsGenuineLine blob operation dialect running (Over code) = Unit {0}
IsGenuineLine blob operation dialect running (Fault fault) = Unit {0}

-- the action that runs once a line was answered
abbrev pub running_after : (List ℕ → Digest) → Digest → ScriptLine → Digest
running_after operation running (Executes action) = action
running_after operation running (Resumes name) = operation name
running_after operation running (Says told) = running
running_after operation running (Cached found) = running
running_after operation running (Lacks digests) = running
running_after operation running Stored = running
running_after operation running (Blobs blobs) = running
running_after operation running (Operation state) = running
running_after operation running (Over code) = running
running_after operation running (Fault fault) = running

-- Each line is genuine for what runs when it is answered.
abbrev pub AreGenuineLines : (Digest → List ℕ) → (List ℕ → Digest) → Dialect → Digest → List ScriptLine → Type 0
AreGenuineLines blob operation dialect running [] = Unit {0}
AreGenuineLines blob operation dialect running (line ∷ lines) =
    IsGenuineLine blob operation dialect running line
    × AreGenuineLines blob operation dialect (running_after operation running line) lines

-- what runs, as a script has it
abbrev pub running_of : (List ℕ → Digest) → ScriptState → Digest
running_of operation script = action_of operation script.running

abbrev pub IsGenuine : (Digest → List ℕ) → (List ℕ → Digest) → ScriptState → Type 0
IsGenuine blob operation script =
    AreGenuineLines blob operation script.dialect (running_of operation script) script.lines.items

-- ---- lines that don't fit

-- A line with a fault leaves the lines behind it. One that doesn't fit its call leaves none.
abbrev pub left_by : Option ScriptLine → List ScriptLine → List ScriptLine
left_by (Some (Fault fault)) lines = lines
left_by (Some (Says told)) lines = []
left_by (Some (Cached found)) lines = []
left_by (Some (Lacks digests)) lines = []
left_by (Some Stored) lines = []
left_by (Some (Blobs blobs)) lines = []
left_by (Some (Executes action)) lines = []
left_by (Some (Resumes name)) lines = []
left_by (Some (Operation state)) lines = []
left_by (Some (Over code)) lines = []
left_by None lines = []

-- the lines that are left when a call wasn't served by this one, or none
abbrev pub IsLeft : Option ScriptLine → List ScriptLine → List ScriptLine → Type 0
IsLeft line old new = (new ≡ left_by line old) ⊎ (new ≡ [])

-- ---- what each call keeps

-- what is vouched for, that the script is genuine, and its farm's dialect
abbrev pub Keeps : (Digest → List ℕ) → (List ℕ → Digest) → ScriptState → ScriptState → Type 0
Keeps blob operation old new =
    Stays (Vouches blob) (IsGenuine blob operation) (λ (script : ScriptState). script.dialect) old new
