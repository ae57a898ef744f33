-- The one ask or end that a history of a remote attempt leaves. A history is a list of asks with what was heard to them, the latest first.
use Rattle.std.specs.Prelude.{ℕ, ◌==◌, ◌&&◌, ◌||◌, Bool, true, false, not, List, [], ◌∷◌, Option, None, Some, if◌then◌else◌, int_lt, length, nat_lt, pos}
use Rattle.rx_messages.specs.declared.results.ActionResult.{ActionResult}
use Rattle.rx_world.specs.declared.attempts.Origin.{Origin}
use Rattle.rx_world.specs.declared.attempts.Origin.TheVariants as origins
use Rattle.rx_world.specs.declared.attempts.End.TheVariants as ends
use Rattle.rx_world.specs.declared.call_faults.CallFault.{CallFault}
use Rattle.rx_world.specs.declared.commands.Command.{Command}
use Rattle.rx_world.specs.declared.remote_causes.RemoteCause.{RemoteCause}
use Rattle.rx_world.specs.declared.remote_causes.RemoteCause.TheVariants as causes
use Rattle.rx_world.specs.declared.remote_causes.ResultFault.{ResultFault}
use Rattle.rx_world.specs.declared.remote_causes.ResultFault.TheVariants.{NoResult}
use Rattle.rx_world.specs.declared.versions.SemVer.{SemVer}
use Rattle.rx_exec_messages.specs.declared.executions.ExecuteResponse.{ExecuteResponse}
use Rattle.rx_results.specs.declared.slots.DigestMismatch.{DigestMismatch}
use Rattle.rx_results.specs.Outcomes.{outcome_of}
use Rattle.rx_results.specs.Results.{fault_of, spoiled_of, wanted_of}
use Rattle.rx_blobs.specs.declared.blob_fault.BlobFault.{BlobFault}
use Rattle.rx_blobs.specs.declared.blob_fault.BlobFault.TheVariants as blobs
use Rattle.rx_remote.specs.declared.asks.Ask.{Ask}
use Rattle.rx_remote.specs.declared.asks.Ask.TheVariants.{Capabilities, End, Execute, Fetch, GetResult, NextOperation, Upload, Wait}
use Rattle.rx_remote.specs.declared.asks.Heard.{Heard}
use Rattle.rx_remote.specs.declared.asks.Heard.TheVariants.{Begun, Blobs, Cached, Fault, Fetched, Next, Over, Stopped, Told, Uploaded}
use Rattle.rx_remote.specs.declared.marks.Found.{Found}
use Rattle.rx_remote.specs.declared.marks.Marks.{Marks}
use Rattle.rx_remote.specs.declared.phases.Phase.{Phase}
use Rattle.rx_remote.specs.declared.phases.Phase.TheVariants as phases
use Rattle.rx_remote.specs.declared.tasks.Task.{Task}
use Rattle.rx_remote.specs.Faults.{has_code, is_no_memory, is_own, is_retried, is_run_again, lacked_blobs}
use Rattle.rx_remote.specs.Marks.{Turn, found_as, is_cached, marks_of, origin_of, phase_of}

abbrev pub failed : RemoteCause → Ask
failed cause = End (ends.Failed cause)

-- ---- after an answer

-- the farm told a range of versions without 2
abbrev pub excludes : SemVer → SemVer → Bool
excludes low high = int_lt (pos 2) low.major || int_lt high.major (pos 2)

abbrev pub first_ask : Bool → Ask
first_ask true = GetResult
first_ask false = Upload false

abbrev pub after_range : Bool → Option SemVer → Option SemVer → Ask
after_range accepts (Some low) (Some high) = if excludes low high then failed (causes.WrongVersion low high) else first_ask accepts
after_range accepts None high = first_ask accepts
after_range accepts (Some low) None = first_ask accepts

-- whether the farm's cache is to be passed over
abbrev pub skips_by : Bool → Bool → Bool
skips_by accepts missed = not accepts || missed

abbrev pub skips : Task → Marks → Bool
skips task marks = skips_by task.accept_cached marks.missed

-- the end with the outcome of a result and the texts that were fetched for it
abbrev pub done : Found → List (List ℕ) → Ask
done found texts = End (ends.Done (outcome_of found.reading.command found.reading.result texts) found.origin)

-- what a result needs is fetched; where it needs nothing, that is the end
abbrev pub fetched_or_done : Found → Ask
fetched_or_done found =
    let digests = wanted_of found.reading.command found.reading.result in
    if length digests == 0 then done found [] else Fetch digests

-- what is wrong with a result: a fault, or contents that haven't the digest that it names
abbrev pub blamed_on : Option ResultFault → Option DigestMismatch → Option RemoteCause
blamed_on (Some fault) spoiled = Some (causes.BadResult fault)
blamed_on None (Some bad) = Some (causes.BadBlob bad.expected bad.got)
blamed_on None None = None

abbrev pub blamed : Command → ActionResult → Option RemoteCause
blamed command result = blamed_on (fault_of command result) (spoiled_of command result)

abbrev pub unless_blamed : Found → Option RemoteCause → Ask
unless_blamed found (Some cause) = failed cause
unless_blamed found None = fetched_or_done found

-- what a result leads to
unfoldable pub judged : Command → ActionResult → Origin → Ask
judged command result origin = unless_blamed (found_as command origin result) (blamed command result)

abbrev pub after_cached : Task → Option ActionResult → Ask
after_cached task None = Upload false
after_cached task (Some result) = judged task.command result origins.Cache

abbrev pub after_response : Task → Origin → Option ActionResult → Ask
after_response task origin None = failed (causes.BadResult NoResult)
after_response task origin (Some result) = judged task.command result origin

-- the most operations that are heard and aren't done, of a whole attempt
abbrev pub most_waits : ℕ
most_waits = 10000

abbrev pub next_or_spent : Marks → Ask
next_or_spent marks = if nat_lt marks.waits most_waits then NextOperation else failed causes.OperationsSpent

abbrev pub after_next : Task → Marks → Option ExecuteResponse → Ask
after_next task marks None = next_or_spent marks
after_next task marks (Some response) = after_response task (origin_of response.cached_result) response.result

abbrev pub finished : Option Found → List (List ℕ) → Ask
finished (Some found) texts = done found texts
finished None texts = failed causes.NoMemory

-- ---- after a fault

-- the most faults of an attempt: the fourth ends it
abbrev pub most_faults : ℕ
most_faults = 4

abbrev pub by_name : Task → Marks → List ℕ → Ask
by_name task marks [] = Execute (skips task marks)
by_name task marks (byte ∷ bytes) = Wait (byte ∷ bytes)

abbrev pub fetch_again : Option Found → Ask
fetch_again (Some found) = Fetch (wanted_of found.reading.command found.reading.result)
fetch_again None = Fetch []

-- what is asked after a fault that is asked again
abbrev pub again : Task → Marks → Phase → CallFault → Ask
again task marks phases.Capabilities fault = Capabilities
again task marks phases.GetResult fault = GetResult
again task marks (phases.Upload fresh) fault = Upload fresh
again task marks phases.Execute fault = if has_code 9 fault then Upload true else Execute (skips task marks)
again task marks phases.NextOperation fault = if has_code 9 fault then Upload true else by_name task marks marks.name
again task marks phases.Wait fault = if has_code 5 fault then Execute (skips task marks) else by_name task marks marks.name
again task marks phases.Fetch fault = fetch_again marks.found
again task marks phases.Ended fault = failed causes.NoMemory

abbrev pub is_fetch : Phase → Bool
is_fetch phases.Fetch = true
is_fetch phases.Capabilities = false
is_fetch phases.GetResult = false
is_fetch (phases.Upload fresh) = false
is_fetch phases.Execute = false
is_fetch phases.NextOperation = false
is_fetch phases.Wait = false
is_fetch phases.Ended = false

-- the marks have the fault already
abbrev pub asks_again : Marks → Phase → CallFault → Bool
asks_again marks phase fault = nat_lt (length marks.faults) most_faults && (is_retried fault || is_own phase fault)

abbrev pub unless_asked_again : Task → Marks → Phase → CallFault → Bool → Ask
unless_asked_again task marks phase fault true = again task marks phase fault
unless_asked_again task marks phase fault false = failed (causes.CallFailed marks.faults)

unfoldable pub after_fault : Task → Marks → Phase → CallFault → Ask
after_fault task marks phase fault =
    if is_no_memory fault then failed causes.NoMemory
    else unless_asked_again task marks phase fault (asks_again marks phase fault)

-- ---- after an execution that is over, and failed

-- the marks have the fault already
abbrev pub runs_again : Marks → ℕ → Bool
runs_again marks code = nat_lt (length marks.faults) most_faults && (is_run_again code || lacked_blobs code)

-- An operation that is done never changes, so it isn't waited for: the action is executed anew, and first uploaded where blobs were lacking.
abbrev pub run_again : Task → Marks → ℕ → Ask
run_again task marks code = if lacked_blobs code then Upload true else Execute (skips task marks)

unfoldable pub after_over : Task → Marks → ℕ → Ask
after_over task marks code = if runs_again marks code then run_again task marks code else failed (causes.CallFailed marks.faults)

-- ---- after blobs that failed

-- a result of the cache whose blob is missing counts as a miss
abbrev pub counts_as_miss : Marks → Phase → Bool
counts_as_miss marks phase = nat_lt (length marks.faults) most_faults && (is_fetch phase && is_cached marks.found)

unfoldable pub after_missing : Marks → Phase → Ask
after_missing marks phase = if counts_as_miss marks phase then Upload false else failed (causes.CallFailed marks.faults)

abbrev pub after_blobs : Task → Marks → Phase → BlobFault → Ask
after_blobs task marks phase (blobs.Call fault) = after_fault task marks phase fault
after_blobs task marks phase (blobs.Missing digest) = after_missing marks phase
after_blobs task marks phase (blobs.Refused digest code) = failed (causes.CallFailed marks.faults)
after_blobs task marks phase (blobs.BadBlob expected got) = failed (causes.BadBlob expected got)
after_blobs task marks phase (blobs.InputChanged input) = failed (causes.InputChanged input)
after_blobs task marks phase (blobs.SourceFault path) = failed (causes.SourceFault path)
after_blobs task marks phase blobs.NoMemory = failed causes.NoMemory

-- ---- the one ask or end

-- What is asked after an answer. The marks are those of the history that ends with it.
abbrev pub after : Task → Marks → Phase → Heard → Ask
after task marks phase (Told capabilities) = after_range task.accept_cached capabilities.low capabilities.high
after task marks phase (Cached result) = after_cached task result
after task marks phase (Uploaded left_out) = Execute (skips task marks)
after task marks phase Begun = NextOperation
after task marks phase (Next operation) = after_next task marks operation.done
after task marks phase (Fetched texts) = finished marks.found texts
after task marks phase (Fault fault) = after_fault task marks phase fault
after task marks phase (Over code) = after_over task marks code
after task marks phase (Blobs fault) = after_blobs task marks phase fault
after task marks phase (Stopped decision) = failed (causes.Stopped decision)

-- The one ask or end that a history leaves. Of no turn it is the first ask.
abbrev pub next_of : Task → List Turn → Ask
next_of task [] = Capabilities
next_of task (turn ∷ earlier) = after task (marks_of task.command (turn ∷ earlier)) (phase_of turn.ask) turn.heard
