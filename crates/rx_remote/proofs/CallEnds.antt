-- An attempt ends for calls that failed only where its history has such a fault, and then it lists them.
use Rattle.std.proofs.Common.{◌≡◌, ◌==◌, ◌≤◌, ℕ, List, [], ◌∷◌, ◌++◌, Option, None, Some, length, refl, subst, sym, arith}
use Rattle.rx_messages.specs.declared.results.ActionResult.{ActionResult}
use Rattle.rx_world.specs.declared.attempts.End.{End as AnyEnd}
use Rattle.rx_world.specs.declared.attempts.End.TheVariants as ends
use Rattle.rx_world.specs.declared.attempts.Origin.{Origin}
use Rattle.rx_world.specs.declared.attempts.Origin.TheVariants as origins
use Rattle.rx_world.specs.declared.call_faults.CallFault.{CallFault}
use Rattle.rx_world.specs.declared.call_faults.CallFault.TheVariants as calls
use Rattle.rx_world.specs.declared.commands.Command.{Command}
use Rattle.rx_world.specs.declared.outcomes.Outcome.{Outcome}
use Rattle.rx_world.specs.declared.remote_causes.RemoteCause.{RemoteCause}
use Rattle.rx_world.specs.declared.remote_causes.RemoteCause.TheVariants as causes
use Rattle.rx_world.specs.declared.remote_causes.ResultFault.{ResultFault}
use Rattle.rx_world.specs.declared.versions.SemVer.{SemVer}
use Rattle.rx_exec_messages.specs.declared.executions.ExecuteResponse.{ExecuteResponse}
use Rattle.rx_results.specs.declared.slots.DigestMismatch.{DigestMismatch}
use Rattle.rx_results.specs.Results.{fault_of, spoiled_of, wanted_of}
use Rattle.rx_blobs.specs.declared.blob_fault.BlobFault.TheVariants as blobs
use Rattle.std.specs.Prelude.{nat_lt}
use Rattle.rx_remote.specs.declared.asks.Ask.{Ask}
use Rattle.rx_remote.specs.declared.asks.Ask.TheVariants.{End, Fetch, NextOperation}
use Rattle.rx_remote.specs.declared.asks.Heard.{Heard}
use Rattle.rx_remote.specs.declared.asks.Heard.TheVariants.{Begun, Blobs, Cached, Fault, Fetched, Next, Over, Stopped, Told, Uploaded}
use Rattle.rx_remote.specs.declared.marks.Found.{Found}
use Rattle.rx_remote.specs.declared.marks.Marks.{Marks}
use Rattle.rx_remote.specs.declared.phases.Phase.{Phase}
use Rattle.rx_remote.specs.declared.tasks.Task.{Task}
use Rattle.rx_remote.specs.Faults.{with_fault}
use Rattle.rx_remote.specs.Ends.{ListsFault}
use Rattle.rx_remote.specs.Fine.{IfEnded, IsEndOf}
use Rattle.rx_remote.specs.History.{after_cached, after_fault, after_next, after_range, after_response, blamed_on, done, excludes, failed, finished, first_ask, judged, most_waits, next_of, unless_blamed}
use Rattle.rx_remote.specs.Marks.{Turn, faults_of, found_as, found_of, marks_of, origin_of, phase_of}
use Rattle.rx_remote.proofs.PlainEnds.{either-ends, fault-by, first-ends, missing-by, over-by}

-- the faults allow the cause: calls that failed are these, and one at least
abbrev Allows : List CallFault → RemoteCause → Type 0
Allows all (causes.CallFailed faults) = (faults ≡ all) × (1 ≤ length all)
Allows all (causes.BadBlob expected got) = Unit {0}
Allows all (causes.BadResult fault) = Unit {0}
Allows all causes.OperationsSpent = Unit {0}
Allows all (causes.Stopped decision) = Unit {0}
Allows all (causes.InputChanged input) = Unit {0}
Allows all (causes.WrongVersion low high) = Unit {0}
Allows all (causes.SourceFault path) = Unit {0}
Allows all causes.NoMemory = Unit {0}

one-more : (faults : List CallFault) (fault : CallFault) → 1 ≤ length (faults ++ fault ∷ [])
one-more [] fault = omega arith
one-more (f ∷ fs) fault = let rest = one-more fs fault in omega arith

-- ---- results, versions and states

blamed-allowed : (all : List CallFault) (fault : Option ResultFault) (bad : Option DigestMismatch) (found : Found) → IfEnded (Allows all) (unless_blamed found (blamed_on fault bad))
blamed-allowed all (Some fault) bad found = tt
blamed-allowed all None (Some bad) found = tt
blamed-allowed all None None found =
    either-ends (Allows all) (length (wanted_of found.reading.command found.reading.result) == 0) (done found []) (Fetch (wanted_of found.reading.command found.reading.result)) tt tt

judged-allowed : (all : List CallFault) (command : Command) (result : ActionResult) (origin : Origin) → IfEnded (Allows all) (judged command result origin)
unfolding judged
judged-allowed all command result origin = blamed-allowed all (fault_of command result) (spoiled_of command result) (found_as command origin result)

cached-allowed : (all : List CallFault) (task : Task) (result : Option ActionResult) → IfEnded (Allows all) (after_cached task result)
cached-allowed all task None = tt
cached-allowed all task (Some result) = judged-allowed all task.command result origins.Cache

response-allowed : (all : List CallFault) (task : Task) (origin : Origin) (result : Option ActionResult) → IfEnded (Allows all) (after_response task origin result)
response-allowed all task origin None = tt
response-allowed all task origin (Some result) = judged-allowed all task.command result origin

next-allowed : (all : List CallFault) (task : Task) (marks : Marks) (state : Option ExecuteResponse) → IfEnded (Allows all) (after_next task marks state)
next-allowed all task marks None = either-ends (Allows all) (nat_lt marks.waits most_waits) NextOperation (failed causes.OperationsSpent) tt tt
next-allowed all task marks (Some response) = response-allowed all task (origin_of response.cached_result) response.result

range-allowed : (all : List CallFault) (task : Task) (low high : Option SemVer) → IfEnded (Allows all) (after_range task.accept_cached low high)
range-allowed all task (Some low) (Some high) =
    either-ends (Allows all) (excludes low high) (failed (causes.WrongVersion low high)) (first_ask task.accept_cached) tt (first-ends (Allows all) task.accept_cached)
range-allowed all task None high = first-ends (Allows all) task.accept_cached
range-allowed all task (Some low) None = first-ends (Allows all) task.accept_cached

finished-allowed : (all : List CallFault) (found : Option Found) (texts : List (List ℕ)) → IfEnded (Allows all) (finished found texts)
finished-allowed all None texts = tt
finished-allowed all (Some f) texts = tt

-- ---- faults

list-allowed : (task : Task) (marks : Marks) (phase : Phase) (faults : List CallFault) (fault : CallFault) → marks.faults ≡ faults ++ fault ∷ [] →
    IfEnded (Allows marks.faults) (after_fault task marks phase fault)
list-allowed task marks phase faults fault e =
    fault-by (Allows marks.faults) task marks phase fault tt (refl, subst (λ (all : List CallFault). 1 ≤ length all) (sym e) (one-more faults fault))

fault-allowed : (task : Task) (marks : Marks) (phase : Phase) (faults : List CallFault) (fault : CallFault) → marks.faults ≡ with_fault faults fault →
    IfEnded (Allows marks.faults) (after_fault task marks phase fault)
unfolding after_fault
fault-allowed task marks phase faults calls.NoMemory e = tt
fault-allowed task marks phase faults (calls.Status code) e = list-allowed task marks phase faults (calls.Status code) e
fault-allowed task marks phase faults calls.Link e = list-allowed task marks phase faults calls.Link e
fault-allowed task marks phase faults (calls.Protocol code) e = list-allowed task marks phase faults (calls.Protocol code) e
fault-allowed task marks phase faults calls.Compressed e = list-allowed task marks phase faults calls.Compressed e
fault-allowed task marks phase faults calls.TooLarge e = list-allowed task marks phase faults calls.TooLarge e
fault-allowed task marks phase faults calls.NoStatus e = list-allowed task marks phase faults calls.NoStatus e
fault-allowed task marks phase faults (calls.BadMessage at) e = list-allowed task marks phase faults (calls.BadMessage at) e
fault-allowed task marks phase faults calls.Cut e = list-allowed task marks phase faults calls.Cut e
fault-allowed task marks phase faults (calls.BlobRefused digest code) e = list-allowed task marks phase faults (calls.BlobRefused digest code) e

turn-allowed : (task : Task) (ask : Ask) (heard : Heard) (earlier : List Turn)
    → IfEnded (Allows (faults_of (record { ask = ask; heard = heard } ∷ earlier))) (next_of task (record { ask = ask; heard = heard } ∷ earlier))
turn-allowed task ask (Told told) earlier = range-allowed (faults_of earlier) task told.low told.high
turn-allowed task ask (Cached result) earlier = cached-allowed (faults_of earlier) task result
turn-allowed task ask (Uploaded left_out) earlier = tt
turn-allowed task ask Begun earlier = tt
turn-allowed task ask (Next operation) earlier =
    next-allowed (faults_of earlier) task (marks_of task.command (record { ask = ask; heard = Next operation } ∷ earlier)) operation.done
turn-allowed task ask (Fetched texts) earlier = finished-allowed (faults_of earlier) (found_of task.command earlier) texts
turn-allowed task ask (Fault fault) earlier =
    fault-allowed task (marks_of task.command (record { ask = ask; heard = Fault fault } ∷ earlier)) (phase_of ask) (faults_of earlier) fault refl
turn-allowed task ask (Over code) earlier =
    over-by (Allows (faults_of earlier ++ calls.Status code ∷ [])) task (marks_of task.command (record { ask = ask; heard = Over code } ∷ earlier)) code
    (refl, one-more (faults_of earlier) (calls.Status code))
turn-allowed task ask (Blobs (blobs.Call fault)) earlier =
    fault-allowed task (marks_of task.command (record { ask = ask; heard = Blobs (blobs.Call fault) } ∷ earlier)) (phase_of ask) (faults_of earlier) fault refl
turn-allowed task ask (Blobs (blobs.Missing digest)) earlier =
    missing-by (Allows (faults_of earlier ++ calls.BlobRefused digest 5 ∷ [])) (marks_of task.command (record { ask = ask; heard = Blobs (blobs.Missing digest) } ∷ earlier)) (phase_of ask)
    (refl, one-more (faults_of earlier) (calls.BlobRefused digest 5))
turn-allowed task ask (Blobs (blobs.Refused digest code)) earlier = (refl, one-more (faults_of earlier) (calls.BlobRefused digest code))
turn-allowed task ask (Blobs (blobs.BadBlob expected got)) earlier = tt
turn-allowed task ask (Blobs (blobs.InputChanged input)) earlier = tt
turn-allowed task ask (Blobs (blobs.SourceFault path)) earlier = tt
turn-allowed task ask (Blobs blobs.NoMemory) earlier = tt
turn-allowed task ask (Stopped decision) earlier = tt

-- the faults that are listed are those of the history, and one at least
pub call-listed : (task : Task) (history : List Turn) (faults : List CallFault) → next_of task history ≡ failed (causes.CallFailed faults) →
    (faults ≡ faults_of history) × (1 ≤ length (faults_of history))
call-listed task [] faults e = absurd (cc e)
call-listed task (turn ∷ earlier) faults e =
    subst (IfEnded (Allows (faults_of (turn ∷ earlier)))) e (turn-allowed task turn.ask turn.heard earlier)

pub call-faulted : (task : Task) (history : List Turn) (faults : List CallFault) → next_of task history ≡ failed (causes.CallFailed faults) → 1 ≤ length (faults_of history)
call-faulted task history faults e = (call-listed task history faults e).1

-- so an end for calls that failed lists one fault at least
pub end-lists : (task : Task) (history : List Turn) (end : AnyEnd Outcome RemoteCause) → next_of task history ≡ End end → IsEndOf ListsFault end
end-lists task history (ends.Done outcome origin) e = tt
end-lists task history (ends.Failed (causes.CallFailed faults)) e =
    let listed = call-listed task history faults e in subst (λ (all : List CallFault). 1 ≤ length all) (sym listed.0) listed.1
end-lists task history (ends.Failed (causes.BadBlob expected got)) e = tt
end-lists task history (ends.Failed (causes.BadResult fault)) e = tt
end-lists task history (ends.Failed causes.OperationsSpent) e = tt
end-lists task history (ends.Failed (causes.Stopped decision)) e = tt
end-lists task history (ends.Failed (causes.InputChanged input)) e = tt
end-lists task history (ends.Failed (causes.WrongVersion low high)) e = tt
end-lists task history (ends.Failed (causes.SourceFault path)) e = tt
end-lists task history (ends.Failed causes.NoMemory) e = tt
