-- An attempt ends for a cause that isn't the farm's only where what was heard last names it.
use Rattle.std.proofs.Common.{◌≡◌, ◌==◌, List, [], ◌∷◌, Option, None, Some, length, refl, subst}
use Rattle.rx_base.specs.declared.digests.Digest.{Digest}
use Rattle.rx_messages.specs.declared.results.ActionResult.{ActionResult}
use Rattle.rx_world.specs.declared.attempts.End.{End as AnyEnd}
use Rattle.rx_world.specs.declared.attempts.Origin.{Origin}
use Rattle.rx_world.specs.declared.attempts.Origin.TheVariants as origins
use Rattle.rx_world.specs.declared.commands.Command.{Command}
use Rattle.rx_world.specs.declared.decisions.Decision.{Decision}
use Rattle.rx_world.specs.declared.outcomes.Outcome.{Outcome}
use Rattle.rx_world.specs.declared.remote_causes.RemoteCause.{RemoteCause}
use Rattle.rx_world.specs.declared.remote_causes.RemoteCause.TheVariants as causes
use Rattle.rx_world.specs.declared.remote_causes.ResultFault.{ResultFault}
use Rattle.rx_world.specs.declared.remote_causes.ResultFault.TheVariants.{NoResult}
use Rattle.rx_exec_messages.specs.declared.executions.ExecuteResponse.{ExecuteResponse}
use Rattle.rx_results.specs.declared.slots.DigestMismatch.{DigestMismatch}
use Rattle.rx_results.specs.Results.{fault_of, spoiled_of, wanted_of}
use Rattle.rx_blobs.specs.declared.blob_fault.BlobFault.{BlobFault}
use Rattle.rx_blobs.specs.declared.blob_fault.BlobFault.TheVariants as blobs
use Rattle.rx_remote.specs.declared.asks.Ask.{Ask}
use Rattle.rx_remote.specs.declared.asks.Ask.TheVariants.{Capabilities, End, Execute, Fetch, GetResult, NextOperation, Upload, Wait}
use Rattle.rx_remote.specs.declared.asks.Heard.{Heard}
use Rattle.rx_remote.specs.declared.asks.Heard.TheVariants.{Begun, Blobs, Cached, Fault, Fetched, Next, Over, Stopped, Told, Uploaded}
use Rattle.rx_remote.specs.declared.marks.Found.{Found}
use Rattle.rx_remote.specs.declared.marks.Marks.{Marks}
use Rattle.rx_remote.specs.declared.tasks.Task.{Task}
use Rattle.rx_remote.specs.Ends.{end_in, stop_heard}
use Rattle.rx_remote.specs.Fine.{IfEnded}
use Rattle.rx_remote.specs.History.{after_cached, after_next, after_response, blamed_on, done, failed, judged, next_of, unless_blamed}
use Rattle.rx_remote.specs.Marks.{Turn, found_as, found_of, marks_of, origin_of, phase_of}
use Rattle.rx_remote.specs.Reading.{BlobsGive, HeardGives}
use Rattle.rx_remote.proofs.PlainEnds.{IsPlain, blobs-ends, either-ends, fault-ends, finished-ends, over-ends, range-ends, spent-ends}

-- every cause that is the farm's may come
pub record IsFarms (P : RemoteCause → Type 0) : Type 0 where
  pub plain : IsPlain P
  pub result : (fault : ResultFault) → P (causes.BadResult fault)
  pub blob : (expected got : Digest) → P (causes.BadBlob expected got)

blamed-ends : (P : RemoteCause → Type 0) → IsFarms P → (fault : Option ResultFault) (bad : Option DigestMismatch) (found : Found) →
    IfEnded P (unless_blamed found (blamed_on fault bad))
blamed-ends P farms (Some fault) bad found = farms.result fault
blamed-ends P farms None (Some bad) found = farms.blob bad.expected bad.got
blamed-ends P farms None None found =
    either-ends P (length (wanted_of found.reading.command found.reading.result) == 0) (done found []) (Fetch (wanted_of found.reading.command found.reading.result)) tt tt

judged-ends : (P : RemoteCause → Type 0) → IsFarms P → (command : Command) (result : ActionResult) (origin : Origin) → IfEnded P (judged command result origin)
unfolding judged
judged-ends P farms command result origin = blamed-ends P farms (fault_of command result) (spoiled_of command result) (found_as command origin result)

cached-ends : (P : RemoteCause → Type 0) → IsFarms P → (task : Task) (result : Option ActionResult) → IfEnded P (after_cached task result)
cached-ends P farms task None = tt
cached-ends P farms task (Some result) = judged-ends P farms task.command result origins.Cache

response-ends : (P : RemoteCause → Type 0) → IsFarms P → (task : Task) (origin : Origin) (result : Option ActionResult) → IfEnded P (after_response task origin result)
response-ends P farms task origin None = farms.result NoResult
response-ends P farms task origin (Some result) = judged-ends P farms task.command result origin

next-ends : (P : RemoteCause → Type 0) → IsFarms P → (task : Task) (marks : Marks) (state : Option ExecuteResponse) → IfEnded P (after_next task marks state)
next-ends P farms task marks None = spent-ends P farms.plain marks
next-ends P farms task marks (Some response) = response-ends P farms task (origin_of response.cached_result) response.result

-- a cause of any end is the farm's, or the one that was heard last
pub heard-ends : (P : RemoteCause → Type 0) → IsFarms P → (task : Task) (ask : Ask) (heard : Heard) (earlier : List Turn) → HeardGives P heard →
    IfEnded P (next_of task (record { ask = ask; heard = heard } ∷ earlier))
heard-ends P farms task ask (Told told) earlier given = range-ends P farms.plain task.accept_cached told.low told.high
heard-ends P farms task ask (Cached result) earlier given = cached-ends P farms task result
heard-ends P farms task ask (Uploaded left_out) earlier given = tt
heard-ends P farms task ask Begun earlier given = tt
heard-ends P farms task ask (Next operation) earlier given =
    next-ends P farms task (marks_of task.command (record { ask = ask; heard = Next operation } ∷ earlier)) operation.done
heard-ends P farms task ask (Fetched texts) earlier given = finished-ends P farms.plain (found_of task.command earlier) texts
heard-ends P farms task ask (Fault fault) earlier given =
    fault-ends P farms.plain task (marks_of task.command (record { ask = ask; heard = Fault fault } ∷ earlier)) (phase_of ask) fault
heard-ends P farms task ask (Over code) earlier given = over-ends P farms.plain task (marks_of task.command (record { ask = ask; heard = Over code } ∷ earlier)) code
heard-ends P farms task ask (Blobs fault) earlier given =
    blobs-ends P farms.plain task (marks_of task.command (record { ask = ask; heard = Blobs fault } ∷ earlier)) (phase_of ask) fault given
heard-ends P farms task ask (Stopped decision) earlier given = given

-- ---- a stop

-- any cause but a stop, or this stop
abbrev IsStopOf : Option Decision → RemoteCause → Type 0
IsStopOf told (causes.Stopped decision) = told ≡ Some decision
IsStopOf told (causes.BadResult fault) = Unit {0}
IsStopOf told (causes.BadBlob expected got) = Unit {0}
IsStopOf told (causes.CallFailed faults) = Unit {0}
IsStopOf told causes.OperationsSpent = Unit {0}
IsStopOf told (causes.InputChanged input) = Unit {0}
IsStopOf told (causes.WrongVersion low high) = Unit {0}
IsStopOf told (causes.SourceFault path) = Unit {0}
IsStopOf told causes.NoMemory = Unit {0}

stops : (told : Option Decision) → IsFarms (IsStopOf told)
stops told = record {
  plain = record { version = λ low high. tt; spent = tt; calls = λ faults. tt; memory = tt };
  result = λ fault. tt;
  blob = λ expected got. tt;
}

blobs-stop : (told : Option Decision) (fault : BlobFault) → BlobsGive (IsStopOf told) fault
blobs-stop told (blobs.BadBlob expected got) = tt
blobs-stop told (blobs.Call fault) = tt
blobs-stop told (blobs.Missing digest) = tt
blobs-stop told (blobs.Refused digest code) = tt
blobs-stop told (blobs.InputChanged input) = tt
blobs-stop told (blobs.SourceFault path) = tt
blobs-stop told blobs.NoMemory = tt

heard-stop : (heard : Heard) → HeardGives (IsStopOf (stop_heard heard)) heard
heard-stop (Stopped decision) = refl
heard-stop (Blobs fault) = blobs-stop None fault
heard-stop (Told told) = tt
heard-stop (Cached result) = tt
heard-stop (Uploaded left_out) = tt
heard-stop Begun = tt
heard-stop (Next operation) = tt
heard-stop (Fetched texts) = tt
heard-stop (Fault fault) = tt
heard-stop (Over code) = tt

-- The decision of a stop is the one that was heard last.
pub stop-heard : (task : Task) (ask : Ask) (heard : Heard) (earlier : List Turn) (decision : Decision) →
    next_of task (record { ask = ask; heard = heard } ∷ earlier) ≡ failed (causes.Stopped decision) → stop_heard heard ≡ Some decision
stop-heard task ask heard earlier decision e =
    subst (IfEnded (IsStopOf (stop_heard heard))) e (heard-ends (IsStopOf (stop_heard heard)) (stops (stop_heard heard)) task ask heard earlier (heard-stop heard))

-- the ask is the end that it has
pub end-is : (ask : Ask) (end : AnyEnd Outcome RemoteCause) → end_in ask ≡ Some end → ask ≡ End end
end-is (End made) end e = cc
end-is Capabilities end e = cc
end-is GetResult end e = cc
end-is (Upload fresh) end e = cc
end-is (Execute skip_cache) end e = cc
end-is NextOperation end e = cc
end-is (Wait name) end e = cc
end-is (Fetch digests) end e = cc
