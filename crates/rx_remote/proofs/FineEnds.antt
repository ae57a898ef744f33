-- In an honest history no result and no blob is blamed.
use Rattle.std.proofs.Common.{ℕ, ◌==◌, List, [], ◌∷◌, Option, None, Some, length}
use Rattle.std.specs.Prelude.{IfSome}
use Rattle.rx_base.specs.declared.digests.Digest.{Digest}
use Rattle.rx_messages.specs.declared.results.ActionResult.{ActionResult}
use Rattle.rx_world.specs.declared.attempts.Origin.{Origin}
use Rattle.rx_world.specs.declared.attempts.Origin.TheVariants as origins
use Rattle.rx_world.specs.declared.commands.Command.{Command}
use Rattle.rx_world.specs.declared.outcomes.Outcome.{Outcome}
use Rattle.rx_exec_messages.specs.declared.executions.ExecuteResponse.{ExecuteResponse}
use Rattle.rx_results.specs.Agreement.{Agrees}
use Rattle.rx_results.specs.Results.{wanted_of}
use Rattle.rx_blobs.specs.declared.blob_fault.BlobFault.{BlobFault}
use Rattle.rx_blobs.specs.declared.blob_fault.BlobFault.TheVariants as blobs
use Rattle.rx_blobs.specs.Faults.{IsBadBlob}
use Rattle.rx_remote.specs.declared.asks.Ask.{Ask}
use Rattle.rx_remote.specs.declared.asks.Ask.TheVariants.{Fetch}
use Rattle.rx_remote.specs.declared.asks.Heard.{Heard}
use Rattle.rx_remote.specs.declared.asks.Heard.TheVariants.{Begun, Blobs, Cached, Fault, Fetched, Next, Over, Stopped, Told, Uploaded}
use Rattle.rx_remote.specs.declared.marks.Marks.{Marks}
use Rattle.rx_remote.specs.declared.tasks.Task.{Task}
use Rattle.rx_remote.specs.Fine.{IsFine}
use Rattle.rx_remote.specs.History.{after_cached, after_next, after_response, done, judged, next_of}
use Rattle.rx_remote.specs.Honest.{HasAgreed, IsHonestDone, IsHonestHeard, IsHonestHistory}
use Rattle.rx_remote.specs.Marks.{Turn, found_as, found_of, marks_of, origin_of, phase_of}
use Rattle.rx_results.proofs.AgreementLemmas.{agrees-unspoiled}
use Rattle.rx_remote.specs.Fine.{IsFineCause}
use Rattle.rx_remote.specs.Reading.{BlobsGive}
use Rattle.rx_remote.proofs.PlainEnds.{IsPlain, blobs-ends, either-ends, fault-ends, finished-ends, over-ends, range-ends, spent-ends}

plain : IsPlain IsFineCause
plain = record {
  version = λ low high. tt;
  spent = tt;
  calls = λ faults. tt;
  memory = tt;
}

judged-fine : (blob : Digest → List ℕ) (command : Command) (outcome : Outcome) (result : ActionResult) (origin : Origin) → Agrees blob command outcome result →
    IsFine (judged command result origin)
unfolding judged
judged-fine blob command outcome result origin a =
    rw (a.sound, agrees-unspoiled blob command outcome result a)
    (either-ends IsFineCause (length (wanted_of command result) == 0) (done (found_as command origin result) []) (Fetch (wanted_of command result)) tt tt)

cached-fine : (blob : Digest → List ℕ) (task : Task) (outcome : Outcome) (result : Option ActionResult) → IfSome result (Agrees blob task.command outcome) →
    IsFine (after_cached task result)
cached-fine blob task outcome None a = tt
cached-fine blob task outcome (Some result) a = judged-fine blob task.command outcome result origins.Cache a

response-fine : (blob : Digest → List ℕ) (task : Task) (outcome : Outcome) (origin : Origin) (result : Option ActionResult) →
    HasAgreed blob task.command outcome result → IsFine (after_response task origin result)
response-fine blob task outcome origin None a = absurd a
response-fine blob task outcome origin (Some result) a = judged-fine blob task.command outcome result origin a

next-fine : (blob : Digest → List ℕ) (task : Task) (marks : Marks) (outcome : Outcome) (state : Option ExecuteResponse) →
    IsHonestDone blob task.command outcome state → IsFine (after_next task marks state)
next-fine blob task marks outcome None a = spent-ends IsFineCause plain marks
next-fine blob task marks outcome (Some response) a = response-fine blob task outcome (origin_of response.cached_result) response.result a

fine-blobs : (fault : BlobFault) → (IsBadBlob fault → ⊥) → BlobsGive IsFineCause fault
fine-blobs (blobs.BadBlob expected got) good = good tt
fine-blobs (blobs.Call fault) good = tt
fine-blobs (blobs.Missing digest) good = tt
fine-blobs (blobs.Refused digest code) good = tt
fine-blobs (blobs.InputChanged input) good = tt
fine-blobs (blobs.SourceFault path) good = tt
fine-blobs blobs.NoMemory good = tt

turn-fine : (blob : Digest → List ℕ) (task : Task) (outcome : Outcome) (ask : Ask) (heard : Heard) (earlier : List Turn) →
    IsHonestHeard blob task.command outcome ask heard → IsFine (next_of task (record { ask = ask; heard = heard } ∷ earlier))
turn-fine blob task outcome ask (Told told) earlier h = range-ends IsFineCause plain task.accept_cached told.low told.high
turn-fine blob task outcome ask (Cached result) earlier h = cached-fine blob task outcome result h
turn-fine blob task outcome ask (Uploaded left_out) earlier h = tt
turn-fine blob task outcome ask Begun earlier h = tt
turn-fine blob task outcome ask (Next operation) earlier h =
    next-fine blob task (marks_of task.command (record { ask = ask; heard = Next operation } ∷ earlier)) outcome operation.done h
turn-fine blob task outcome ask (Fetched texts) earlier h = finished-ends IsFineCause plain (found_of task.command earlier) texts
turn-fine blob task outcome ask (Fault fault) earlier h =
    fault-ends IsFineCause plain task (marks_of task.command (record { ask = ask; heard = Fault fault } ∷ earlier)) (phase_of ask) fault
turn-fine blob task outcome ask (Over code) earlier h = over-ends IsFineCause plain task (marks_of task.command (record { ask = ask; heard = Over code } ∷ earlier)) code
turn-fine blob task outcome ask (Blobs fault) earlier h =
    blobs-ends IsFineCause plain task (marks_of task.command (record { ask = ask; heard = Blobs fault } ∷ earlier)) (phase_of ask) fault (fine-blobs fault h)
turn-fine blob task outcome ask (Stopped decision) earlier h = tt

-- In an honest history there is no BadResult and no BadBlob.
pub honest-fine : (blob : Digest → List ℕ) (task : Task) (outcome : Outcome) (history : List Turn) → IsHonestHistory blob task.command outcome history → IsFine (next_of task history)
honest-fine blob task outcome [] h = tt
honest-fine blob task outcome (turn ∷ earlier) h = turn-fine blob task outcome turn.ask turn.heard earlier h.0
