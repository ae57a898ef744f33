-- What the stop of an attempt tells, from ask to ask and to the end.
use Rattle.std.proofs.Common.{◌≡◌, ◌≢◌, ℕ, [], ◌∷◌, List, Option, None, Some, refl, subst, sym}
use Rattle.rx_world.specs.declared.attempts.End.{End as AnyEnd}
use Rattle.rx_world.specs.declared.attempts.End.TheVariants as ends
use Rattle.rx_world.specs.declared.decisions.Decision.{Decision}
use Rattle.rx_world.specs.declared.input_files.InputFile.{InputFile}
use Rattle.rx_world.specs.declared.outcomes.Outcome.{Outcome}
use Rattle.rx_world.specs.declared.remote_causes.RemoteCause.{RemoteCause}
use Rattle.rx_world.specs.declared.remote_causes.RemoteCause.TheVariants as causes
use Rattle.rx_world.specs.declared.sources.Given.{Given}
use Rattle.rx_blobs.specs.declared.blob_fault.BlobFault.{BlobFault}
use Rattle.rx_blobs.specs.declared.blob_fault.BlobFault.TheVariants as blobs
use Rattle.rx_remote.specs.declared.asks.Ask.{Ask}
use Rattle.rx_remote.specs.declared.asks.Ask.TheVariants.{End}
use Rattle.rx_remote.specs.declared.asks.Heard.{Heard}
use Rattle.rx_remote.specs.declared.asks.Heard.TheVariants.{Begun, Blobs, Cached, Fault, Fetched, Next, Over, Stopped, Told, Uploaded}
use Rattle.rx_remote.specs.declared.phases.Phase.TheVariants as phases
use Rattle.rx_remote.specs.declared.tasks.Task.{Task}
use Rattle.rx_remote.specs.Ends.{StopTells, StopTellsCause, StopTellsEnd, stop_heard}
use Rattle.rx_remote.specs.Fine.{IfEnded, IsEndOf}
use Rattle.rx_remote.specs.History.{next_of}
use Rattle.rx_remote.specs.Marks.{Turn, phase_of}
use Rattle.rx_remote.specs.Reading.{BlobsGive, HeardGives, IsOwnCause, IsQuiet}
use Rattle.rx_remote.proofs.StopEnds.{IsFarms, heard-ends}

-- ---- what was heard

-- no answer of a farm is a stop
pub never-stop : (files : List InputFile) (answers : List Given) (before now : ℕ) (heard : Heard) → HeardGives (IsOwnCause files answers before now None) heard →
    stop_heard heard ≡ None
never-stop files answers before now (Stopped decision) own = let e : None ≡ Some decision = own.1 in absurd (cc e)
never-stop files answers before now (Told told) own = refl
never-stop files answers before now (Cached result) own = refl
never-stop files answers before now (Uploaded left_out) own = refl
never-stop files answers before now Begun own = refl
never-stop files answers before now (Next operation) own = refl
never-stop files answers before now (Fetched texts) own = refl
never-stop files answers before now (Fault fault) own = refl
never-stop files answers before now (Over code) own = refl
never-stop files answers before now (Blobs fault) own = refl

pub quiet-never : (heard : Heard) → IsQuiet heard → stop_heard heard ≡ None
quiet-never heard quiet = never-stop [] [] 0 0 heard (quiet [] [] 0 0 None)

-- so the stop tells what it told before
pub tells-same : (before now stopped : Option Decision) → stopped ≡ None → now ≡ before → StopTells before now stopped
tells-same before now stopped e same = subst (StopTells before now) (sym e) same

-- memory ran out after an answer that isn't a stop
pub memory-tells : (before now stopped : Option Decision) (end : AnyEnd Outcome RemoteCause) → end ≡ ends.Failed causes.NoMemory → stopped ≡ None →
    StopTells before now stopped → StopTellsEnd before now end
memory-tells before now stopped end e none told = subst (StopTellsEnd before now) (sym e) (subst (StopTells before now) none told)

-- ---- the end

farms-tell : (before now : Option Decision) → now ≡ before → IsFarms (StopTellsCause before now)
farms-tell before now same = record {
  plain = record { version = λ low high. same; spent = same; calls = λ faults. same; memory = same };
  result = λ fault. same;
  blob = λ expected got. same;
}

blobs-tell : (before now : Option Decision) (fault : BlobFault) → now ≡ before → BlobsGive (StopTellsCause before now) fault
blobs-tell before now (blobs.InputChanged input) same = same
blobs-tell before now (blobs.SourceFault path) same = same
blobs-tell before now (blobs.BadBlob expected got) same = same
blobs-tell before now (blobs.Call fault) same = tt
blobs-tell before now (blobs.Missing digest) same = tt
blobs-tell before now (blobs.Refused digest code) same = tt
blobs-tell before now blobs.NoMemory same = tt

ends-tell : (before now : Option Decision) (end : AnyEnd Outcome RemoteCause) → now ≡ before → IsEndOf (StopTellsCause before now) end → StopTellsEnd before now end
ends-tell before now (ends.Done outcome origin) same told = same
ends-tell before now (ends.Failed cause) same told = told

-- an end after an answer that isn't a stop
answer-tells : (before now : Option Decision) (task : Task) (ask : Ask) (heard : Heard) (earlier : List Turn) (end : AnyEnd Outcome RemoteCause) → now ≡ before →
    HeardGives (StopTellsCause before now) heard → next_of task (record { ask = ask; heard = heard } ∷ earlier) ≡ End end → StopTellsEnd before now end
answer-tells before now task ask heard earlier end same given e =
    ends-tell before now end same
    (subst (IfEnded (StopTellsCause before now)) e (heard-ends (StopTellsCause before now) (farms-tell before now same) task ask heard earlier given))

-- the end that what was heard leads to
pub end-tells : (before now : Option Decision) (task : Task) (ask : Ask) (heard : Heard) (earlier : List Turn) (end : AnyEnd Outcome RemoteCause) →
    StopTells before now (stop_heard heard) → next_of task (record { ask = ask; heard = heard } ∷ earlier) ≡ End end → StopTellsEnd before now end
end-tells before now task ask (Stopped decision) earlier end told e =
    let is : end ≡ ends.Failed (causes.Stopped decision) = cc e in subst (StopTellsEnd before now) (sym is) told
end-tells before now task ask (Told told) earlier end same e = answer-tells before now task ask (Told told) earlier end same tt e
end-tells before now task ask (Cached result) earlier end same e = answer-tells before now task ask (Cached result) earlier end same tt e
end-tells before now task ask (Uploaded left_out) earlier end same e = answer-tells before now task ask (Uploaded left_out) earlier end same tt e
end-tells before now task ask Begun earlier end same e = answer-tells before now task ask Begun earlier end same tt e
end-tells before now task ask (Next operation) earlier end same e = answer-tells before now task ask (Next operation) earlier end same tt e
end-tells before now task ask (Fetched texts) earlier end same e = answer-tells before now task ask (Fetched texts) earlier end same tt e
end-tells before now task ask (Fault fault) earlier end same e = answer-tells before now task ask (Fault fault) earlier end same tt e
end-tells before now task ask (Over code) earlier end same e = answer-tells before now task ask (Over code) earlier end same tt e
end-tells before now task ask (Blobs fault) earlier end same e =
    answer-tells before now task ask (Blobs fault) earlier end same (blobs-tell before now fault same) e

-- an attempt that goes on heard no stop
pub on-tells : (before now : Option Decision) (task : Task) (ask : Ask) (heard : Heard) (earlier : List Turn) → StopTells before now (stop_heard heard) →
    phase_of (next_of task (record { ask = ask; heard = heard } ∷ earlier)) ≢ phases.Ended → now ≡ before
on-tells before now task ask (Stopped decision) earlier told on = absurd (on refl)
on-tells before now task ask (Told told) earlier same on = same
on-tells before now task ask (Cached result) earlier same on = same
on-tells before now task ask (Uploaded left_out) earlier same on = same
on-tells before now task ask Begun earlier same on = same
on-tells before now task ask (Next operation) earlier same on = same
on-tells before now task ask (Fetched texts) earlier same on = same
on-tells before now task ask (Fault fault) earlier same on = same
on-tells before now task ask (Over code) earlier same on = same
on-tells before now task ask (Blobs fault) earlier same on = same

-- an end after asks that changed nothing of what the stop tells
pub ends-since : (before between now : Option Decision) (end : AnyEnd Outcome RemoteCause) → between ≡ before → StopTellsEnd between now end → StopTellsEnd before now end
ends-since before between now end e told = subst (λ (b : Option Decision). StopTellsEnd b now end) e told
