-- Which turns leave the next operation, which a wait, and which the farm's capabilities.
use Rattle.std.proofs.Common.{◌≡◌, ◌≢◌, ◌⊎◌, ◌∙◌, ℕ, ◌==◌, Bool, true, false, cond, List, [], ◌∷◌, Option, None, Some, length, refl, sym, subst, inl, inr}
use Rattle.std.specs.Prelude.{nat_lt}
use Rattle.rx_base.specs.declared.digests.Digest.{Digest}
use Rattle.rx_messages.specs.declared.results.ActionResult.{ActionResult}
use Rattle.rx_world.specs.declared.attempts.Origin.{Origin}
use Rattle.rx_world.specs.declared.attempts.Origin.TheVariants as origins
use Rattle.rx_world.specs.declared.attempts.End.{End as AnyEnd}
use Rattle.rx_world.specs.declared.attempts.End.TheVariants as ends
use Rattle.rx_world.specs.declared.call_faults.CallFault.{CallFault}
use Rattle.rx_world.specs.declared.commands.Command.{Command}
use Rattle.rx_world.specs.declared.remote_causes.RemoteCause.{RemoteCause}
use Rattle.rx_world.specs.declared.remote_causes.RemoteCause.TheVariants as causes
use Rattle.rx_world.specs.declared.outcomes.Outcome.{Outcome}
use Rattle.rx_world.specs.declared.remote_causes.ResultFault.TheVariants.{NoResult}
use Rattle.rx_world.specs.declared.versions.SemVer.{SemVer}
use Rattle.rx_exec_messages.specs.declared.answers.Capabilities.{Capabilities as FarmCapabilities}
use Rattle.rx_exec_messages.specs.declared.executions.ExecuteResponse.{ExecuteResponse}
use Rattle.rx_results.specs.Outcomes.{outcome_of}
use Rattle.rx_results.specs.Results.{wanted_of}
use Rattle.rx_blobs.specs.declared.blob_fault.BlobFault.{BlobFault}
use Rattle.rx_blobs.specs.declared.blob_fault.BlobFault.TheVariants as blobs
use Rattle.rx_remote.specs.declared.asks.Ask.{Ask}
use Rattle.rx_remote.specs.declared.asks.Ask.TheVariants.{Capabilities, End, Execute, Fetch, GetResult, NextOperation, Upload, Wait}
use Rattle.rx_remote.specs.declared.asks.Heard.{Heard}
use Rattle.rx_remote.specs.declared.asks.Heard.TheVariants.{Begun, Blobs, Cached, Fault, Fetched, Next, Over, Stopped, Told, Uploaded}
use Rattle.rx_remote.specs.declared.marks.Found.{Found}
use Rattle.rx_remote.specs.declared.marks.Marks.{Marks}
use Rattle.rx_remote.specs.declared.phases.Phase.{Phase}
use Rattle.rx_remote.specs.declared.phases.Phase.TheVariants as phases
use Rattle.rx_remote.specs.declared.tasks.Task.{Task}
use Rattle.rx_remote.specs.Faults.{has_code, is_no_memory, lacked_blobs}
use Rattle.rx_remote.specs.History.{after_blobs, after_cached, after_fault, after_missing, after_next, after_over, after_range, after_response, again, asks_again, blamed, by_name, counts_as_miss, done, excludes, failed, fetch_again, finished, first_ask, judged, most_waits, next_of, run_again, runs_again, skips, unless_asked_again, unless_blamed}
use Rattle.rx_remote.specs.Marks.{Turn, found_as, found_of, marks_of, name_of, origin_of, phase_of}
use Rattle.rx_remote.specs.Turns.{IsLater, IsOther, IsUnderWay}

-- ---- asks that most turns may leave

-- what results, versions and blobs lead to
pub record Allows (P : Ask → Type 0) : Type 0 where
  pub ends : (end : AnyEnd Outcome RemoteCause) → P (End end)
  pub get : P GetResult
  pub upload : (fresh : Bool) → P (Upload fresh)
  pub execute : (skip_cache : Bool) → P (Execute skip_cache)
  pub fetch : (digests : List Digest) → P (Fetch digests)

pub either-left : (P : Ask → Type 0) (b : Bool) (x y : Ask) → P x → P y → P (cond b x y)
either-left P true x y f g = f
either-left P false x y f g = g

fails : (P : Ask → Type 0) → Allows P → (cause : RemoteCause) → P (failed cause)
fails P allows cause = allows.ends (ends.Failed cause)

first-left : (P : Ask → Type 0) → Allows P → (accepts : Bool) → P (first_ask accepts)
first-left P allows true = allows.get
first-left P allows false = allows.upload false

range-left : (P : Ask → Type 0) → Allows P → (accepts : Bool) (low high : Option SemVer) → P (after_range accepts low high)
range-left P allows accepts (Some low) (Some high) =
    either-left P (excludes low high) (failed (causes.WrongVersion low high)) (first_ask accepts) (fails P allows (causes.WrongVersion low high)) (first-left P allows accepts)
range-left P allows accepts None high = first-left P allows accepts
range-left P allows accepts (Some low) None = first-left P allows accepts

blamed-left : (P : Ask → Type 0) → Allows P → (found : Found) (cause : Option RemoteCause) → P (unless_blamed found cause)
blamed-left P allows found (Some cause) = fails P allows cause
blamed-left P allows found None =
    let digests = wanted_of found.reading.command found.reading.result in
    either-left P (length digests == 0) (done found []) (Fetch digests)
    (allows.ends (ends.Done (outcome_of found.reading.command found.reading.result []) found.origin)) (allows.fetch digests)

judged-left : (P : Ask → Type 0) → Allows P → (command : Command) (result : ActionResult) (origin : Origin) → P (judged command result origin)
unfolding judged
judged-left P allows command result origin = blamed-left P allows (found_as command origin result) (blamed command result)

cached-left : (P : Ask → Type 0) → Allows P → (task : Task) (result : Option ActionResult) → P (after_cached task result)
cached-left P allows task None = allows.upload false
cached-left P allows task (Some result) = judged-left P allows task.command result origins.Cache

response-left : (P : Ask → Type 0) → Allows P → (task : Task) (origin : Origin) (result : Option ActionResult) → P (after_response task origin result)
response-left P allows task origin None = fails P allows (causes.BadResult NoResult)
response-left P allows task origin (Some result) = judged-left P allows task.command result origin

finished-left : (P : Ask → Type 0) → Allows P → (found : Option Found) (texts : List (List ℕ)) → P (finished found texts)
finished-left P allows None texts = fails P allows causes.NoMemory
finished-left P allows (Some f) texts = allows.ends (ends.Done (outcome_of f.reading.command f.reading.result texts) f.origin)

refetch-left : (P : Ask → Type 0) → Allows P → (found : Option Found) → P (fetch_again found)
refetch-left P allows None = allows.fetch []
refetch-left P allows (Some f) = allows.fetch (wanted_of f.reading.command f.reading.result)

missing-left : (P : Ask → Type 0) → Allows P → (marks : Marks) (phase : Phase) → P (after_missing marks phase)
unfolding after_missing
missing-left P allows marks phase =
    either-left P (counts_as_miss marks phase) (Upload false) (failed (causes.CallFailed marks.faults)) (allows.upload false) (fails P allows (causes.CallFailed marks.faults))

over-left : (P : Ask → Type 0) → Allows P → (task : Task) (marks : Marks) (code : ℕ) → P (after_over task marks code)
unfolding after_over
over-left P allows task marks code =
    either-left P (runs_again marks code) (run_again task marks code) (failed (causes.CallFailed marks.faults))
    (either-left P (lacked_blobs code) (Upload true) (Execute (skips task marks)) (allows.upload true) (allows.execute (skips task marks)))
    (fails P allows (causes.CallFailed marks.faults))

-- ---- which turns leave the next operation, and a wait

other : Allows IsOther
other = record { ends = λ end. tt; get = tt; upload = λ fresh. tt; execute = λ skip. tt; fetch = λ digests. tt }

-- another ask, or by the name
abbrev ByName : Task → Marks → Ask → Type 0
ByName task marks ask = IsOther ask ⊎ (ask ≡ by_name task marks marks.name)

either-name : (task : Task) (marks : Marks) (b : Bool) (x y : Ask) → ByName task marks x → ByName task marks y → ByName task marks (cond b x y)
either-name task marks true x y f g = f
either-name task marks false x y f g = g

again-name : (task : Task) (marks : Marks) (phase : Phase) (fault : CallFault) → ByName task marks (again task marks phase fault)
again-name task marks phases.Capabilities fault = inl tt
again-name task marks phases.GetResult fault = inl tt
again-name task marks (phases.Upload fresh) fault = inl tt
again-name task marks phases.Execute fault = inl (either-left IsOther (has_code 9 fault) (Upload true) (Execute (skips task marks)) tt tt)
again-name task marks phases.NextOperation fault = either-name task marks (has_code 9 fault) (Upload true) (by_name task marks marks.name) (inl tt) (inr refl)
again-name task marks phases.Wait fault = either-name task marks (has_code 5 fault) (Execute (skips task marks)) (by_name task marks marks.name) (inl tt) (inr refl)
again-name task marks phases.Fetch fault = inl (refetch-left IsOther other marks.found)
again-name task marks phases.Ended fault = inl tt

unless-name : (task : Task) (marks : Marks) (phase : Phase) (fault : CallFault) (b : Bool) → ByName task marks (unless_asked_again task marks phase fault b)
unless-name task marks phase fault true = again-name task marks phase fault
unless-name task marks phase fault false = inl tt

fault-name : (task : Task) (marks : Marks) (phase : Phase) (fault : CallFault) → ByName task marks (after_fault task marks phase fault)
unfolding after_fault
fault-name task marks phase fault =
    either-name task marks (is_no_memory fault) (failed causes.NoMemory) (unless_asked_again task marks phase fault (asks_again marks phase fault)) (inl tt)
    (unless-name task marks phase fault (asks_again marks phase fault))

blobs-name : (task : Task) (marks : Marks) (phase : Phase) (fault : BlobFault) → ByName task marks (after_blobs task marks phase fault)
blobs-name task marks phase (blobs.Call fault) = fault-name task marks phase fault
blobs-name task marks phase (blobs.Missing digest) = inl (missing-left IsOther other marks phase)
blobs-name task marks phase (blobs.Refused digest code) = inl tt
blobs-name task marks phase (blobs.BadBlob expected got) = inl tt
blobs-name task marks phase (blobs.InputChanged input) = inl tt
blobs-name task marks phase (blobs.SourceFault path) = inl tt
blobs-name task marks phase blobs.NoMemory = inl tt

-- each turn: an operation is under way, or the ask is another one or by the last name
abbrev Leaves : Task → Ask → Heard → List Turn → Type 0
Leaves task ask heard earlier =
    (IsUnderWay heard × (next_of task (record { ask = ask; heard = heard } ∷ earlier) ≡ NextOperation))
    ⊎ ByName task (marks_of task.command (record { ask = ask; heard = heard } ∷ earlier)) (next_of task (record { ask = ask; heard = heard } ∷ earlier))

abbrev IsNotDone : Option ExecuteResponse → Type 0
IsNotDone done = done ≡ None

next-leaves : (task : Task) (marks : Marks) (done : Option ExecuteResponse) → ((done ≡ None) × (after_next task marks done ≡ NextOperation)) ⊎ ByName task marks (after_next task marks done)
next-leaves task marks None =
    elim (nat_lt marks.waits most_waits) as (λ b. (IsNotDone None × (cond b NextOperation (failed causes.OperationsSpent) ≡ NextOperation)) ⊎ ByName task marks (cond b NextOperation (failed causes.OperationsSpent))) [
      | true ↦ inl (refl, refl)
      | false ↦ inr (inl tt)
    ]
next-leaves task marks (Some response) = inr (inl (response-left IsOther other task (origin_of response.cached_result) response.result))

turn-leaves : (task : Task) (ask : Ask) (heard : Heard) (earlier : List Turn) → Leaves task ask heard earlier
turn-leaves task ask (Told told) earlier = inr (inl (range-left IsOther other task.accept_cached told.low told.high))
turn-leaves task ask (Cached result) earlier = inr (inl (cached-left IsOther other task result))
turn-leaves task ask (Uploaded left_out) earlier = inr (inl tt)
turn-leaves task ask Begun earlier = inl (tt, refl)
turn-leaves task ask (Next operation) earlier = next-leaves task (marks_of task.command (record { ask = ask; heard = Next operation } ∷ earlier)) operation.done
turn-leaves task ask (Fetched texts) earlier = inr (inl (finished-left IsOther other (found_of task.command earlier) texts))
turn-leaves task ask (Fault fault) earlier = inr (fault-name task (marks_of task.command (record { ask = ask; heard = Fault fault } ∷ earlier)) (phase_of ask) fault)
turn-leaves task ask (Over code) earlier = inr (inl (over-left IsOther other task (marks_of task.command (record { ask = ask; heard = Over code } ∷ earlier)) code))
turn-leaves task ask (Blobs fault) earlier = inr (blobs-name task (marks_of task.command (record { ask = ask; heard = Blobs fault } ∷ earlier)) (phase_of ask) fault)
turn-leaves task ask (Stopped decision) earlier = inr (inl tt)

no_next : (task : Task) (marks : Marks) (name : List ℕ) → by_name task marks name ≡ NextOperation → ⊥
no_next task marks [] e = cc e
no_next task marks (byte ∷ bytes) e = cc e

waits-by : (task : Task) (marks : Marks) (name other : List ℕ) → by_name task marks name ≡ Wait other → (other ≡ name) × (name ≢ [])
waits-by task marks [] other e = absurd (cc e)
waits-by task marks (byte ∷ bytes) other e = (cc e, λ f. cc f)

pub under-way : (task : Task) (ask : Ask) (heard : Heard) (earlier : List Turn) → next_of task (record { ask = ask; heard = heard } ∷ earlier) ≡ NextOperation → IsUnderWay heard
under-way task ask heard earlier e =
    elim (turn-leaves task ask heard earlier) [
      | inl going ↦ going.0
      | inr other ↦ elim other [
        | inl plain ↦ absurd (subst IsOther e plain)
        | inr named ↦ absurd (no_next task (marks_of task.command (record { ask = ask; heard = heard } ∷ earlier)) (name_of (record { ask = ask; heard = heard } ∷ earlier)) (sym named ∙ e))
      ]
    ]

-- A wait has the last name that was heard.
pub waits-for : (task : Task) (history : List Turn) (name : List ℕ) → next_of task history ≡ Wait name → (name ≡ name_of history) × (name_of history ≢ [])
waits-for task [] name e = absurd (cc e)
waits-for task (turn ∷ earlier) name e =
    elim (turn-leaves task turn.ask turn.heard earlier) [
      | inl going ↦ absurd (cc (sym going.1 ∙ e))
      | inr other ↦ elim other [
        | inl plain ↦ absurd (subst IsOther e plain)
        | inr named ↦ waits-by task (marks_of task.command (turn ∷ earlier)) (name_of (turn ∷ earlier)) name (sym named ∙ e)
      ]
    ]

-- ---- the farm's capabilities are asked for before all else, and not again once it told them

later : Allows IsLater
later = record { ends = λ end. tt; get = tt; upload = λ fresh. tt; execute = λ skip. tt; fetch = λ digests. tt }

name-later : (task : Task) (marks : Marks) (name : List ℕ) → IsLater (by_name task marks name)
name-later task marks [] = tt
name-later task marks (byte ∷ bytes) = tt

again-later : (task : Task) (marks : Marks) (ask : Ask) (fault : CallFault) → IsLater ask → IsLater (again task marks (phase_of ask) fault)
again-later task marks Capabilities fault l = absurd l
again-later task marks GetResult fault l = tt
again-later task marks (Upload fresh) fault l = tt
again-later task marks (Execute skip) fault l = either-left IsLater (has_code 9 fault) (Upload true) (Execute (skips task marks)) tt tt
again-later task marks NextOperation fault l =
    either-left IsLater (has_code 9 fault) (Upload true) (by_name task marks marks.name) tt (name-later task marks marks.name)
again-later task marks (Wait name) fault l =
    either-left IsLater (has_code 5 fault) (Execute (skips task marks)) (by_name task marks marks.name) tt (name-later task marks marks.name)
again-later task marks (Fetch digests) fault l = refetch-left IsLater later marks.found
again-later task marks (End end) fault l = tt

unless-later : (task : Task) (marks : Marks) (ask : Ask) (fault : CallFault) (b : Bool) → IsLater ask → IsLater (unless_asked_again task marks (phase_of ask) fault b)
unless-later task marks ask fault true l = again-later task marks ask fault l
unless-later task marks ask fault false l = tt

fault-later : (task : Task) (marks : Marks) (ask : Ask) (fault : CallFault) → IsLater ask → IsLater (after_fault task marks (phase_of ask) fault)
unfolding after_fault
fault-later task marks ask fault l =
    either-left IsLater (is_no_memory fault) (failed causes.NoMemory) (unless_asked_again task marks (phase_of ask) fault (asks_again marks (phase_of ask) fault)) tt
    (unless-later task marks ask fault (asks_again marks (phase_of ask) fault) l)

blobs-later : (task : Task) (marks : Marks) (ask : Ask) (fault : BlobFault) → IsLater ask → IsLater (after_blobs task marks (phase_of ask) fault)
blobs-later task marks ask (blobs.Call fault) l = fault-later task marks ask fault l
blobs-later task marks ask (blobs.Missing digest) l = missing-left IsLater later marks (phase_of ask)
blobs-later task marks ask (blobs.Refused digest code) l = tt
blobs-later task marks ask (blobs.BadBlob expected got) l = tt
blobs-later task marks ask (blobs.InputChanged input) l = tt
blobs-later task marks ask (blobs.SourceFault path) l = tt
blobs-later task marks ask blobs.NoMemory l = tt

next-later : (task : Task) (marks : Marks) (done : Option ExecuteResponse) → IsLater (after_next task marks done)
next-later task marks None = either-left IsLater (nat_lt marks.waits most_waits) NextOperation (failed causes.OperationsSpent) tt tt
next-later task marks (Some response) = response-left IsLater later task (origin_of response.cached_result) response.result

-- after another ask
pub turn-later : (task : Task) (ask : Ask) (heard : Heard) (earlier : List Turn) → IsLater ask → IsLater (next_of task (record { ask = ask; heard = heard } ∷ earlier))
turn-later task ask (Told told) earlier l = range-left IsLater later task.accept_cached told.low told.high
turn-later task ask (Cached result) earlier l = cached-left IsLater later task result
turn-later task ask (Uploaded left_out) earlier l = tt
turn-later task ask Begun earlier l = tt
turn-later task ask (Next operation) earlier l = next-later task (marks_of task.command (record { ask = ask; heard = Next operation } ∷ earlier)) operation.done
turn-later task ask (Fetched texts) earlier l = finished-left IsLater later (found_of task.command earlier) texts
turn-later task ask (Fault fault) earlier l = fault-later task (marks_of task.command (record { ask = ask; heard = Fault fault } ∷ earlier)) ask fault l
turn-later task ask (Over code) earlier l = over-left IsLater later task (marks_of task.command (record { ask = ask; heard = Over code } ∷ earlier)) code
turn-later task ask (Blobs fault) earlier l = blobs-later task (marks_of task.command (record { ask = ask; heard = Blobs fault } ∷ earlier)) ask fault l
turn-later task ask (Stopped decision) earlier l = tt

-- after the farm told them
pub told-later : (task : Task) (told : FarmCapabilities) → IsLater (after_range task.accept_cached told.low told.high)
told-later task told = range-left IsLater later task.accept_cached told.low told.high
