-- Each turn that isn't the last lowers what is left of an attempt.
use Rattle.std.proofs.Common.{◌≡◌, ◌≢◌, ◌⊎◌, ◌∙◌, ◌<◌, ◌≤◌, ◌+◌, ◌++◌, ◌&&◌, ℕ, ◌==◌, Bool, true, false, cond, List, [], ◌∷◌, Option, None, Some, length, refl, sym, ap, subst, inl, inr, arith}
use Rattle.std.proofs.lemmas.Bool.{and_parts, ltb-true}
use Rattle.std.specs.Prelude.{nat_lt}
use Rattle.rx_base.specs.declared.digests.Digest.{Digest}
use Rattle.rx_messages.specs.declared.results.ActionResult.{ActionResult}
use Rattle.rx_world.specs.declared.attempts.Origin.{Origin}
use Rattle.rx_world.specs.declared.attempts.Origin.TheVariants as origins
use Rattle.rx_world.specs.declared.call_faults.CallFault.{CallFault}
use Rattle.rx_world.specs.declared.call_faults.CallFault.TheVariants as calls
use Rattle.rx_world.specs.declared.commands.Command.{Command}
use Rattle.rx_world.specs.declared.remote_causes.RemoteCause.{RemoteCause}
use Rattle.rx_world.specs.declared.remote_causes.RemoteCause.TheVariants as causes
use Rattle.rx_world.specs.declared.versions.SemVer.{SemVer}
use Rattle.rx_exec_messages.specs.declared.executions.ExecuteResponse.{ExecuteResponse}
use Rattle.rx_results.specs.Results.{wanted_of}
use Rattle.rx_blobs.specs.declared.blob_fault.BlobFault.TheVariants as blobs
use Rattle.rx_remote.specs.declared.asks.Ask.{Ask}
use Rattle.rx_remote.specs.declared.asks.Ask.TheVariants.{Capabilities, End, Execute, Fetch, GetResult, NextOperation, Upload, Wait}
use Rattle.rx_remote.specs.declared.asks.Heard.{Heard}
use Rattle.rx_remote.specs.declared.asks.Heard.TheVariants.{Begun, Blobs, Cached, Fault, Fetched, Next, Over, Stopped, Told, Uploaded}
use Rattle.rx_remote.specs.declared.marks.Found.{Found}
use Rattle.rx_remote.specs.declared.marks.Marks.{Marks}
use Rattle.rx_remote.specs.declared.phases.Phase.{Phase}
use Rattle.rx_remote.specs.declared.phases.Phase.TheVariants as phases
use Rattle.rx_remote.specs.declared.tasks.Task.{Task}
use Rattle.rx_remote.specs.Faults.{faults_after, is_no_memory, with_fault}
use Rattle.rx_remote.specs.History.{after, after_cached, after_fault, after_missing, after_next, after_over, after_range, after_response, asks_again, blamed, counts_as_miss, done, excludes, failed, finished, first_ask, judged, most_waits, next_of, run_again, runs_again, unless_asked_again, unless_blamed}
use Rattle.rx_remote.specs.Legal.{Fits, IsCall, IsLegal, IsOfBlobs}
use Rattle.rx_remote.specs.Marks.{Turn, faults_of, found_as, marks_after, marks_of, marks_since, one_more, origin_of, phase_of}
use Rattle.rx_remote.specs.Measure.{rank, turns_left}
use Rattle.rx_remote.proofs.CountLemmas.{longer}

-- ---- ranks

rank-most : (phase : Phase) → rank phase ≤ 6
rank-most phases.Capabilities = omega arith
rank-most phases.GetResult = omega arith
rank-most (phases.Upload fresh) = omega arith
rank-most phases.Execute = omega arith
rank-most phases.Wait = omega arith
rank-most phases.NextOperation = omega arith
rank-most phases.Fetch = omega arith
rank-most phases.Ended = omega arith

-- unless it ends, the ask has a rank below this
abbrev RankBelow : ℕ → Ask → Type 0
RankBelow r ask = phase_of ask ≢ phases.Ended → rank (phase_of ask) < r

either-below : (r : ℕ) (b : Bool) (x y : Ask) → RankBelow r x → RankBelow r y → RankBelow r (cond b x y)
either-below r true x y f g = f
either-below r false x y f g = g

first-below : (accepts : Bool) → RankBelow 6 (first_ask accepts)
first-below true on = omega arith
first-below false on = omega arith

range-below : (accepts : Bool) (low high : Option SemVer) → RankBelow 6 (after_range accepts low high)
range-below accepts (Some low) (Some high) = either-below 6 (excludes low high) (failed (causes.WrongVersion low high)) (first_ask accepts) (λ on. absurd (on refl)) (first-below accepts)
range-below accepts None high = first-below accepts
range-below accepts (Some low) None = first-below accepts

wanted-below : (found : Found) → RankBelow 2 (unless_blamed found None)
wanted-below found on =
    let digests = wanted_of found.reading.command found.reading.result in
    either-below 2 (length digests == 0) (done found []) (Fetch digests) (λ on. absurd (on refl)) (λ on. omega arith) on

blamed-below : (found : Found) (cause : Option RemoteCause) → RankBelow 2 (unless_blamed found cause)
blamed-below found (Some cause) on = absurd (on refl)
blamed-below found None on = wanted-below found on

judged-below : (command : Command) (result : ActionResult) (origin : Origin) → RankBelow 2 (judged command result origin)
unfolding judged
judged-below command result origin = blamed-below (found_as command origin result) (blamed command result)

cached-below : (task : Task) (result : Option ActionResult) → RankBelow 5 (after_cached task result)
cached-below task None on = omega arith
cached-below task (Some result) on = let low = judged-below task.command result origins.Cache on in omega arith

response-below : (task : Task) (origin : Origin) (result : Option ActionResult) → RankBelow 2 (after_response task origin result)
response-below task origin None on = absurd (on refl)
response-below task origin (Some result) on = judged-below task.command result origin on

finished-below : (found : Option Found) (texts : List (List ℕ)) → RankBelow 0 (finished found texts)
finished-below None texts on = absurd (on refl)
finished-below (Some f) texts on = absurd (on refl)

-- ---- faults

with-longer : (faults : List CallFault) (fault : CallFault) → is_no_memory fault ≡ false → length (with_fault faults fault) ≡ length faults + 1
with-longer faults calls.NoMemory e = absurd (cc e)
with-longer faults (calls.Status code) e = longer faults (calls.Status code)
with-longer faults calls.Link e = longer faults calls.Link
with-longer faults (calls.Protocol code) e = longer faults (calls.Protocol code)
with-longer faults calls.Compressed e = longer faults calls.Compressed
with-longer faults calls.TooLarge e = longer faults calls.TooLarge
with-longer faults calls.NoStatus e = longer faults calls.NoStatus
with-longer faults (calls.BadMessage at) e = longer faults (calls.BadMessage at)
with-longer faults calls.Cut e = longer faults calls.Cut
with-longer faults (calls.BlobRefused digest code) e = longer faults (calls.BlobRefused digest code)

few : (n : ℕ) (other : Bool) → (nat_lt n 4 && other) ≡ true → n < 4
few n other e = ltb-true n 4 (and_parts (nat_lt n 4) other e).0

unless-few : (task : Task) (marks : Marks) (phase : Phase) (fault : CallFault) (b : Bool) → phase_of (unless_asked_again task marks phase fault b) ≢ phases.Ended → b ≡ true
unless-few task marks phase fault true on = refl
unless-few task marks phase fault false on = absurd (on refl)

-- unless it ends, the fault is one that stands in the list, which is shorter than four
abbrev HasFew : Marks → CallFault → Type 0
HasFew marks fault = (is_no_memory fault ≡ false) × (length marks.faults < 4)

memory-few : (task : Task) (marks : Marks) (phase : Phase) (fault : CallFault) (b : Bool) → is_no_memory fault ≡ b →
    phase_of (cond b (failed causes.NoMemory) (unless_asked_again task marks phase fault (asks_again marks phase fault))) ≢ phases.Ended → HasFew marks fault
memory-few task marks phase fault true is on = absurd (on refl)
memory-few task marks phase fault false is on = (is, few (length marks.faults) _ (unless-few task marks phase fault (asks_again marks phase fault) on))

fault-few : (task : Task) (marks : Marks) (phase : Phase) (fault : CallFault) → phase_of (after_fault task marks phase fault) ≢ phases.Ended → HasFew marks fault
unfolding after_fault
fault-few task marks phase fault on = memory-few task marks phase fault (is_no_memory fault) refl on

missing-by : (marks : Marks) (phase : Phase) (b : Bool) → phase_of (cond b (Upload false) (failed (causes.CallFailed marks.faults))) ≢ phases.Ended → b ≡ true
missing-by marks phase true on = refl
missing-by marks phase false on = absurd (on refl)

missing-few : (marks : Marks) (phase : Phase) → phase_of (after_missing marks phase) ≢ phases.Ended → length marks.faults < 4
unfolding after_missing
missing-few marks phase on = few (length marks.faults) _ (missing-by marks phase (counts_as_miss marks phase) on)

over-by : (task : Task) (marks : Marks) (code : ℕ) (b : Bool) → phase_of (cond b (run_again task marks code) (failed (causes.CallFailed marks.faults))) ≢ phases.Ended → b ≡ true
over-by task marks code true on = refl
over-by task marks code false on = absurd (on refl)

over-few : (task : Task) (marks : Marks) (code : ℕ) → phase_of (after_over task marks code) ≢ phases.Ended → length marks.faults < 4
unfolding after_over
over-few task marks code on = few (length marks.faults) _ (over-by task marks code (runs_again marks code) on)

-- ---- turns

abbrev Lowers : Task → Marks → Ask → Heard → Type 0
Lowers task marks ask heard =
    phase_of (after task (marks_after task.command (marks_since marks (phase_of ask)) heard) (phase_of ask) heard) ≢ phases.Ended →
    turns_left (marks_after task.command (marks_since marks (phase_of ask)) heard) (phase_of (after task (marks_after task.command (marks_since marks (phase_of ask)) heard) (phase_of ask) heard)) < turns_left marks (phase_of ask)

fault-lowers : (marks new : Marks) (phase now : Phase) → new.waits ≡ marks.waits → length new.faults ≡ length marks.faults + 1 → length new.faults < 4 → turns_left new now < turns_left marks phase
fault-lowers marks new phase now waits more less = let most = rank-most now in rw waits (omega arith)

below-lowers : (marks : Marks) (phase : Phase) (ask : Ask) (r : ℕ) → rank phase ≡ r → RankBelow r ask → phase_of ask ≢ phases.Ended → turns_left marks (phase_of ask) < turns_left marks phase
below-lowers marks phase ask r is below on = let low = below on in omega arith

begun-rank : (ask : Ask) → Fits [] ask Begun → rank (phase_of ask) ≡ 3
begun-rank (Execute skip) f = refl
begun-rank (Wait name) f = refl
begun-rank Capabilities f = absurd f
begun-rank GetResult f = absurd f
begun-rank (Upload fresh) f = absurd f
begun-rank NextOperation f = absurd f
begun-rank (Fetch digests) f = absurd f
begun-rank (End end) f = absurd f

fetched-rank : (all : List Digest) (ask : Ask) (texts : List (List ℕ)) → Fits all ask (Fetched texts) → rank (phase_of ask) ≡ 1
fetched-rank all ask texts f = ap (λ (a : Ask). rank (phase_of a)) f

uploaded-rank : (ask : Ask) (Fact : Type 0) → (ask ≡ Upload false) ⊎ ((ask ≡ Upload true) × Fact) → rank (phase_of ask) ≡ 4
uploaded-rank ask Fact (inl e) = ap (λ (a : Ask). rank (phase_of a)) e
uploaded-rank ask Fact (inr e) = ap (λ (a : Ask). rank (phase_of a)) e.0

none-below : (ask : Ask) → RankBelow 0 ask → phase_of ask ≢ phases.Ended → ⊥
none-below ask below on = let low = below on in omega arith

waiting-lowers : (task : Task) (marks new : Marks) → length new.faults ≡ length marks.faults → new.waits ≡ marks.waits + 1 → (b : Bool) → nat_lt new.waits most_waits ≡ b →
    phase_of (cond b NextOperation (failed causes.OperationsSpent)) ≢ phases.Ended → turns_left new (phase_of (cond b NextOperation (failed causes.OperationsSpent))) < turns_left marks phases.NextOperation
waiting-lowers task marks new faults waits true is on = let less = ltb-true new.waits 10000 is in omega arith
waiting-lowers task marks new faults waits false is on = absurd (on refl)

next-lowers : (task : Task) (marks new : Marks) (done : Option ExecuteResponse) → length new.faults ≡ length marks.faults → new.waits ≡ one_more marks.waits done →
    phase_of (after_next task new done) ≢ phases.Ended → turns_left new (phase_of (after_next task new done)) < turns_left marks phases.NextOperation
next-lowers task marks new None faults waits on = waiting-lowers task marks new faults waits (nat_lt new.waits most_waits) refl on
next-lowers task marks new (Some response) faults waits on =
    let low = response-below task (origin_of response.cached_result) response.result on in rw waits (omega arith)

turn-lowers : (task : Task) (all : List Digest) (marks : Marks) (ask : Ask) (heard : Heard) → Fits all ask heard → Lowers task marks ask heard
turn-lowers task all marks ask (Told told) fits on =
    below-lowers marks (phase_of ask) (after_range task.accept_cached told.low told.high) 6 (ap (λ (a : Ask). rank (phase_of a)) fits) (range-below task.accept_cached told.low told.high) on
turn-lowers task all marks ask (Cached result) fits on =
    below-lowers marks (phase_of ask) (after_cached task result) 5 (ap (λ (a : Ask). rank (phase_of a)) fits) (cached-below task result) on
turn-lowers task all marks ask (Uploaded left_out) fits on =
    let was = uploaded-rank ask _ fits.1 in omega arith
turn-lowers task all marks ask Begun fits on = let was = begun-rank ask fits in omega arith
turn-lowers task all marks ask (Next operation) fits on =
    let phase : phase_of ask ≡ phases.NextOperation = ap phase_of fits in
    subst (λ (p : Phase). turns_left (marks_after task.command (marks_since marks (phase_of ask)) (Next operation)) (phase_of (after_next task (marks_after task.command (marks_since marks (phase_of ask)) (Next operation)) operation.done)) < turns_left marks p)
    (sym phase) (next-lowers task marks (marks_after task.command (marks_since marks (phase_of ask)) (Next operation)) operation.done refl refl on)
turn-lowers task all marks ask (Fetched texts) fits on = absurd (none-below (finished marks.found texts) (finished-below marks.found texts) on)
turn-lowers task all marks ask (Fault fault) fits on =
    let new = marks_after task.command (marks_since marks (phase_of ask)) (Fault fault) in
    let few = fault-few task new (phase_of ask) fault on in
    fault-lowers marks new (phase_of ask) (phase_of (after_fault task new (phase_of ask) fault)) refl (with-longer marks.faults fault few.0) few.1
turn-lowers task all marks ask (Over code) fits on =
    let new = marks_after task.command (marks_since marks (phase_of ask)) (Over code) in
    fault-lowers marks new (phase_of ask) (phase_of (after_over task new code)) refl (longer marks.faults (calls.Status code)) (over-few task new code on)
turn-lowers task all marks ask (Blobs (blobs.Call fault)) fits on =
    let new = marks_after task.command (marks_since marks (phase_of ask)) (Blobs (blobs.Call fault)) in
    let few = fault-few task new (phase_of ask) fault on in
    fault-lowers marks new (phase_of ask) (phase_of (after_fault task new (phase_of ask) fault)) refl (with-longer marks.faults fault few.0) few.1
turn-lowers task all marks ask (Blobs (blobs.Missing digest)) fits on =
    let new = marks_after task.command (marks_since marks (phase_of ask)) (Blobs (blobs.Missing digest)) in
    fault-lowers marks new (phase_of ask) (phase_of (after_missing new (phase_of ask))) refl (longer marks.faults (calls.BlobRefused digest 5)) (missing-few new (phase_of ask) on)
turn-lowers task all marks ask (Blobs (blobs.Refused digest code)) fits on = absurd (on refl)
turn-lowers task all marks ask (Blobs (blobs.BadBlob expected got)) fits on = absurd (on refl)
turn-lowers task all marks ask (Blobs (blobs.InputChanged input)) fits on = absurd (on refl)
turn-lowers task all marks ask (Blobs (blobs.SourceFault path)) fits on = absurd (on refl)
turn-lowers task all marks ask (Blobs blobs.NoMemory) fits on = absurd (on refl)
turn-lowers task all marks ask (Stopped decision) fits on = absurd (on refl)

-- The same of a state with its history.
pub step-lowers : (task : Task) (all : List Digest) (history : List Turn) (ask : Ask) (heard : Heard) → ask ≡ next_of task history → Fits all ask heard →
    phase_of (next_of task (record { ask = ask; heard = heard } ∷ history)) ≢ phases.Ended →
    turns_left (marks_of task.command (record { ask = ask; heard = heard } ∷ history)) (phase_of (next_of task (record { ask = ask; heard = heard } ∷ history))) < turns_left (marks_of task.command history) (phase_of ask)
step-lowers task all history ask heard is fits on = turn-lowers task all (marks_of task.command history) ask heard fits on

-- ---- at most four faults

asked-on : (all : List Digest) (ask : Ask) (heard : Heard) → Fits all ask heard → phase_of ask ≢ phases.Ended
asked-on all ask (Told told) f e = cc (sym (ap phase_of f) ∙ e)
asked-on all ask (Cached result) f e = cc (sym (ap phase_of f) ∙ e)
asked-on all ask (Uploaded left_out) f e = let was = uploaded-rank ask _ f.1 in let now = ap rank e in absurd (omega arith)
asked-on all ask Begun f e = let was = begun-rank ask f in let now = ap rank e in absurd (omega arith)
asked-on all ask (Next operation) f e = cc (sym (ap phase_of f) ∙ e)
asked-on all ask (Fetched texts) f e = cc (sym (ap phase_of f) ∙ e)
asked-on all ask (Fault fault) f e = subst IsCall e f
asked-on all ask (Over code) f e = cc (sym (ap phase_of f) ∙ e)
asked-on all ask (Blobs fault) f e = subst IsOfBlobs e f
asked-on all ask (Stopped decision) f e = f e

turn-few : (task : Task) (ask : Ask) (heard : Heard) (earlier : List Turn) → length (faults_of earlier) < 4 →
    phase_of (next_of task (record { ask = ask; heard = heard } ∷ earlier)) ≢ phases.Ended → length (faults_of (record { ask = ask; heard = heard } ∷ earlier)) < 4
turn-few task ask (Told told) earlier few on = few
turn-few task ask (Cached result) earlier few on = few
turn-few task ask (Uploaded left_out) earlier few on = few
turn-few task ask Begun earlier few on = few
turn-few task ask (Next operation) earlier few on = few
turn-few task ask (Fetched texts) earlier few on = few
turn-few task ask (Fault fault) earlier few on =
    (fault-few task (marks_of task.command (record { ask = ask; heard = Fault fault } ∷ earlier)) (phase_of ask) fault on).1
turn-few task ask (Over code) earlier few on = over-few task (marks_of task.command (record { ask = ask; heard = Over code } ∷ earlier)) code on
turn-few task ask (Blobs (blobs.Call fault)) earlier few on =
    (fault-few task (marks_of task.command (record { ask = ask; heard = Blobs (blobs.Call fault) } ∷ earlier)) (phase_of ask) fault on).1
turn-few task ask (Blobs (blobs.Missing digest)) earlier few on =
    missing-few (marks_of task.command (record { ask = ask; heard = Blobs (blobs.Missing digest) } ∷ earlier)) (phase_of ask) on
turn-few task ask (Blobs (blobs.Refused digest code)) earlier few on = absurd (on refl)
turn-few task ask (Blobs (blobs.BadBlob expected got)) earlier few on = absurd (on refl)
turn-few task ask (Blobs (blobs.InputChanged input)) earlier few on = absurd (on refl)
turn-few task ask (Blobs (blobs.SourceFault path)) earlier few on = absurd (on refl)
turn-few task ask (Blobs blobs.NoMemory) earlier few on = absurd (on refl)
turn-few task ask (Stopped decision) earlier few on = absurd (on refl)

going-few : (task : Task) (all : List Digest) (history : List Turn) → IsLegal task all history → phase_of (next_of task history) ≢ phases.Ended → length (faults_of history) < 4
going-few task all [] l on = omega arith
going-few task all (turn ∷ earlier) l on =
    let before : phase_of (next_of task earlier) ≢ phases.Ended = λ e. asked-on all turn.ask turn.heard l.1 (ap phase_of l.0 ∙ e) in
    turn-few task turn.ask turn.heard earlier (going-few task all earlier l.2 before) on

with-one : (faults : List CallFault) (fault : CallFault) (b : Bool) → is_no_memory fault ≡ b → length (with_fault faults fault) ≤ length faults + 1
with-one faults fault false e = let n = with-longer faults fault e in omega arith
with-one faults calls.NoMemory true e = omega arith
with-one faults (calls.Status code) true e = absurd (cc e)
with-one faults calls.Link true e = absurd (cc e)
with-one faults (calls.Protocol code) true e = absurd (cc e)
with-one faults calls.Compressed true e = absurd (cc e)
with-one faults calls.TooLarge true e = absurd (cc e)
with-one faults calls.NoStatus true e = absurd (cc e)
with-one faults (calls.BadMessage at) true e = absurd (cc e)
with-one faults calls.Cut true e = absurd (cc e)
with-one faults (calls.BlobRefused digest code) true e = absurd (cc e)

heard-one : (faults : List CallFault) (heard : Heard) → length (faults_after faults heard) ≤ length faults + 1
heard-one faults (Told told) = omega arith
heard-one faults (Cached result) = omega arith
heard-one faults (Uploaded left_out) = omega arith
heard-one faults Begun = omega arith
heard-one faults (Next operation) = omega arith
heard-one faults (Fetched texts) = omega arith
heard-one faults (Fault fault) = with-one faults fault (is_no_memory fault) refl
heard-one faults (Over code) = let n = longer faults (calls.Status code) in omega arith
heard-one faults (Blobs (blobs.Call fault)) = with-one faults fault (is_no_memory fault) refl
heard-one faults (Blobs (blobs.Missing digest)) = let n = longer faults (calls.BlobRefused digest 5) in omega arith
heard-one faults (Blobs (blobs.Refused digest code)) = let n = longer faults (calls.BlobRefused digest code) in omega arith
heard-one faults (Blobs (blobs.BadBlob expected got)) = omega arith
heard-one faults (Blobs (blobs.InputChanged input)) = omega arith
heard-one faults (Blobs (blobs.SourceFault path)) = omega arith
heard-one faults (Blobs blobs.NoMemory) = omega arith
heard-one faults (Stopped decision) = omega arith

-- A legal history has four faults at most.
pub few-faults : (task : Task) (all : List Digest) (history : List Turn) → IsLegal task all history → length (faults_of history) ≤ 4
few-faults task all [] l = omega arith
few-faults task all (turn ∷ earlier) l =
    let on : phase_of (next_of task earlier) ≢ phases.Ended = λ e. asked-on all turn.ask turn.heard l.1 (ap phase_of l.0 ∙ e) in
    let few = going-few task all earlier l.2 on in let one = heard-one (faults_of earlier) turn.heard in omega arith
