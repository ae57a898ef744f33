-- A fetch asks for what the last result wants.
use Rattle.std.proofs.Common.{◌≡◌, ◌∙◌, ℕ, ◌==◌, Bool, true, false, cond, List, [], ◌∷◌, Option, None, Some, length, refl, sym, subst}
use Rattle.std.specs.Prelude.{nat_lt}
use Rattle.rx_base.specs.declared.digests.Digest.{Digest}
use Rattle.rx_messages.specs.declared.results.ActionResult.{ActionResult}
use Rattle.rx_world.specs.declared.attempts.Origin.{Origin}
use Rattle.rx_world.specs.declared.attempts.Origin.TheVariants as origins
use Rattle.rx_world.specs.declared.call_faults.CallFault.{CallFault}
use Rattle.rx_world.specs.declared.commands.Command.{Command}
use Rattle.rx_world.specs.declared.remote_causes.RemoteCause.{RemoteCause}
use Rattle.rx_world.specs.declared.remote_causes.RemoteCause.TheVariants as causes
use Rattle.rx_world.specs.declared.versions.SemVer.{SemVer}
use Rattle.rx_exec_messages.specs.declared.executions.ExecuteResponse.{ExecuteResponse}
use Rattle.rx_results.specs.Results.{wanted_of}
use Rattle.rx_blobs.specs.declared.blob_fault.BlobFault.TheVariants as blobs
use Rattle.rx_remote.specs.declared.asks.Ask.{Ask}
use Rattle.rx_remote.specs.declared.asks.Ask.TheVariants.{Capabilities, End, Execute, Fetch, GetResult, NextOperation, Upload, Wait}
use Rattle.rx_remote.specs.declared.asks.Heard.{Heard}
use Rattle.rx_remote.specs.declared.asks.Heard.TheVariants.{Begun, Blobs, Cached, Fault, Fetched, Next, Over, Stopped, Told, Uploaded}
use Rattle.rx_remote.specs.declared.marks.Found.{Found}
use Rattle.rx_remote.specs.declared.marks.Marks.{Marks}
use Rattle.rx_remote.specs.declared.phases.Phase.{Phase}
use Rattle.rx_remote.specs.declared.phases.Phase.TheVariants as phases
use Rattle.rx_remote.specs.declared.tasks.Task.{Task}
use Rattle.rx_remote.specs.Faults.{has_code, is_no_memory, lacked_blobs}
use Rattle.rx_remote.specs.History.{after_cached, after_fault, after_missing, after_next, after_over, after_range, after_response, again, asks_again, by_name, counts_as_miss, excludes, failed, blamed, done, fetch_again, finished, first_ask, judged, most_waits, next_of, run_again, runs_again, unless_asked_again, unless_blamed}
use Rattle.rx_remote.specs.Legal.{IsLegal}
use Rattle.rx_remote.specs.Marks.{Turn, found_as, found_by, found_in_done, found_of, marks_of, origin_of, phase_of}

-- the result is one of the command, and nothing is wrong with it
abbrev pub IsUnblamed : Command → Found → Type 0
IsUnblamed command f = (f.reading.command ≡ command) × (blamed f.reading.command f.reading.result ≡ None)

-- such a result was found, and these are the digests that it wants
abbrev pub Wants : Command → Option Found → List Digest → Type 0
Wants command found digests = (f : Found) × (found ≡ Some f) × IsUnblamed command f × (digests ≡ wanted_of f.reading.command f.reading.result)

fetch_is : (ds es : List Digest) → Fetch ds ≡ Fetch es → ds ≡ es
fetch_is ds es e = cc e

by-wanted : (found : Found) (digests : List Digest) (b : Bool) →
    cond b (done found []) (Fetch (wanted_of found.reading.command found.reading.result)) ≡ Fetch digests →
    digests ≡ wanted_of found.reading.command found.reading.result
by-wanted found digests true e = absurd (cc e)
by-wanted found digests false e = sym (fetch_is _ _ e)

by-blame : (found : Found) (digests : List Digest) (cause : Option RemoteCause) → unless_blamed found cause ≡ Fetch digests →
    (cause ≡ None) × (digests ≡ wanted_of found.reading.command found.reading.result)
by-blame found digests (Some cause) e = absurd (cc e)
by-blame found digests None e = (refl, by-wanted found digests (length (wanted_of found.reading.command found.reading.result) == 0) e)

pub judged-wants : (task : Task) (result : ActionResult) (origin : Origin) (digests : List Digest) → judged task.command result origin ≡ Fetch digests →
    (blamed task.command result ≡ None) × (digests ≡ wanted_of task.command result)
unfolding judged
judged-wants task result origin digests e = by-blame (found_as task.command origin result) digests (blamed task.command result) e

-- asks that are no fetch
first-no : (accepts : Bool) (digests : List Digest) → first_ask accepts ≡ Fetch digests → ⊥
first-no true digests e = cc e
first-no false digests e = cc e

either-no : (b : Bool) (x y : Ask) (digests : List Digest) → (x ≡ Fetch digests → ⊥) → (y ≡ Fetch digests → ⊥) → cond b x y ≡ Fetch digests → ⊥
either-no true x y digests f g e = f e
either-no false x y digests f g e = g e

range-no : (accepts : Bool) (low high : Option SemVer) (digests : List Digest) → after_range accepts low high ≡ Fetch digests → ⊥
range-no accepts (Some low) (Some high) digests e = either-no (excludes low high) _ _ digests (λ f. cc f) (first-no accepts digests) e
range-no accepts None high digests e = first-no accepts digests e
range-no accepts (Some low) None digests e = first-no accepts digests e

name-no : (task : Task) (marks : Marks) (name : List ℕ) (digests : List Digest) → by_name task marks name ≡ Fetch digests → ⊥
name-no task marks [] digests e = cc e
name-no task marks (byte ∷ bytes) digests e = cc e

abbrev IsRefetch : Task → Marks → Phase → List Digest → Type 0
IsRefetch task marks phase digests = (phase ≡ phases.Fetch) × (fetch_again marks.found ≡ Fetch digests)

again-fetch : (task : Task) (marks : Marks) (phase : Phase) (fault : CallFault) (digests : List Digest) → again task marks phase fault ≡ Fetch digests → IsRefetch task marks phase digests
again-fetch task marks phases.Capabilities fault digests e = absurd (cc e)
again-fetch task marks phases.GetResult fault digests e = absurd (cc e)
again-fetch task marks (phases.Upload fresh) fault digests e = absurd (cc e)
again-fetch task marks phases.Execute fault digests e = absurd (either-no (has_code 9 fault) _ _ digests (λ f. cc f) (λ f. cc f) e)
again-fetch task marks phases.NextOperation fault digests e = absurd (either-no (has_code 9 fault) _ _ digests (λ f. cc f) (name-no task marks marks.name digests) e)
again-fetch task marks phases.Wait fault digests e = absurd (either-no (has_code 5 fault) _ _ digests (λ f. cc f) (name-no task marks marks.name digests) e)
again-fetch task marks phases.Fetch fault digests e = (refl, e)
again-fetch task marks phases.Ended fault digests e = absurd (cc e)

unless-fetch : (task : Task) (marks : Marks) (phase : Phase) (fault : CallFault) (b : Bool) (digests : List Digest) → unless_asked_again task marks phase fault b ≡ Fetch digests → IsRefetch task marks phase digests
unless-fetch task marks phase fault true digests e = again-fetch task marks phase fault digests e
unless-fetch task marks phase fault false digests e = absurd (cc e)

memory-fetch : (task : Task) (marks : Marks) (phase : Phase) (fault : CallFault) (b c : Bool) (digests : List Digest) →
    cond b (failed causes.NoMemory) (unless_asked_again task marks phase fault c) ≡ Fetch digests → IsRefetch task marks phase digests
memory-fetch task marks phase fault true c digests e = absurd (cc e)
memory-fetch task marks phase fault false c digests e = unless-fetch task marks phase fault c digests e

fault-fetch : (task : Task) (marks : Marks) (phase : Phase) (fault : CallFault) (digests : List Digest) → after_fault task marks phase fault ≡ Fetch digests → IsRefetch task marks phase digests
unfolding after_fault
fault-fetch task marks phase fault digests e = memory-fetch task marks phase fault (is_no_memory fault) (asks_again marks phase fault) digests e

missing-no : (marks : Marks) (phase : Phase) (digests : List Digest) → after_missing marks phase ≡ Fetch digests → ⊥
unfolding after_missing
missing-no marks phase digests e = either-no (counts_as_miss marks phase) _ _ digests (λ f. cc f) (λ f. cc f) e

over-no : (task : Task) (marks : Marks) (code : ℕ) (digests : List Digest) → after_over task marks code ≡ Fetch digests → ⊥
unfolding after_over
over-no task marks code digests e =
    either-no (runs_again marks code) _ _ digests (either-no (lacked_blobs code) _ _ digests (λ f. cc f) (λ f. cc f)) (λ f. cc f) e

asked-fetch : (ask : Ask) → phase_of ask ≡ phases.Fetch → (ds : List Digest) × (ask ≡ Fetch ds)
asked-fetch (Fetch ds) e = (ds, refl)
asked-fetch Capabilities e = absurd (cc e)
asked-fetch GetResult e = absurd (cc e)
asked-fetch (Upload fresh) e = absurd (cc e)
asked-fetch (Execute skip) e = absurd (cc e)
asked-fetch NextOperation e = absurd (cc e)
asked-fetch (Wait name) e = absurd (cc e)
asked-fetch (End end) e = absurd (cc e)

again-wants : (command : Command) (found : Option Found) (ds digests : List Digest) → Wants command found ds → fetch_again found ≡ Fetch digests →
    Wants command found digests
again-wants command None ds digests w e = absurd (cc w.1)
again-wants command (Some f) ds digests w e =
    let same : f ≡ w.0 = cc w.1 in
    (f, refl, subst (IsUnblamed command) (sym same) w.2, sym (fetch_is _ _ e))

-- what the fetch before wanted is wanted again
refetch : (task : Task) (marks : Marks) (ask : Ask) (earlier : List Turn) (digests : List Digest) → ask ≡ next_of task earlier → marks.found ≡ found_of task.command earlier →
    ((ds : List Digest) → next_of task earlier ≡ Fetch ds → Wants task.command (found_of task.command earlier) ds) → IsRefetch task marks (phase_of ask) digests → Wants task.command (found_of task.command earlier) digests
refetch task marks ask earlier digests is same before r =
    let asked = asked-fetch ask r.0 in
    again-wants task.command (found_of task.command earlier) asked.0 digests (before asked.0 (sym is ∙ asked.1)) (rw same at r.1)

response-wants : (task : Task) (origin : Origin) (result : Option ActionResult) (earlier : Option Found) (digests : List Digest) →
    after_response task origin result ≡ Fetch digests → Wants task.command (found_by task.command origin result earlier) digests
response-wants task origin None earlier digests e = absurd (cc e)
response-wants task origin (Some result) earlier digests e = let judged = judged-wants task result origin digests e in (found_as task.command origin result, refl, (refl, judged.0), judged.1)

next-wants : (task : Task) (marks : Marks) (done : Option ExecuteResponse) (earlier : Option Found) (digests : List Digest) →
    after_next task marks done ≡ Fetch digests → Wants task.command (found_in_done task.command done earlier) digests
next-wants task marks None earlier digests e = absurd (either-no (nat_lt marks.waits most_waits) NextOperation (failed causes.OperationsSpent) digests (λ f. cc f) (λ f. cc f) e)
next-wants task marks (Some response) earlier digests e = response-wants task (origin_of response.cached_result) response.result earlier digests e

cached-wants : (task : Task) (result : Option ActionResult) (earlier : Option Found) (digests : List Digest) →
    after_cached task result ≡ Fetch digests → Wants task.command (found_by task.command origins.Cache result earlier) digests
cached-wants task None earlier digests e = absurd (cc e)
cached-wants task (Some result) earlier digests e = let judged = judged-wants task result origins.Cache digests e in (found_as task.command origins.Cache result, refl, (refl, judged.0), judged.1)

finished-no : (found : Option Found) (texts : List (List ℕ)) (digests : List Digest) → finished found texts ≡ Fetch digests → ⊥
finished-no None texts digests e = cc e
finished-no (Some f) texts digests e = cc e

turn-wants : (task : Task) (ask : Ask) (heard : Heard) (earlier : List Turn) (digests : List Digest) → ask ≡ next_of task earlier →
    ((ds : List Digest) → next_of task earlier ≡ Fetch ds → Wants task.command (found_of task.command earlier) ds) →
    next_of task (record { ask = ask; heard = heard } ∷ earlier) ≡ Fetch digests → Wants task.command (found_of task.command (record { ask = ask; heard = heard } ∷ earlier)) digests
turn-wants task ask (Told told) earlier digests is before e = absurd (range-no task.accept_cached told.low told.high digests e)
turn-wants task ask (Cached result) earlier digests is before e = cached-wants task result (found_of task.command earlier) digests e
turn-wants task ask (Uploaded left_out) earlier digests is before e = absurd (cc e)
turn-wants task ask Begun earlier digests is before e = absurd (cc e)
turn-wants task ask (Next operation) earlier digests is before e = next-wants task (marks_of task.command (record { ask = ask; heard = Next operation } ∷ earlier)) operation.done (found_of task.command earlier) digests e
turn-wants task ask (Fetched texts) earlier digests is before e = absurd (finished-no (found_of task.command earlier) texts digests e)
turn-wants task ask (Fault fault) earlier digests is before e =
    let marks = marks_of task.command (record { ask = ask; heard = Fault fault } ∷ earlier) in
    refetch task marks ask earlier digests is refl before (fault-fetch task marks (phase_of ask) fault digests e)
turn-wants task ask (Over code) earlier digests is before e =
    absurd (over-no task (marks_of task.command (record { ask = ask; heard = Over code } ∷ earlier)) code digests e)
turn-wants task ask (Blobs (blobs.Call fault)) earlier digests is before e =
    let marks = marks_of task.command (record { ask = ask; heard = Blobs (blobs.Call fault) } ∷ earlier) in
    refetch task marks ask earlier digests is refl before (fault-fetch task marks (phase_of ask) fault digests e)
turn-wants task ask (Blobs (blobs.Missing digest)) earlier digests is before e =
    absurd (missing-no (marks_of task.command (record { ask = ask; heard = Blobs (blobs.Missing digest) } ∷ earlier)) (phase_of ask) digests e)
turn-wants task ask (Blobs (blobs.Refused digest code)) earlier digests is before e = absurd (cc e)
turn-wants task ask (Blobs (blobs.BadBlob expected got)) earlier digests is before e = absurd (cc e)
turn-wants task ask (Blobs (blobs.InputChanged input)) earlier digests is before e = absurd (cc e)
turn-wants task ask (Blobs (blobs.SourceFault path)) earlier digests is before e = absurd (cc e)
turn-wants task ask (Blobs blobs.NoMemory) earlier digests is before e = absurd (cc e)
turn-wants task ask (Stopped decision) earlier digests is before e = absurd (cc e)

-- The digests of a fetch are those that the last result wants.
pub fetch-wants : (task : Task) (all : List Digest) (history : List Turn) → IsLegal task all history → (digests : List Digest) → next_of task history ≡ Fetch digests → Wants task.command (found_of task.command history) digests
fetch-wants task all [] l digests e = absurd (cc e)
fetch-wants task all (turn ∷ earlier) l digests e =
    turn-wants task turn.ask turn.heard earlier digests l.0 (fetch-wants task all earlier l.2) e
