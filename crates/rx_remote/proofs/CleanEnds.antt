-- In an honest history an end with an outcome has the clean one.
use Rattle.std.proofs.Common.{◌≡◌, ◌∙◌, ℕ, ◌==◌, Bool, true, false, cond, List, [], ◌∷◌, Option, None, Some, length, map, refl, sym, ap, subst, arith}
use Rattle.std.proofs.lemmas.Bool.{eqb-true}
use Rattle.std.specs.Prelude.{IfSome, nat_lt}
use Rattle.rx_base.specs.Digests.{digest_of}
use Rattle.rx_base.specs.declared.digests.Digest.{Digest}
use Rattle.rx_messages.specs.declared.results.ActionResult.{ActionResult}
use Rattle.rx_world.specs.declared.attempts.End.TheVariants as ends
use Rattle.rx_world.specs.declared.attempts.Origin.{Origin}
use Rattle.rx_world.specs.declared.attempts.Origin.TheVariants as origins
use Rattle.rx_world.specs.declared.call_faults.CallFault.{CallFault}
use Rattle.rx_world.specs.declared.commands.Command.{Command}
use Rattle.rx_world.specs.declared.outcomes.Outcome.{Outcome}
use Rattle.rx_world.specs.declared.remote_causes.RemoteCause.{RemoteCause}
use Rattle.rx_world.specs.declared.remote_causes.RemoteCause.TheVariants as causes
use Rattle.rx_world.specs.declared.trees.Tree.{Tree}
use Rattle.rx_world.specs.declared.versions.SemVer.{SemVer}
use Rattle.rx_world.specs.Outcomes.{IsClean}
use Rattle.rx_exec_messages.specs.declared.executions.ExecuteResponse.{ExecuteResponse}
use Rattle.rx_results.specs.Agreement.{Agrees}
use Rattle.rx_results.specs.Outcomes.{outcome_of}
use Rattle.rx_results.specs.Results.{wanted_of}
use Rattle.rx_blobs.specs.declared.blob_fault.BlobFault.{BlobFault}
use Rattle.rx_blobs.specs.declared.blob_fault.BlobFault.TheVariants as blobs
use Rattle.rx_remote.specs.declared.asks.Ask.{Ask}
use Rattle.rx_remote.specs.declared.asks.Ask.TheVariants.{End, Execute, Fetch, NextOperation, Upload}
use Rattle.rx_remote.specs.declared.asks.Heard.{Heard}
use Rattle.rx_remote.specs.declared.asks.Heard.TheVariants.{Begun, Blobs, Cached, Fault, Fetched, Next, Over, Stopped, Told, Uploaded}
use Rattle.rx_remote.specs.declared.marks.Found.{Found}
use Rattle.rx_remote.specs.declared.marks.Marks.{Marks}
use Rattle.rx_remote.specs.declared.phases.Phase.{Phase}
use Rattle.rx_remote.specs.declared.phases.Phase.TheVariants as phases
use Rattle.rx_remote.specs.declared.tasks.Task.{Task}
use Rattle.rx_remote.specs.Faults.{has_code, is_no_memory, lacked_blobs}
use Rattle.rx_remote.specs.History.{after_blobs, after_cached, after_fault, after_missing, after_next, after_over, after_range, after_response, again, asks_again, by_name, counts_as_miss, excludes, failed, blamed, done, fetch_again, finished, first_ask, judged, most_waits, next_of, run_again, runs_again, skips, unless_asked_again, unless_blamed}
use Rattle.rx_remote.specs.Honest.{HasAgreed, IsHonestDone, IsHonestHistory}
use Rattle.rx_remote.specs.Legal.{IsLegal}
use Rattle.rx_remote.specs.Marks.{Turn, found_as, found_by, found_in_done, found_of, marks_of, origin_of, phase_of}
use Rattle.rx_results.proofs.AgreementLemmas.{agrees-clean}
use Rattle.rx_remote.proofs.Fetching.{Wants, fetch-wants}

-- ---- the last result agrees

-- a result that was found is the command's, and agrees with an outcome of it
abbrev pub IsAgreed : (Digest → List ℕ) → Command → Outcome → Found → Type 0
IsAgreed blob command outcome found = (found.reading.command ≡ command) × Agrees blob command outcome found.reading.result

found-by : (blob : Digest → List ℕ) (command : Command) (outcome : Outcome) (origin : Origin) (result : Option ActionResult) (earlier : Option Found) →
    IfSome result (Agrees blob command outcome) → IfSome earlier (IsAgreed blob command outcome) → IfSome (found_by command origin result earlier) (IsAgreed blob command outcome)
found-by blob command outcome origin None earlier h e = e
found-by blob command outcome origin (Some result) earlier h e = (refl, h)

from_agreed : (blob : Digest → List ℕ) (command : Command) (outcome : Outcome) (result : Option ActionResult) → HasAgreed blob command outcome result →
    IfSome result (Agrees blob command outcome)
from_agreed blob command outcome (Some result) h = h
from_agreed blob command outcome None h = absurd h

found-in_done : (blob : Digest → List ℕ) (command : Command) (outcome : Outcome) (done : Option ExecuteResponse) (earlier : Option Found) →
    IsHonestDone blob command outcome done → IfSome earlier (IsAgreed blob command outcome) → IfSome (found_in_done command done earlier) (IsAgreed blob command outcome)
found-in_done blob command outcome None earlier h e = e
found-in_done blob command outcome (Some response) earlier h e =
    found-by blob command outcome (origin_of response.cached_result) response.result earlier (from_agreed blob command outcome response.result h) e

found-turn : (blob : Digest → List ℕ) (command : Command) (outcome : Outcome) (ask : Ask) (heard : Heard) (earlier : List Turn) →
    IsHonestHistory blob command outcome (record { ask = ask; heard = heard } ∷ earlier) → IfSome (found_of command earlier) (IsAgreed blob command outcome) →
    IfSome (found_of command (record { ask = ask; heard = heard } ∷ earlier)) (IsAgreed blob command outcome)
found-turn blob command outcome ask (Cached result) earlier h e = found-by blob command outcome origins.Cache result (found_of command earlier) h.0 e
found-turn blob command outcome ask (Next operation) earlier h e = found-in_done blob command outcome operation.done (found_of command earlier) h.0 e
found-turn blob command outcome ask (Told capabilities) earlier h e = e
found-turn blob command outcome ask (Uploaded left_out) earlier h e = e
found-turn blob command outcome ask Begun earlier h e = e
found-turn blob command outcome ask (Fetched texts) earlier h e = e
found-turn blob command outcome ask (Fault fault) earlier h e = e
found-turn blob command outcome ask (Over code) earlier h e = e
found-turn blob command outcome ask (Blobs fault) earlier h e = e
found-turn blob command outcome ask (Stopped decision) earlier h e = e

pub found-agrees : (blob : Digest → List ℕ) (command : Command) (outcome : Outcome) (history : List Turn) → IsHonestHistory blob command outcome history →
    IfSome (found_of command history) (IsAgreed blob command outcome)
found-agrees blob command outcome [] h = tt
found-agrees blob command outcome (turn ∷ earlier) h = found-turn blob command outcome turn.ask turn.heard earlier h (found-agrees blob command outcome earlier h.1)

-- ---- an end with an outcome

abbrev pub IsDone : Ask → Outcome → Type 0
IsDone ask outcome = (origin : Origin) × (ask ≡ End (ends.Done outcome origin))

abbrev pub NoDone : Ask → Type 0
NoDone ask = (outcome : Outcome) → IsDone ask outcome → ⊥

pub either-none : (b : Bool) (x y : Ask) → NoDone x → NoDone y → NoDone (cond b x y)
either-none true x y f g = f
either-none false x y f g = g

first-none : (accepts : Bool) → NoDone (first_ask accepts)
first-none true outcome d = cc d.1
first-none false outcome d = cc d.1

pub range-none : (accepts : Bool) (low high : Option SemVer) → NoDone (after_range accepts low high)
range-none accepts (Some low) (Some high) = either-none (excludes low high) (failed (causes.WrongVersion low high)) (first_ask accepts) (λ outcome d. cc d.1) (first-none accepts)
range-none accepts None high = first-none accepts
range-none accepts (Some low) None = first-none accepts

name-none : (task : Task) (marks : Marks) (name : List ℕ) → NoDone (by_name task marks name)
name-none task marks [] outcome d = cc d.1
name-none task marks (byte ∷ bytes) outcome d = cc d.1

refetch-none : (found : Option Found) → NoDone (fetch_again found)
refetch-none None outcome d = cc d.1
refetch-none (Some f) outcome d = cc d.1

again-none : (task : Task) (marks : Marks) (phase : Phase) (fault : CallFault) → NoDone (again task marks phase fault)
again-none task marks phases.Capabilities fault outcome d = cc d.1
again-none task marks phases.GetResult fault outcome d = cc d.1
again-none task marks (phases.Upload fresh) fault outcome d = cc d.1
again-none task marks phases.Execute fault outcome d = either-none (has_code 9 fault) (Upload true) (Execute (skips task marks)) (λ o f. cc f.1) (λ o f. cc f.1) outcome d
again-none task marks phases.NextOperation fault outcome d = either-none (has_code 9 fault) (Upload true) (by_name task marks marks.name) (λ o f. cc f.1) (name-none task marks marks.name) outcome d
again-none task marks phases.Wait fault outcome d = either-none (has_code 5 fault) (Execute (skips task marks)) (by_name task marks marks.name) (λ o f. cc f.1) (name-none task marks marks.name) outcome d
again-none task marks phases.Fetch fault outcome d = refetch-none marks.found outcome d
again-none task marks phases.Ended fault outcome d = cc d.1

unless-none : (task : Task) (marks : Marks) (phase : Phase) (fault : CallFault) (b : Bool) → NoDone (unless_asked_again task marks phase fault b)
unless-none task marks phase fault true outcome d = again-none task marks phase fault outcome d
unless-none task marks phase fault false outcome d = cc d.1

pub fault-none : (task : Task) (marks : Marks) (phase : Phase) (fault : CallFault) → NoDone (after_fault task marks phase fault)
unfolding after_fault
fault-none task marks phase fault =
    either-none (is_no_memory fault) (failed causes.NoMemory) (unless_asked_again task marks phase fault (asks_again marks phase fault)) (λ outcome d. cc d.1)
    (unless-none task marks phase fault (asks_again marks phase fault))

missing-none : (marks : Marks) (phase : Phase) → NoDone (after_missing marks phase)
unfolding after_missing
missing-none marks phase = either-none (counts_as_miss marks phase) (Upload false) (failed (causes.CallFailed marks.faults)) (λ outcome d. cc d.1) (λ outcome d. cc d.1)

pub over-none : (task : Task) (marks : Marks) (code : ℕ) → NoDone (after_over task marks code)
unfolding after_over
over-none task marks code =
    either-none (runs_again marks code) (run_again task marks code) (failed (causes.CallFailed marks.faults))
    (either-none (lacked_blobs code) (Upload true) (Execute (skips task marks)) (λ outcome d. cc d.1) (λ outcome d. cc d.1)) (λ outcome d. cc d.1)

pub blobs-none : (task : Task) (marks : Marks) (phase : Phase) (fault : BlobFault) → NoDone (after_blobs task marks phase fault)
blobs-none task marks phase (blobs.Call fault) outcome d = fault-none task marks phase fault outcome d
blobs-none task marks phase (blobs.Missing digest) outcome d = missing-none marks phase outcome d
blobs-none task marks phase (blobs.Refused digest code) outcome d = cc d.1
blobs-none task marks phase (blobs.BadBlob expected got) outcome d = cc d.1
blobs-none task marks phase (blobs.InputChanged input) outcome d = cc d.1
blobs-none task marks phase (blobs.SourceFault path) outcome d = cc d.1
blobs-none task marks phase blobs.NoMemory outcome d = cc d.1

pub outcome-is : (x y : Outcome) (p q : Origin) → End (ends.Done x p) ≡ End (ends.Done y q) → x ≡ y
outcome-is x y p q e = cc e

-- what a farm that is honest makes of the command on the tree
abbrev CleanOn : (Command → Tree → Outcome) → Command → Tree → Outcome → Type 0
CleanOn tool command tree outcome = IsClean tool command tree outcome

pub no_digests : (ds : List Digest) → length ds ≡ 0 → ds ≡ []
no_digests [] e = refl
no_digests (d ∷ ds) e = absurd (omega arith)

wanted-clean : (tool : Command → Tree → Outcome) (blob : Digest → List ℕ) (command : Command) (tree : Tree) (result : ActionResult) (origin : Origin) (b : Bool) (outcome : Outcome) →
    Agrees blob command (tool command tree) result → (length (wanted_of command result) == 0) ≡ b →
    IsDone (cond b (done (found_as command origin result) []) (Fetch (wanted_of command result))) outcome → CleanOn tool command tree outcome
wanted-clean tool blob command tree result origin true outcome a is d =
    let none : wanted_of command result ≡ [] = no_digests (wanted_of command result) (eqb-true _ _ is) in
    let clean = agrees-clean tool command tree blob result a in
    subst (λ (o : Outcome). CleanOn tool command tree o) (outcome-is _ _ _ _ d.1)
    (subst (λ (texts : List (List ℕ)). CleanOn tool command tree (outcome_of command result texts)) (ap (map blob) none) clean)
wanted-clean tool blob command tree result origin false outcome a is d = absurd (cc d.1)

blame-clean : (tool : Command → Tree → Outcome) (blob : Digest → List ℕ) (command : Command) (tree : Tree) (result : ActionResult) (origin : Origin) (cause : Option RemoteCause) (outcome : Outcome) →
    Agrees blob command (tool command tree) result → IsDone (unless_blamed (found_as command origin result) cause) outcome → CleanOn tool command tree outcome
blame-clean tool blob command tree result origin (Some cause) outcome a d = absurd (cc d.1)
blame-clean tool blob command tree result origin None outcome a d = wanted-clean tool blob command tree result origin (length (wanted_of command result) == 0) outcome a refl d

judged-clean : (tool : Command → Tree → Outcome) (blob : Digest → List ℕ) (command : Command) (tree : Tree) (result : ActionResult) (origin : Origin) (outcome : Outcome) →
    Agrees blob command (tool command tree) result → IsDone (judged command result origin) outcome → CleanOn tool command tree outcome
unfolding judged
judged-clean tool blob command tree result origin outcome a d = blame-clean tool blob command tree result origin (blamed command result) outcome a d

cached-clean : (tool : Command → Tree → Outcome) (blob : Digest → List ℕ) (task : Task) (tree : Tree) (result : Option ActionResult) (outcome : Outcome) →
    IfSome result (Agrees blob task.command (tool task.command tree)) → IsDone (after_cached task result) outcome → CleanOn tool task.command tree outcome
cached-clean tool blob task tree None outcome a d = absurd (cc d.1)
cached-clean tool blob task tree (Some result) outcome a d = judged-clean tool blob task.command tree result origins.Cache outcome a d

response-clean : (tool : Command → Tree → Outcome) (blob : Digest → List ℕ) (task : Task) (tree : Tree) (origin : Origin) (result : Option ActionResult) (outcome : Outcome) →
    HasAgreed blob task.command (tool task.command tree) result → IsDone (after_response task origin result) outcome → CleanOn tool task.command tree outcome
response-clean tool blob task tree origin None outcome a d = absurd a
response-clean tool blob task tree origin (Some result) outcome a d = judged-clean tool blob task.command tree result origin outcome a d

next-clean : (tool : Command → Tree → Outcome) (blob : Digest → List ℕ) (task : Task) (marks : Marks) (tree : Tree) (done : Option ExecuteResponse) (outcome : Outcome) →
    IsHonestDone blob task.command (tool task.command tree) done → IsDone (after_next task marks done) outcome → CleanOn tool task.command tree outcome
next-clean tool blob task marks tree None outcome a d =
    absurd (either-none (nat_lt marks.waits most_waits) NextOperation (failed causes.OperationsSpent) (λ o f. cc f.1) (λ o f. cc f.1) outcome d)
next-clean tool blob task marks tree (Some response) outcome a d = response-clean tool blob task tree (origin_of response.cached_result) response.result outcome a d

fetched-clean : (tool : Command → Tree → Outcome) (blob : Digest → List ℕ) (task : Task) (tree : Tree) (found : Option Found) (texts : List (List ℕ)) (digests : List Digest) (outcome : Outcome) →
    Wants task.command found digests → IfSome found (IsAgreed blob task.command (tool task.command tree)) → texts ≡ map blob digests →
    IsDone (finished found texts) outcome → CleanOn tool task.command tree outcome
fetched-clean tool blob task tree None texts digests outcome w a t d = absurd (cc d.1)
fetched-clean tool blob task tree (Some f) texts digests outcome w a t d =
    let same : f ≡ w.0 = cc w.1 in
    let wanted : digests ≡ wanted_of f.reading.command f.reading.result = w.3 ∙ ap (λ (x : Found). wanted_of x.reading.command x.reading.result) (sym same) in
    let clean = agrees-clean tool task.command tree blob f.reading.result a.1 in
    subst (λ (o : Outcome). CleanOn tool task.command tree o) (outcome-is _ _ _ _ d.1)
    (subst (λ (all : List (List ℕ)). CleanOn tool task.command tree (outcome_of f.reading.command f.reading.result all)) (ap (map blob) (sym wanted) ∙ sym t)
    (subst (λ (command : Command). CleanOn tool task.command tree (outcome_of command f.reading.result (map blob (wanted_of command f.reading.result)))) (sym a.0) clean))

turn-clean : (tool : Command → Tree → Outcome) (blob : Digest → List ℕ) (task : Task) (tree : Tree) (all : List Digest) (ask : Ask) (heard : Heard) (earlier : List Turn) (outcome : Outcome) →
    IsLegal task all (record { ask = ask; heard = heard } ∷ earlier) → IsHonestHistory blob task.command (tool task.command tree) (record { ask = ask; heard = heard } ∷ earlier) →
    IsDone (next_of task (record { ask = ask; heard = heard } ∷ earlier)) outcome → CleanOn tool task.command tree outcome
turn-clean tool blob task tree all ask (Told told) earlier outcome l h d = absurd (range-none task.accept_cached told.low told.high outcome d)
turn-clean tool blob task tree all ask (Cached result) earlier outcome l h d = cached-clean tool blob task tree result outcome h.0 d
turn-clean tool blob task tree all ask (Uploaded left_out) earlier outcome l h d = absurd (cc d.1)
turn-clean tool blob task tree all ask Begun earlier outcome l h d = absurd (cc d.1)
turn-clean tool blob task tree all ask (Next operation) earlier outcome l h d =
    next-clean tool blob task (marks_of task.command (record { ask = ask; heard = Next operation } ∷ earlier)) tree operation.done outcome h.0 d
turn-clean tool blob task tree all ask (Fetched texts) earlier outcome l h d =
    fetched-clean tool blob task tree (found_of task.command earlier) texts (map digest_of texts) outcome
    (fetch-wants task all earlier l.2 (map digest_of texts) (sym l.0 ∙ l.1)) (found-agrees blob task.command (tool task.command tree) earlier h.1)
    (h.0 (map digest_of texts) l.1) d
turn-clean tool blob task tree all ask (Fault fault) earlier outcome l h d =
    absurd (fault-none task (marks_of task.command (record { ask = ask; heard = Fault fault } ∷ earlier)) (phase_of ask) fault outcome d)
turn-clean tool blob task tree all ask (Over code) earlier outcome l h d =
    absurd (over-none task (marks_of task.command (record { ask = ask; heard = Over code } ∷ earlier)) code outcome d)
turn-clean tool blob task tree all ask (Blobs fault) earlier outcome l h d =
    absurd (blobs-none task (marks_of task.command (record { ask = ask; heard = Blobs fault } ∷ earlier)) (phase_of ask) fault outcome d)
turn-clean tool blob task tree all ask (Stopped decision) earlier outcome l h d = absurd (cc d.1)

-- In a legal history of a farm that is honest for the command and the tree, an end with an outcome has the clean one.
pub done-clean : (tool : Command → Tree → Outcome) (blob : Digest → List ℕ) (task : Task) (tree : Tree) (all : List Digest) (history : List Turn) (outcome : Outcome) (origin : Origin) →
    IsLegal task all history → IsHonestHistory blob task.command (tool task.command tree) history →
    next_of task history ≡ End (ends.Done outcome origin) → IsClean tool task.command tree outcome
done-clean tool blob task tree all [] outcome origin l h e = absurd (cc e)
done-clean tool blob task tree all (turn ∷ earlier) outcome origin l h e = turn-clean tool blob task tree all turn.ask turn.heard earlier outcome l h (origin, e)
