-- An end with an outcome is proper, and within the limits.
use Rattle.std.proofs.Common.{◌≡◌, ◌∙◌, ℕ, ◌==◌, Bool, true, false, cond, List, [], ◌∷◌, Option, None, Some, length, map, refl, sym, ap, subst}
use Rattle.std.proofs.lemmas.Bool.{eqb-true}
use Rattle.std.specs.Prelude.{nat_lt}
use Rattle.rx_base.specs.Digests.{digest_of}
use Rattle.rx_base.specs.declared.digests.Digest.{Digest}
use Rattle.rx_messages.specs.declared.results.ActionResult.{ActionResult}
use Rattle.rx_world.specs.declared.attempts.End.TheVariants as ends
use Rattle.rx_world.specs.declared.attempts.Origin.{Origin}
use Rattle.rx_world.specs.declared.attempts.Origin.TheVariants as origins
use Rattle.rx_world.specs.declared.commands.Command.{Command}
use Rattle.rx_world.specs.declared.outcomes.Outcome.{Outcome}
use Rattle.rx_world.specs.declared.remote_causes.RemoteCause.{RemoteCause}
use Rattle.rx_world.specs.declared.remote_causes.RemoteCause.TheVariants as causes
use Rattle.rx_world.specs.declared.remote_causes.ResultFault.{ResultFault}
use Rattle.rx_exec_messages.specs.declared.executions.ExecuteResponse.{ExecuteResponse}
use Rattle.rx_results.specs.Outcomes.{outcome_of}
use Rattle.rx_results.specs.Results.{fault_of, spoiled_of, wanted_of}
use Rattle.rx_remote.specs.declared.asks.Ask.{Ask}
use Rattle.rx_remote.specs.declared.asks.Ask.TheVariants.{End, Fetch, NextOperation}
use Rattle.rx_remote.specs.declared.asks.Heard.{Heard}
use Rattle.rx_remote.specs.declared.asks.Heard.TheVariants.{Begun, Blobs, Cached, Fault, Fetched, Next, Over, Stopped, Told, Uploaded}
use Rattle.rx_remote.specs.declared.marks.Found.{Found}
use Rattle.rx_remote.specs.declared.marks.Marks.{Marks}
use Rattle.rx_remote.specs.declared.tasks.Task.{Task}
use Rattle.rx_remote.specs.History.{after_cached, after_next, after_response, failed, blamed, done, finished, judged, most_waits, next_of, unless_blamed}
use Rattle.rx_remote.specs.Legal.{IsLegal}
use Rattle.rx_remote.specs.Marks.{Turn, found_as, found_of, marks_of, origin_of, phase_of}
use Rattle.rx_results.specs.declared.slots.DigestMismatch.{DigestMismatch}
use Rattle.rx_results.specs.Readings.{IsFetched}
use Rattle.rx_results.proofs.LimitLemmas.{outcome-limits}
use Rattle.rx_results.proofs.OutcomeLemmas.{outcome-proper}
use Rattle.rx_remote.specs.Fine.{IsSoundOutcome}
use Rattle.rx_remote.specs.History.{blamed_on}
use Rattle.rx_remote.proofs.CleanEnds.{IsDone, blobs-none, either-none, fault-none, no_digests, outcome-is, over-none, range-none}
use Rattle.rx_remote.proofs.Fetching.{IsUnblamed, Wants, fetch-wants}

-- ---- a result with which nothing is wrong

none-wrong : (fault : Option ResultFault) (bad : Option DigestMismatch) → blamed_on fault bad ≡ None → (fault ≡ None) × (bad ≡ None)
none-wrong None None e = (refl, refl)
none-wrong (Some fault) bad e = absurd (cc e)
none-wrong None (Some bad) e = absurd (cc e)

fetched-all : (command : Command) (result : ActionResult) (texts : List (List ℕ)) → blamed command result ≡ None → map digest_of texts ≡ wanted_of command result →
    IsFetched command result texts
fetched-all command result texts e h =
    let none = none-wrong (fault_of command result) (spoiled_of command result) e in record { sound = none.0; unspoiled = none.1; fetched = h }

sound-outcome : (command : Command) (result : ActionResult) (texts : List (List ℕ)) → blamed command result ≡ None → map digest_of texts ≡ wanted_of command result →
    IsSoundOutcome command (outcome_of command result texts)
sound-outcome command result texts e h = record {
  proper = outcome-proper command result texts;
  limits = outcome-limits command result texts (fetched-all command result texts e h);
}

-- ---- where an outcome ends an attempt

wanted-sound : (command : Command) (result : ActionResult) (origin : Origin) (b : Bool) (outcome : Outcome) → blamed command result ≡ None →
    (length (wanted_of command result) == 0) ≡ b → IsDone (cond b (done (found_as command origin result) []) (Fetch (wanted_of command result))) outcome →
    IsSoundOutcome command outcome
wanted-sound command result origin true outcome e is d =
    let none : wanted_of command result ≡ [] = no_digests (wanted_of command result) (eqb-true _ _ is) in
    subst (IsSoundOutcome command) (outcome-is _ _ _ _ d.1) (sound-outcome command result [] e (sym none))
wanted-sound command result origin false outcome e is d = absurd (cc d.1)

blame-sound : (command : Command) (result : ActionResult) (origin : Origin) (cause : Option RemoteCause) (outcome : Outcome) → blamed command result ≡ cause →
    IsDone (unless_blamed (found_as command origin result) cause) outcome → IsSoundOutcome command outcome
blame-sound command result origin (Some cause) outcome e d = absurd (cc d.1)
blame-sound command result origin None outcome e d = wanted-sound command result origin (length (wanted_of command result) == 0) outcome e refl d

judged-sound : (command : Command) (result : ActionResult) (origin : Origin) (outcome : Outcome) → IsDone (judged command result origin) outcome → IsSoundOutcome command outcome
unfolding judged
judged-sound command result origin outcome d = blame-sound command result origin (blamed command result) outcome refl d

cached-sound : (task : Task) (result : Option ActionResult) (outcome : Outcome) → IsDone (after_cached task result) outcome → IsSoundOutcome task.command outcome
cached-sound task None outcome d = absurd (cc d.1)
cached-sound task (Some result) outcome d = judged-sound task.command result origins.Cache outcome d

response-sound : (task : Task) (origin : Origin) (result : Option ActionResult) (outcome : Outcome) → IsDone (after_response task origin result) outcome →
    IsSoundOutcome task.command outcome
response-sound task origin None outcome d = absurd (cc d.1)
response-sound task origin (Some result) outcome d = judged-sound task.command result origin outcome d

next-sound : (task : Task) (marks : Marks) (state : Option ExecuteResponse) (outcome : Outcome) → IsDone (after_next task marks state) outcome → IsSoundOutcome task.command outcome
next-sound task marks None outcome d =
    absurd (either-none (nat_lt marks.waits most_waits) NextOperation (failed causes.OperationsSpent) (λ o f. cc f.1) (λ o f. cc f.1) outcome d)
next-sound task marks (Some response) outcome d = response-sound task (origin_of response.cached_result) response.result outcome d

finished-sound : (command : Command) (found : Option Found) (texts : List (List ℕ)) (outcome : Outcome) → Wants command found (map digest_of texts) →
    IsDone (finished found texts) outcome → IsSoundOutcome command outcome
finished-sound command None texts outcome w d = absurd (cc d.1)
finished-sound command (Some f) texts outcome w d =
    let same : f ≡ w.0 = cc w.1 in
    let clear = subst (IsUnblamed command) (sym same) w.2 in
    let wanted : map digest_of texts ≡ wanted_of f.reading.command f.reading.result = w.3 ∙ ap (λ (x : Found). wanted_of x.reading.command x.reading.result) (sym same) in
    subst (λ (c : Command). IsSoundOutcome c outcome) clear.0
    (subst (IsSoundOutcome f.reading.command) (outcome-is _ _ _ _ d.1) (sound-outcome f.reading.command f.reading.result texts clear.1 wanted))

turn-sound : (task : Task) (all : List Digest) (ask : Ask) (heard : Heard) (earlier : List Turn) (outcome : Outcome) →
    IsLegal task all (record { ask = ask; heard = heard } ∷ earlier) → IsDone (next_of task (record { ask = ask; heard = heard } ∷ earlier)) outcome →
    IsSoundOutcome task.command outcome
turn-sound task all ask (Told told) earlier outcome l d = absurd (range-none task.accept_cached told.low told.high outcome d)
turn-sound task all ask (Cached result) earlier outcome l d = cached-sound task result outcome d
turn-sound task all ask (Uploaded left_out) earlier outcome l d = absurd (cc d.1)
turn-sound task all ask Begun earlier outcome l d = absurd (cc d.1)
turn-sound task all ask (Next operation) earlier outcome l d =
    next-sound task (marks_of task.command (record { ask = ask; heard = Next operation } ∷ earlier)) operation.done outcome d
turn-sound task all ask (Fetched texts) earlier outcome l d =
    finished-sound task.command (found_of task.command earlier) texts outcome (fetch-wants task all earlier l.2 (map digest_of texts) (sym l.0 ∙ l.1)) d
turn-sound task all ask (Fault fault) earlier outcome l d =
    absurd (fault-none task (marks_of task.command (record { ask = ask; heard = Fault fault } ∷ earlier)) (phase_of ask) fault outcome d)
turn-sound task all ask (Over code) earlier outcome l d =
    absurd (over-none task (marks_of task.command (record { ask = ask; heard = Over code } ∷ earlier)) code outcome d)
turn-sound task all ask (Blobs fault) earlier outcome l d =
    absurd (blobs-none task (marks_of task.command (record { ask = ask; heard = Blobs fault } ∷ earlier)) (phase_of ask) fault outcome d)
turn-sound task all ask (Stopped decision) earlier outcome l d = absurd (cc d.1)

-- In a legal history an end with an outcome is proper, and within the limits.
pub done-sound : (task : Task) (all : List Digest) (history : List Turn) (outcome : Outcome) (origin : Origin) → IsLegal task all history →
    next_of task history ≡ End (ends.Done outcome origin) → IsSoundOutcome task.command outcome
done-sound task all [] outcome origin l e = absurd (cc e)
done-sound task all (turn ∷ earlier) outcome origin l e = turn-sound task all turn.ask turn.heard earlier outcome l (origin, e)
