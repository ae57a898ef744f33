-- Until the farm told of itself.
use Rattle.std.proofs.Common.{◌≡◌, ◌≢◌, ◌⊎◌, ◌∙◌, ◌<◌, Bool, true, false, cond, List, [], ◌∷◌, Option, None, Some, refl, subst, inl, inr}
use Rattle.rx_base.specs.Digests.{digest_of}
use Rattle.rx_base.specs.declared.digests.Digest.{Digest}
use Rattle.rx_world.specs.declared.attempts.End.{End as AnyEnd}
use Rattle.rx_world.specs.declared.call_faults.CallFault.{CallFault}
use Rattle.rx_world.specs.declared.outcomes.Outcome.{Outcome}
use Rattle.rx_world.specs.declared.remote_causes.RemoteCause.{RemoteCause}
use Rattle.rx_world.specs.declared.remote_causes.RemoteCause.TheVariants as causes
use Rattle.rx_world.specs.declared.world.World as world
use Rattle.rx_exec_messages.specs.declared.answers.Capabilities.{Capabilities as FarmCapabilities}
use Rattle.rx_exec_messages.specs.declared.callers.Caller as callers
use Rattle.rx_remote.specs.declared.asks.Ask.{Ask}
use Rattle.rx_remote.specs.declared.asks.Ask.TheVariants.{Capabilities, End, Upload}
use Rattle.rx_remote.specs.declared.asks.Heard.{Heard}
use Rattle.rx_remote.specs.declared.asks.Heard.TheVariants.{Begun, Blobs, Cached, Fault, Fetched, Next, Over, Stopped, Told, Uploaded}
use Rattle.rx_remote.specs.declared.marks.Marks.{Marks}
use Rattle.rx_remote.specs.declared.phases.Phase.TheVariants as phases
use Rattle.rx_remote.specs.declared.states.RemoteState.{RemoteState}
use Rattle.rx_remote.specs.declared.tasks.Task.{Task}
use Rattle.rx_remote.specs.declared.turns.Going.{Going}
use Rattle.rx_remote.specs.Faults.{is_no_memory}
use Rattle.rx_remote.specs.History.{after_fault, asks_again, failed, next_of, unless_asked_again}
use Rattle.rx_remote.specs.Legal.{Fits}
use Rattle.rx_remote.specs.Marks.{Turn, marks_of, phase_of}
use Rattle.rx_remote.specs.Measure.{turns_left}
use Rattle.rx_remote.specs.Runs.{EndsEarly, FirstGoesOn, HasTold, IsAsking, TellsOwn, told_in}
use Rattle.rx_remote.specs.States.{IsStateOf, IsStep}
use Rattle.rx_remote.specs.Turns.{IsRunning, IsTurn}
use Rattle.rx_remote.proofs.LeftAsks.{told-later}
use Rattle.rx_remote.proofs.RunLemmas.{next-is, running-ends, running-lowers, running-on, running-start}

pub asking-start : {C W : Type 0} (w : world.Ghosts W) (c : callers.Ghosts C W) (task : Task) (client : C) (state : RemoteState) → IsStateOf task [] state →
    IsAsking w c task client client state
asking-start w c task client state s =
    record { history = []; running = λ action stored. running-start w c action stored task client state s }

-- ---- what isn't an end is the same ask again

same-unless : (task : Task) (marks : Marks) (fault : CallFault) (b : Bool) →
    phase_of (unless_asked_again task marks phases.Capabilities fault b) ≢ phases.Ended → unless_asked_again task marks phases.Capabilities fault b ≡ Capabilities
same-unless task marks fault true on = refl
same-unless task marks fault false on = absurd (on refl)

same-memory : (task : Task) (marks : Marks) (fault : CallFault) (b c : Bool) →
    phase_of (cond b (failed causes.NoMemory) (unless_asked_again task marks phases.Capabilities fault c)) ≢ phases.Ended →
    cond b (failed causes.NoMemory) (unless_asked_again task marks phases.Capabilities fault c) ≡ Capabilities
same-memory task marks fault true c on = absurd (on refl)
same-memory task marks fault false c on = same-unless task marks fault c on

same-fault : (task : Task) (marks : Marks) (fault : CallFault) → phase_of (after_fault task marks phases.Capabilities fault) ≢ phases.Ended →
    after_fault task marks phases.Capabilities fault ≡ Capabilities
unfolding after_fault
same-fault task marks fault on = same-memory task marks fault (is_no_memory fault) (asks_again marks phases.Capabilities fault) on

no-upload : (Fact : Type 0) → (Capabilities ≡ Upload false) ⊎ ((Capabilities ≡ Upload true) × Fact) → ⊥
no-upload Fact (inl e) = cc e
no-upload Fact (inr e) = cc e.0

first-same : (task : Task) (heard : Heard) (earlier : List Turn) → Fits [] Capabilities heard → told_in heard ≡ None →
    phase_of (next_of task (record { ask = Capabilities; heard = heard } ∷ earlier)) ≢ phases.Ended →
    next_of task (record { ask = Capabilities; heard = heard } ∷ earlier) ≡ Capabilities
first-same task (Told told) earlier f none on = absurd (cc none)
first-same task (Cached result) earlier f none on = absurd (cc f)
first-same task (Uploaded left_out) earlier f none on = absurd (no-upload _ f.1)
first-same task Begun earlier f none on = absurd f
first-same task (Next operation) earlier f none on = absurd (cc f)
first-same task (Fetched texts) earlier f none on = absurd (cc f)
first-same task (Fault fault) earlier f none on =
    same-fault task (marks_of task.command (record { ask = Capabilities; heard = Fault fault } ∷ earlier)) fault on
first-same task (Over code) earlier f none on = absurd (cc f)
first-same task (Blobs fault) earlier f none on = absurd f
first-same task (Stopped decision) earlier f none on = absurd (on refl)

-- what was told is in what was heard
heard-told : (heard : Heard) (told : FarmCapabilities) → told_in heard ≡ Some told → heard ≡ Told told
heard-told (Told made) told e = cc
heard-told (Cached result) told e = absurd (cc e)
heard-told (Uploaded left_out) told e = absurd (cc e)
heard-told Begun told e = absurd (cc e)
heard-told (Next operation) told e = absurd (cc e)
heard-told (Fetched texts) told e = absurd (cc e)
heard-told (Fault fault) told e = absurd (cc e)
heard-told (Over code) told e = absurd (cc e)
heard-told (Blobs fault) told e = absurd (cc e)
heard-told (Stopped decision) told e = absurd (cc e)

-- ---- one turn

first-goes : {C W : Type 0} (w : world.Ghosts W) (c : callers.Ghosts C W) (task : Task) (old client new : C) (state next : RemoteState) (now : Ask) (heard : Heard)
    (told : Option FarmCapabilities) → told_in heard ≡ told → TellsOwn c client told →
    ((action : Digest) (stored : List Digest) → IsTurn w c action stored Capabilities client new heard) → (a : IsAsking w c task old client state) →
    IsStep task a.history heard next now → phase_of now ≢ phases.Ended → FirstGoesOn w c task old new state told (record { state = next; ask = now })
first-goes w c task old client new state next now heard (Some told) is own t a s on =
    let heard_is = heard-told heard told is in
    let history : List Turn = record { ask = Capabilities; heard = heard } ∷ a.history in
    let first = λ (action : Digest) (stored : List Digest). running-on w c action stored task old client new a.history state next Capabilities now heard
    (a.running action stored) (t action stored) s on in
    record {
      history = history;
      running = first;
      dialect_is = rw heard_is refl;
      own = λ g. let anyone = a.running (digest_of []) [] in let stays = anyone.exchanged.exchanged.stays in
          rw heard_is (own (stays.still_genuine g) ∙ stays.same_dialect);
      later = rw (next-is task a.history Capabilities now heard next (a.running (digest_of []) []).going.ask_is s, heard_is) (told-later task told);
    }
first-goes w c task old client new state next now heard None is own t a s on =
    let anyone = a.running (digest_of []) [] in
    let at = next-is task a.history Capabilities now heard next anyone.going.ask_is s in
    let turn = t (digest_of []) [] in
    let same : now ≡ Capabilities = at ∙ first-same task heard a.history turn.fits is (subst (λ (x : Ask). phase_of x ≢ phases.Ended) at on) in (
      record {
        history = record { ask = Capabilities; heard = heard } ∷ a.history;
        running = λ action stored. subst (λ (x : Ask). IsRunning w c action stored task old new (record { ask = Capabilities; heard = heard } ∷ a.history) next x) same
            (running-on w c action stored task old client new a.history state next Capabilities now heard (a.running action stored) (t action stored) s on);
      },
      subst (λ (x : Ask). turns_left next.marks (phase_of x) < turns_left state.marks phases.Capabilities) same
          (running-lowers w c (digest_of []) [] task old client new a.history state next Capabilities now heard anyone turn s on),
    )

pub first-turns : {C W : Type 0} (w : world.Ghosts W) (c : callers.Ghosts C W) (task : Task) (old client new : C) (state next : RemoteState) (now : Ask) (heard : Heard) →
    TellsOwn c client (told_in heard) → ((action : Digest) (stored : List Digest) → IsTurn w c action stored Capabilities client new heard) →
    (a : IsAsking w c task old client state) → IsStep task a.history heard next now → phase_of now ≢ phases.Ended →
    FirstGoesOn w c task old new state (told_in heard) (record { state = next; ask = now })
first-turns w c task old client new state next now heard own t a s on =
    first-goes w c task old client new state next now heard (told_in heard) refl own t a s on

pub first-ends : {C W : Type 0} (w : world.Ghosts W) (c : callers.Ghosts C W) (task : Task) (old client new : C) (state next : RemoteState) (now : Ask) (heard : Heard)
    (end : AnyEnd Outcome RemoteCause) → ((action : Digest) (stored : List Digest) → IsTurn w c action stored Capabilities client new heard) →
    (a : IsAsking w c task old client state) → IsStep task a.history heard next now → now ≡ End end → EndsEarly w c task old new end
first-ends w c task old client new state next now heard end t a s e = record {
  history = record { ask = Capabilities; heard = heard } ∷ a.history;
  ended = λ action stored. running-ends w c action stored task old client new a.history state next Capabilities now heard end (a.running action stored) (t action stored) s e;
}

pub first-none : {C W : Type 0} (w : world.Ghosts W) (c : callers.Ghosts C W) (task : Task) (old now : C) (state : RemoteState) (told : Option FarmCapabilities) (going : Going) →
    told ≡ None → FirstGoesOn w c task old now state told going →
    IsAsking w c task old now going.state × (turns_left going.state.marks phases.Capabilities < turns_left state.marks phases.Capabilities)
first-none w c task old now state told going e f = subst (λ (t : Option FarmCapabilities). FirstGoesOn w c task old now state t going) e f

pub first-some : {C W : Type 0} (w : world.Ghosts W) (c : callers.Ghosts C W) (task : Task) (old now : C) (state : RemoteState) (told : Option FarmCapabilities)
    (made : FarmCapabilities) (going : Going) → told ≡ Some made → FirstGoesOn w c task old now state told going → HasTold w c task old now made going
first-some w c task old now state told made going e f = subst (λ (t : Option FarmCapabilities). FirstGoesOn w c task old now state t going) e f
