-- An attempt with a farm's client, from turn to turn and to its end.
use Rattle.std.proofs.Common.{◌≡◌, ◌≢◌, ◌∙◌, ◌<◌, List, [], ◌∷◌, refl, sym, subst, inl, arith}
use Rattle.rx_base.specs.declared.digests.Digest.{Digest}
use Rattle.rx_world.specs.declared.attempts.End.{End as AnyEnd}
use Rattle.rx_world.specs.declared.outcomes.Outcome.{Outcome}
use Rattle.rx_world.specs.declared.remote_causes.RemoteCause.{RemoteCause}
use Rattle.rx_world.specs.declared.world.World as world
use Rattle.rx_exec_messages.specs.declared.callers.Caller as callers
use Rattle.rx_exec_messages.specs.Exchanged.{HasExchanged}
use Rattle.rx_exec_messages.proofs.ExchangedLemmas.{exchanges-then, no-exchange}
use Rattle.rx_remote.specs.declared.asks.Ask.{Ask}
use Rattle.rx_remote.specs.declared.asks.Ask.TheVariants.{Capabilities, End, Execute, Fetch, GetResult, NextOperation, Upload, Wait}
use Rattle.rx_remote.specs.declared.asks.Heard.{Heard}
use Rattle.rx_remote.specs.declared.phases.Phase.TheVariants as phases
use Rattle.rx_remote.specs.declared.states.RemoteState.{RemoteState}
use Rattle.rx_remote.specs.declared.tasks.Task.{Task}
use Rattle.rx_remote.specs.Grown.{Grew, IsPart}
use Rattle.rx_remote.specs.History.{next_of}
use Rattle.rx_remote.specs.Marks.{Turn, faults_of, phase_of}
use Rattle.rx_remote.specs.Measure.{turns_left}
use Rattle.rx_remote.specs.Runs.{IsEnded}
use Rattle.rx_remote.specs.States.{IsStateOf, IsStep}
use Rattle.rx_remote.specs.Turns.{IsHonestSoFar, IsRunning, IsTurn}
use Rattle.rx_remote.proofs.CountLemmas.{rose-on}
use Rattle.rx_remote.proofs.HonestTurns.{going-on, honest-on}
use Rattle.rx_remote.proofs.MeasureLemmas.{step-lowers}

-- before the first turn
pub running-start : {C W : Type 0} (w : world.Ghosts W) (c : callers.Ghosts C W) (action : Digest) (stored : List Digest) (task : Task) (client : C) (state : RemoteState) →
    IsStateOf task [] state → IsRunning w c action stored task client client [] state Capabilities
running-start w c action stored task client state s = record {
  going = record { legal = tt; state_is = s; ask_is = refl; streams = λ e. absurd (cc e) };
  on = λ e. cc e;
  honest = λ outcome g v. record { heard = tt; named = inl refl; runs = λ e. absurd (cc e) };
  exchanged = no-exchange c (Grew action stored []) client refl;
  counted = omega arith;
}

grew-then : {C W : Type 0} (c : callers.Ghosts C W) (action : Digest) (stored : List Digest) (old client new : C) (history : List Turn) (ask : Ask) (heard : Heard) →
    HasExchanged c old client (Grew action stored history) → HasExchanged c client new (IsPart action stored ask heard) →
    HasExchanged c old new (Grew action stored (record { ask = ask; heard = heard } ∷ history))
grew-then c action stored old client new history ask heard f t =
    exchanges-then c (Grew action stored history) (IsPart action stored ask heard) (Grew action stored (record { ask = ask; heard = heard } ∷ history)) old client new f t
    (λ front back is_front is_back. (front, back, refl, is_front, is_back))

honest-then : {C W : Type 0} (w : world.Ghosts W) (c : callers.Ghosts C W) (action : Digest) (stored : List Digest) (task : Task) (old client new : C)
    (history : List Turn) (state : RemoteState) (ask now : Ask) (heard : Heard) →
    IsRunning w c action stored task old client history state ask → IsTurn w c action stored ask client new heard →
    now ≡ next_of task (record { ask = ask; heard = heard } ∷ history) → (outcome : Outcome) → c.genuine old → c.vouches old action task.command outcome →
    IsHonestSoFar w.blob w.operation action task.command outcome (c.running new) (record { ask = ask; heard = heard } ∷ history) now
honest-then w c action stored task old client new history state ask now heard r t at outcome g v =
    let so_far = r.honest outcome g v in
    let stays = r.exchanged.exchanged.stays in
    honest-on task w.blob w.operation action (c.running client) (c.running new) outcome ask now heard history stored so_far r.on r.going.ask_is t.fits
    (t.honest task.command outcome (stays.still_genuine g) (stays.triples action task.command outcome v) so_far.runs) (t.names (stays.still_genuine g)) t.runs at

-- the ask that a step leads to
pub next-is : (task : Task) (history : List Turn) (ask now : Ask) (heard : Heard) (next : RemoteState) → ask ≡ next_of task history → IsStep task history heard next now →
    now ≡ next_of task (record { ask = ask; heard = heard } ∷ history)
next-is task history ask now heard next is s =
    let same : next_of task history ≡ ask = sym is in rw same at s.ask_is

-- the attempt goes on
pub running-on : {C W : Type 0} (w : world.Ghosts W) (c : callers.Ghosts C W) (action : Digest) (stored : List Digest) (task : Task) (old client new : C)
    (history : List Turn) (state next : RemoteState) (ask now : Ask) (heard : Heard) →
    IsRunning w c action stored task old client history state ask → IsTurn w c action stored ask client new heard → IsStep task history heard next now →
    phase_of now ≢ phases.Ended → IsRunning w c action stored task old new (record { ask = ask; heard = heard } ∷ history) next now
running-on w c action stored task old client new history state next ask now heard r t s on = record {
  going = going-on task stored history state next ask now heard (c.streaming client) (c.streaming new) r.going t.fits s t.streams on;
  on = on;
  honest = honest-then w c action stored task old client new history state ask now heard r t (next-is task history ask now heard next r.going.ask_is s);
  exchanged = grew-then c action stored old client new history ask heard r.exchanged t.exchanged;
  counted = rose-on (faults_of history) heard (c.faults old) (c.faults client) (c.faults new) r.counted t.exchanged.exchanged.later t.counted;
}

-- and fewer turns are left
pub running-lowers : {C W : Type 0} (w : world.Ghosts W) (c : callers.Ghosts C W) (action : Digest) (stored : List Digest) (task : Task) (old client new : C)
    (history : List Turn) (state next : RemoteState) (ask now : Ask) (heard : Heard) →
    IsRunning w c action stored task old client history state ask → IsTurn w c action stored ask client new heard → IsStep task history heard next now →
    phase_of now ≢ phases.Ended → turns_left next.marks (phase_of now) < turns_left state.marks (phase_of ask)
running-lowers w c action stored task old client new history state next ask now heard r t s on =
    let same : next_of task history ≡ ask = sym r.going.ask_is in
    let at = next-is task history ask now heard next r.going.ask_is s in
    let after_it : IsStateOf task (record { ask = ask; heard = heard } ∷ history) next = rw same at (s.state_is on) in
    rw (after_it.marks_are, r.going.state_is.marks_are, at)
    (step-lowers task stored history ask heard r.going.ask_is t.fits (subst (λ (x : Ask). phase_of x ≢ phases.Ended) at on))

-- it ends
pub running-ends : {C W : Type 0} (w : world.Ghosts W) (c : callers.Ghosts C W) (action : Digest) (stored : List Digest) (task : Task) (old client new : C)
    (history : List Turn) (state next : RemoteState) (ask now : Ask) (heard : Heard) (end : AnyEnd Outcome RemoteCause) →
    IsRunning w c action stored task old client history state ask → IsTurn w c action stored ask client new heard → IsStep task history heard next now →
    now ≡ End end → IsEnded w c action stored task old new (record { ask = ask; heard = heard } ∷ history) end
running-ends w c action stored task old client new history state next ask now heard end r t s e =
    let at = next-is task history ask now heard next r.going.ask_is s in
    record {
      legal = (r.going.ask_is, t.fits, r.going.legal);
      leaves = sym at ∙ e;
      honest = λ outcome g v. (honest-then w c action stored task old client new history state ask now heard r t at outcome g v).heard;
      exchanged = grew-then c action stored old client new history ask heard r.exchanged t.exchanged;
      counted = rose-on (faults_of history) heard (c.faults old) (c.faults client) (c.faults new) r.counted t.exchanged.exchanged.later t.counted;
    }

pub not-ended : (ask : Ask) → ((end : AnyEnd Outcome RemoteCause) → ask ≡ End end → ⊥) → phase_of ask ≢ phases.Ended
not-ended Capabilities no_end e = cc e
not-ended GetResult no_end e = cc e
not-ended (Upload fresh) no_end e = cc e
not-ended (Execute skip) no_end e = cc e
not-ended NextOperation no_end e = cc e
not-ended (Wait name) no_end e = cc e
not-ended (Fetch digests) no_end e = cc e
not-ended (End end) no_end e = no_end end refl
