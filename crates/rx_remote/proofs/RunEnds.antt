-- How a whole attempt ends.
use Rattle.std.proofs.Common.{◌≡◌, ◌≢◌, ◌⊎◌, ◌∙◌, ◌<◌, List, ◌∷◌, refl, sym, ap, subst, inl, inr}
use Rattle.rx_base.specs.SortedPaths.{HasSameMembers}
use Rattle.rx_base.specs.declared.digests.Digest.{Digest}
use Rattle.rx_tree.specs.Blobs.{HasNoRepeats}
use Rattle.rx_world.specs.declared.attempts.End.{End as AnyEnd}
use Rattle.rx_world.specs.declared.attempts.End.TheVariants as ends
use Rattle.rx_world.specs.declared.attempts.Origin.{Origin}
use Rattle.rx_world.specs.declared.commands.Command.{Command}
use Rattle.rx_world.specs.declared.outcomes.Outcome.{Outcome}
use Rattle.rx_world.specs.declared.remote_causes.RemoteCause.{RemoteCause}
use Rattle.rx_world.specs.declared.remote_causes.RemoteCause.TheVariants as causes
use Rattle.rx_world.specs.declared.trees.Tree.{Tree}
use Rattle.rx_world.specs.declared.versions.Dialect.{Dialect}
use Rattle.rx_world.specs.declared.world.World as world
use Rattle.rx_exec_messages.specs.declared.answers.Capabilities.{Capabilities as FarmCapabilities}
use Rattle.rx_exec_messages.specs.declared.callers.Caller as callers
use Rattle.rx_exec_messages.specs.Dialects.{dialect_of}
use Rattle.rx_exec_messages.specs.Exchanged.{HasExchanged}
use Rattle.rx_remote.specs.declared.asks.Ask.{Ask}
use Rattle.rx_remote.specs.declared.asks.Ask.TheVariants.{Capabilities as AskOfFarm, End}
use Rattle.rx_remote.specs.declared.asks.Heard.{Heard}
use Rattle.rx_remote.specs.declared.asks.Heard.TheVariants.{Begun, Blobs, Cached, Fault, Fetched, Next, Over, Stopped, Told, Uploaded}
use Rattle.rx_remote.specs.declared.states.RemoteState.{RemoteState}
use Rattle.rx_remote.specs.declared.tasks.Task.{Task}
use Rattle.rx_remote.specs.declared.turns.Going.{Going}
use Rattle.rx_remote.specs.Actions.{Work}
use Rattle.rx_remote.specs.Ends.{ListsFault}
use Rattle.rx_remote.specs.Fine.{IsEndOf, IsFine, IsFineCause, IsSoundOutcome}
use Rattle.rx_remote.specs.Grown.{Grew}
use Rattle.rx_remote.specs.History.{next_of}
use Rattle.rx_remote.specs.Legal.{Fits}
use Rattle.rx_remote.specs.Marks.{Turn, phase_of}
use Rattle.rx_remote.specs.Measure.{turns_left}
use Rattle.rx_remote.specs.Runs.{EndsEarly, EndsEarlyOr, EndsUnder, HasRun, HasTold, IsEnded, IsRightEnd, IsUnder, blobs_under, dialect_after, dialect_told, key_under, task_of}
use Rattle.rx_remote.specs.States.{IsStep}
use Rattle.rx_remote.specs.Turns.{IsLater, IsTurn}
use Rattle.rx_remote.proofs.CallEnds.{end-lists}
use Rattle.rx_remote.proofs.CleanEnds.{done-clean}
use Rattle.rx_remote.proofs.FineEnds.{honest-fine}
use Rattle.rx_remote.proofs.LeftAsks.{turn-later}
use Rattle.rx_remote.proofs.MeasureLemmas.{few-faults}
use Rattle.rx_remote.proofs.OnceLemmas.{some-once}
use Rattle.rx_remote.proofs.RunLemmas.{next-is, running-ends, running-lowers, running-on}
use Rattle.rx_remote.proofs.SoundEnds.{done-sound}
use Rattle.rx_remote.specs.declared.phases.Phase.TheVariants as phases

-- ---- once the dialect is told it stays

no-told : (ask : Ask) → IsLater ask → ask ≡ AskOfFarm → ⊥
no-told ask l e = subst IsLater e l

told-stays : (stored : List Digest) (dialect : Dialect) (ask : Ask) (heard : Heard) → IsLater ask → Fits stored ask heard → dialect_after dialect heard ≡ dialect
told-stays stored dialect ask (Told told) l f = absurd (no-told ask l f)
told-stays stored dialect ask (Cached result) l f = refl
told-stays stored dialect ask (Uploaded left_out) l f = refl
told-stays stored dialect ask Begun l f = refl
told-stays stored dialect ask (Next operation) l f = refl
told-stays stored dialect ask (Fetched texts) l f = refl
told-stays stored dialect ask (Fault fault) l f = refl
told-stays stored dialect ask (Over code) l f = refl
told-stays stored dialect ask (Blobs fault) l f = refl
told-stays stored dialect ask (Stopped decision) l f = refl

pub under-on : {C W : Type 0} (w : world.Ghosts W) (c : callers.Ghosts C W) (dialect : Dialect) (action : Digest) (stored : List Digest) (task : Task) (old client new : C)
    (going : Going) (next : RemoteState) (now : Ask) (heard : Heard) → (u : IsUnder w c dialect action stored task old client going) →
    IsTurn w c action stored going.ask client new heard → IsStep task u.history heard next now → phase_of now ≢ phases.Ended →
    IsUnder w c dialect action stored task old new (record { state = next; ask = now }) ×
    (turns_left next.marks (phase_of now) < turns_left going.state.marks (phase_of going.ask))
under-on w c dialect action stored task old client new going next now heard u t s on = (
  record {
    history = record { ask = going.ask; heard = heard } ∷ u.history;
    running = running-on w c action stored task old client new u.history going.state next going.ask now heard u.running t s on;
    dialect_is = ap (λ (d : Dialect). dialect_after d heard) u.dialect_is ∙ told-stays stored dialect going.ask heard u.later t.fits;
    later = subst IsLater (sym (next-is task u.history going.ask now heard next u.running.going.ask_is s)) (turn-later task going.ask heard u.history u.later);
  },
  running-lowers w c action stored task old client new u.history going.state next going.ask now heard u.running t s on,
)

pub under-ends : {C W : Type 0} (w : world.Ghosts W) (c : callers.Ghosts C W) (dialect : Dialect) (action : Digest) (stored : List Digest) (task : Task) (old client new : C)
    (going : Going) (next : RemoteState) (now : Ask) (heard : Heard) (end : AnyEnd Outcome RemoteCause) → (u : IsUnder w c dialect action stored task old client going) →
    IsTurn w c action stored going.ask client new heard → IsStep task u.history heard next now → now ≡ End end →
    EndsUnder w c dialect action stored task old new end
under-ends w c dialect action stored task old client new going next now heard end u t s e = record {
  history = record { ask = going.ask; heard = heard } ∷ u.history;
  ended = running-ends w c action stored task old client new u.history going.state next going.ask now heard end u.running t s e;
  dialect_is = ap (λ (d : Dialect). dialect_after d heard) u.dialect_is ∙ told-stays stored dialect going.ask heard u.later t.fits;
}

pub told-under : {C W : Type 0} (w : world.Ghosts W) (c : callers.Ghosts C W) (action : Digest) (stored : List Digest) (task : Task) (old now : C)
    (told : FarmCapabilities) (going : Going) → HasTold w c task old now told going → IsUnder w c (dialect_of told.low told.high) action stored task old now going
told-under w c action stored task old now told going h =
    record { history = h.history; running = h.running action stored; dialect_is = h.dialect_is; later = h.later }

-- ---- what an end says

fine-end : (end : AnyEnd Outcome RemoteCause) (ask : Ask) → ask ≡ End end → IsFine ask → IsEndOf IsFineCause end
fine-end end ask e f = subst IsFine e f

ended-right : {C W : Type 0} (w : world.Ghosts W) (c : callers.Ghosts C W) (action : Digest) (stored : List Digest) (task : Task) (old new : C) (history : List Turn)
    (end : AnyEnd Outcome RemoteCause) (tree : Tree) → IsEnded w c action stored task old new history end → c.genuine old →
    c.vouches old action task.command (w.tool task.command tree) → IsRightEnd w.tool task.command tree end
ended-right w c action stored task old new history end tree h g v =
    let honest = h.honest (w.tool task.command tree) g v in
    record {
      fine = fine-end end (next_of task history) h.leaves (honest-fine w.blob task (w.tool task.command tree) history honest);
      clean = λ outcome origin e. done-clean w.tool w.blob task tree stored history outcome origin h.legal honest (h.leaves ∙ ap End e);
    }

ended-sound : {C W : Type 0} (w : world.Ghosts W) (c : callers.Ghosts C W) (action : Digest) (stored : List Digest) (task : Task) (old new : C) (history : List Turn)
    (end : AnyEnd Outcome RemoteCause) → IsEnded w c action stored task old new history end →
    (outcome : Outcome) (origin : Origin) → end ≡ ends.Done outcome origin → IsSoundOutcome task.command outcome
ended-sound w c action stored task old new history end h outcome origin e =
    done-sound task stored history outcome origin h.legal (h.leaves ∙ ap End e)

-- an attempt whose memory ran out
memory-right : (tool : Command → Tree → Outcome) (command : Command) (tree : Tree) (end : AnyEnd Outcome RemoteCause) → end ≡ ends.Failed causes.NoMemory →
    IsRightEnd tool command tree end
memory-right tool command tree end e =
    record { fine = subst (IsEndOf IsFineCause) (sym e) tt; clean = λ outcome origin is. absurd (cc (sym e ∙ is)) }

pub memory-run : {C W : Type 0} (w : world.Ghosts W) (c : callers.Ghosts C W) (work : Work) (old new : C) (end : AnyEnd Outcome RemoteCause) →
    end ≡ ends.Failed causes.NoMemory → HasRun w c work old new end
memory-run w c work old new end e = record {
  ended = inl e;
  right = λ tree g v. memory-right w.tool work.command tree end e;
  sound = λ outcome origin is. absurd (cc (sym e ∙ is));
  listed = subst (IsEndOf ListsFault) (sym e) tt;
}

-- an attempt that ended early
early-run : {C W : Type 0} (w : world.Ghosts W) (c : callers.Ghosts C W) (work : Work) (old new : C) (end : AnyEnd Outcome RemoteCause) →
    EndsEarly w c (task_of work) old new end → HasRun w c work old new end
early-run w c work old new end h =
    let dialect = dialect_told h.history in
    let some = some-once (blobs_under work dialect) in
    let stored = some.0 in
    let e = h.ended (key_under work dialect).digest stored in
    record {
      ended = inr (record {
        history = h.history;
        stored = stored;
        of_action = some.1;
        once = some.2;
        legal = e.legal;
        leaves = e.leaves;
        exchanged = e.exchanged;
        counted = e.counted;
        few = few-faults (task_of work) stored h.history e.legal;
      });
      right = λ tree g v.
          let own = (key_under work (c.dialect old)).digest in
          ended-right w c own stored (task_of work) old new h.history end tree (h.ended own stored) g v;
      sound = ended-sound w c (key_under work dialect).digest stored (task_of work) old new h.history end e;
      listed = end-lists (task_of work) h.history end e.leaves;
    }

pub early-or : {C W : Type 0} (w : world.Ghosts W) (c : callers.Ghosts C W) (work : Work) (old new : C) (end : AnyEnd Outcome RemoteCause) →
    EndsEarlyOr w c (task_of work) old new end → HasRun w c work old new end
early-or w c work old new end (inl e) = memory-run w c work old new end e
early-or w c work old new end (inr h) = early-run w c work old new end h

-- an attempt that ended under the dialect that was told
under-run : {C W : Type 0} (w : world.Ghosts W) (c : callers.Ghosts C W) (work : Work) (old new : C) (dialect : Dialect) (stored : List Digest)
    (end : AnyEnd Outcome RemoteCause) → HasSameMembers (blobs_under work dialect) stored → HasNoRepeats stored → (c.genuine old → dialect ≡ c.dialect old) →
    EndsUnder w c dialect (key_under work dialect).digest stored (task_of work) old new end → HasRun w c work old new end
under-run w c work old new dialect stored end members once own h = record {
  ended = inr (record {
    history = h.history;
    stored = stored;
    of_action = subst (λ (d : Dialect). HasSameMembers (blobs_under work d) stored) (sym h.dialect_is) members;
    once = once;
    legal = h.ended.legal;
    leaves = h.ended.leaves;
    exchanged = subst (λ (d : Dialect). HasExchanged c old new (Grew (key_under work d).digest stored h.history)) (sym h.dialect_is) h.ended.exchanged;
    counted = h.ended.counted;
    few = few-faults (task_of work) stored h.history h.ended.legal;
  });
  right = λ tree g v. ended-right w c (key_under work dialect).digest stored (task_of work) old new h.history end tree h.ended g
      (subst (λ (d : Dialect). c.vouches old (key_under work d).digest work.command (w.tool work.command tree)) (sym (own g)) v);
  sound = ended-sound w c (key_under work dialect).digest stored (task_of work) old new h.history end h.ended;
  listed = end-lists (task_of work) h.history end h.ended.leaves;
}

pub under-or : {C W : Type 0} (w : world.Ghosts W) (c : callers.Ghosts C W) (work : Work) (old new : C) (dialect : Dialect) (action : Digest) (stored : List Digest)
    (end : AnyEnd Outcome RemoteCause) → action ≡ (key_under work dialect).digest → HasSameMembers (blobs_under work dialect) stored → HasNoRepeats stored →
    (c.genuine old → dialect ≡ c.dialect old) → (end ≡ ends.Failed causes.NoMemory) ⊎ EndsUnder w c dialect action stored (task_of work) old new end →
    HasRun w c work old new end
under-or w c work old new dialect action stored end is members once own (inl e) = memory-run w c work old new end e
under-or w c work old new dialect action stored end is members once own (inr h) =
    under-run w c work old new dialect stored end members once own (subst (λ (a : Digest). EndsUnder w c dialect a stored (task_of work) old new end) is h)

-- the dialect that was told is the farm's own
pub told-own : {C W : Type 0} (w : world.Ghosts W) (c : callers.Ghosts C W) (task : Task) (old now : C) (told : FarmCapabilities) (going : Going) →
    HasTold w c task old now told going → c.genuine old → dialect_of told.low told.high ≡ c.dialect old
told-own w c task old now told going h g = sym h.dialect_is ∙ h.own g
