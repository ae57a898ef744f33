-- The loops of an attempt: until the farm told of itself, and from then on.
use Rattle.std.proofs.Common.{◌≡◌, ◌<◌, List, [], Option, subst, sym}
use Rattle.rx_base.specs.Digests.{digest_of}
use Rattle.rx_base.specs.SortedPaths.{AreSorted}
use Rattle.rx_base.specs.declared.digests.Digest.{Digest}
use Rattle.rx_world.specs.declared.attempts.End.{End as AnyEnd}
use Rattle.rx_world.specs.declared.decisions.Decision.{Decision}
use Rattle.rx_world.specs.declared.input_files.InputFile.{InputFile}
use Rattle.rx_world.specs.declared.outcomes.Outcome.{Outcome}
use Rattle.rx_world.specs.declared.remote_causes.RemoteCause.{RemoteCause}
use Rattle.rx_world.specs.declared.sources.Sources as sources
use Rattle.rx_world.specs.declared.world.World as world
use Rattle.rx_exec_messages.specs.declared.callers.Caller as callers
use Rattle.rx_exec_messages.specs.declared.exchanges.Exchange.{Exchange}
use Rattle.rx_exec_messages.specs.Exchanged.{HasExchanged}
use Rattle.rx_exec_messages.proofs.ExchangedLemmas.{exchanges-are, exchanges-then, no-exchange}
use Rattle.rx_remote.specs.declared.states.RemoteState.{RemoteState}
use Rattle.rx_remote.specs.declared.tasks.Task.{Task}
use Rattle.rx_remote.specs.declared.turns.Going.{Going}
use Rattle.rx_remote.specs.Fine.{IsEndOf}
use Rattle.rx_remote.specs.Marks.{phase_of}
use Rattle.rx_remote.specs.Measure.{turns_left}
use Rattle.rx_remote.specs.Reading.{HasRead, IsOwnCause}
use Rattle.rx_remote.specs.Runs.{EndsAfter, GoesOn, HasAsked, HasBegun, HasGone, IsAsking}
use Rattle.rx_remote.specs.States.{IsStateOf}
use Rattle.rx_remote.proofs.FirstLemmas.{asking-start}
use Rattle.rx_remote.proofs.ReadLemmas.{end-anyway, end-later, read-none, read-then}

-- ---- exchanges of any kind

pub any-then : {C W : Type 0} (c : callers.Ghosts C W) (x y z : C) → HasExchanged c x y (λ part. Unit {0}) → HasExchanged c y z (λ part. Unit {0}) →
    HasExchanged c x z (λ part. Unit {0})
any-then c x y z f g = exchanges-then c (λ part. Unit {0}) (λ part. Unit {0}) (λ part. Unit {0}) x y z f g (λ front back is_front is_back. tt)

pub any-exchanged : {C W : Type 0} (c : callers.Ghosts C W) (IsSuch : List Exchange → Type 0) (x y : C) → HasExchanged c x y IsSuch → HasExchanged c x y (λ part. Unit {0})
any-exchanged c IsSuch x y h = exchanges-are c IsSuch (λ part. Unit {0}) x y h (λ part is. tt)

pub any-none : {C W : Type 0} (c : callers.Ghosts C W) (x : C) → HasExchanged c x x (λ part. Unit {0})
any-none c x = no-exchange c (λ part. Unit {0}) x tt

-- ---- until the farm told of itself

pub sorted-state : (task : Task) (state : RemoteState) → state.task ≡ task → AreSorted task.command.outputs → AreSorted state.task.command.outputs
sorted-state task state is sorted = subst (λ (t : Task). AreSorted t.command.outputs) (sym is) sorted

pub asked-start : {C W : Type 0} (w : world.Ghosts W) (c : callers.Ghosts C W) (task : Task) (client : C) (state : RemoteState) → AreSorted task.command.outputs →
    IsStateOf task [] state → HasAsked w c task client client state
asked-start w c task client state sorted s =
    record { asking = asking-start w c task client state s; exchanged = any-none c client; sorted = sorted-state task state s.task_is sorted }

pub asked-on : {C W : Type 0} (w : world.Ghosts W) (c : callers.Ghosts C W) (task : Task) (old now new : C) (state next : RemoteState) → AreSorted task.command.outputs →
    HasAsked w c task old now state → HasExchanged c now new (λ part. Unit {0}) → IsAsking w c task old new next → HasAsked w c task old new next
asked-on w c task old now new state next sorted h e a = record {
  asking = a;
  exchanged = any-then c old now new h.exchanged e;
  sorted = sorted-state task next (a.running (digest_of []) []).going.state_is.task_is sorted;
}

-- ---- from then on

pub gone-start : {C T W : Type 0} (w : world.Ghosts W) (c : callers.Ghosts C W) (s : sources.Ghosts T W) (action : Digest) (stored : List Digest) (files : List InputFile)
    (client : C) (before : T) (first : Going) → HasBegun w c action stored client first → HasGone w c s action stored files client client before before first first
gone-start w c s action stored files client before first b = record {
  begun = b;
  under = λ dialect task old u. u;
  exchanged = any-none c client;
  reads = read-none w s files before (λ answers. Unit {0}) tt;
}

pub gone-on : {C T W : Type 0} (w : world.Ghosts W) (c : callers.Ghosts C W) (s : sources.Ghosts T W) (action : Digest) (stored : List Digest) (files : List InputFile)
    (client now new : C) (before after later : T) (first going next : Going) → HasGone w c s action stored files client now before after first going →
    GoesOn w c action stored now new going next → HasExchanged c now new (λ part. Unit {0}) → HasRead w s files after later (λ answers. Unit {0}) →
    HasGone w c s action stored files client new before later first next
gone-on w c s action stored files client now new before after later first going next h goes e r = record {
  begun = record {
    dialect = h.begun.dialect;
    task = h.begun.task;
    old = h.begun.old;
    sorted = h.begun.sorted;
    under = (goes h.begun.dialect h.begun.task h.begun.old h.begun.under).0;
  };
  under = λ dialect task old u. (goes dialect task old (h.under dialect task old u)).0;
  exchanged = any-then c client now new h.exchanged e;
  reads = read-then w s files before after later (λ answers. Unit {0}) (λ answers. Unit {0}) (λ answers. Unit {0}) h.reads r (λ front back such. tt);
}

pub gone-lowers : {C T W : Type 0} (w : world.Ghosts W) (c : callers.Ghosts C W) (s : sources.Ghosts T W) (action : Digest) (stored : List Digest) (files : List InputFile)
    (client now new : C) (before after : T) (first going next : Going) → HasGone w c s action stored files client now before after first going →
    GoesOn w c action stored now new going next → turns_left next.state.marks (phase_of next.ask) < turns_left going.state.marks (phase_of going.ask)
gone-lowers w c s action stored files client now new before after first going next h goes =
    (goes h.begun.dialect h.begun.task h.begun.old h.begun.under).1

pub gone-ended : {C T W : Type 0} (w : world.Ghosts W) (c : callers.Ghosts C W) (s : sources.Ghosts T W) (action : Digest) (stored : List Digest) (files : List InputFile)
    (client now new : C) (before after : T) (first going : Going) (end : AnyEnd Outcome RemoteCause) → HasGone w c s action stored files client now before after first going →
    EndsAfter w c action stored now new going end → EndsAfter w c action stored client new first end
gone-ended w c s action stored files client now new before after first going end h ends dialect task old u = ends dialect task old (h.under dialect task old u)

-- an end after earlier reads
pub own-after : {T W : Type 0} (w : world.Ghosts W) (s : sources.Ghosts T W) (files : List InputFile) (before after later : T) (told : Option Decision)
    (end : AnyEnd Outcome RemoteCause) → HasRead w s files before after (λ answers. Unit {0}) →
    HasRead w s files after later (λ answers. IsEndOf (IsOwnCause files answers (s.faults after) (s.faults later) told) end) →
    HasRead w s files before later (λ answers. IsEndOf (IsOwnCause files answers (s.faults before) (s.faults later) told) end)
own-after w s files before after later told end r h =
    read-then w s files before after later (λ answers. Unit {0}) (λ answers. IsEndOf (IsOwnCause files answers (s.faults after) (s.faults later) told) end)
    (λ answers. IsEndOf (IsOwnCause files answers (s.faults before) (s.faults later) told) end) r h
    (λ front back such. end-later files front back (s.faults before) (s.faults after) (s.faults later) told end r.gives.later such)

-- an end without any read
pub own-unread : {T W : Type 0} (w : world.Ghosts W) (s : sources.Ghosts T W) (files : List InputFile) (x : T) (told : Option Decision) (end : AnyEnd Outcome RemoteCause) →
    IsEndOf (IsOwnCause [] [] 0 0 told) end → HasRead w s files x x (λ answers. IsEndOf (IsOwnCause files answers (s.faults x) (s.faults x) told) end)
own-unread w s files x told end o =
    read-none w s files x (λ answers. IsEndOf (IsOwnCause files answers (s.faults x) (s.faults x) told) end) (end-anyway files (s.faults x) (s.faults x) told end o)
