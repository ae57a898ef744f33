-- A call of a farm's client that is made once more, by what both calls do.
use Rattle.std.proofs.Common.{ℕ, ◌≤◌, List, Result, Ok, Err, arith}
use Rattle.rx_base.specs.declared.digests.Digest.{Digest}
use Rattle.rx_messages.specs.declared.results.ActionResult.{ActionResult}
use Rattle.rx_world.specs.declared.call_faults.CallFault.{CallFault}
use Rattle.rx_world.specs.declared.versions.Dialect.TheVariants.{New}
use Rattle.rx_world.specs.Causes.{Rose}
use Rattle.rx_exec_messages.specs.Calls.{HasCallCause}
use Rattle.rx_exec_messages.proofs.ExchangedLemmas.{stays-both}
use Rattle.rx_grpc.specs.Caller.{CallerOf}
use Rattle.rx_grpc.specs.Honest.{HonestResult, IsGenuineBy, StaysHonest, VouchesBy}

pub stays-again : {D L : Type 0} (rule : D → List ℕ → List ℕ → Type 0) (old mid new : CallerOf D L) → StaysHonest rule old mid → StaysHonest rule mid new → StaysHonest rule old new
stays-again rule old mid new first second blob operation dialect =
    stays-both (VouchesBy rule blob operation) (IsGenuineBy rule blob operation dialect) (λ c. dialect) old mid new (first blob operation dialect) (second blob operation dialect)

pub honest-again : {D L : Type 0} (rule : D → List ℕ → List ℕ → Type 0) (old mid : CallerOf D L) (digest : Digest) (found : ActionResult) → StaysHonest rule old mid → HonestResult rule mid digest found → HonestResult rule old digest found
honest-again rule old mid digest found stays honest blob operation command outcome vouched =
    honest blob operation command outcome ((stays blob operation New).triples digest command outcome vouched)

rose-before : (a b now : ℕ) → a ≤ b → Rose b now → Rose a now
rose-before a b now le rose = grind (arith, le, rose)

pub cause-again : {T : Type 0} (old mid new : ℕ) (result : Result T CallFault) → old ≤ mid → HasCallCause mid new result → HasCallCause old new result
cause-again old mid new (Ok x) le cause = record { later = let more = cause.later in omega arith; failed = tt }
cause-again old mid new (Err fault) le cause = record {
  later = let more = cause.later in omega arith;
  failed = λ other. rose-before old mid new le (cause.failed other);
}
