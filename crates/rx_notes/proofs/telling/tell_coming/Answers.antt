use Rattle.std.proofs.Common.{rules, ap, ◌++◌, ◌∷◌, [], Some}
use Rattle.rx_report.proofs.Tellings.{nothing-told, told-then}
use Rattle.rx_notes.proofs.Steps.{got-one, takes}
use Rattle.rx_notes.proofs.telling.tell_coming.Goals as goal

pub try_pop_as-requires-clause-rule : goal.try_pop_as-requires-clause-rule
try_pop_as-requires-clause-rule g c = takes _ _ (ap (λ v. v.takes) c.loop.invariant.2)

pub loop-init : goal.loop-init
loop-init g c = (c.requires.queue, [], c.requires.takes, nothing-told _ _)

pub loop-preserved-in-Some-Some : goal.loop-preserved-in-Some-Some
loop-preserved-in-Some-Some g c = (
  search rules,
  c.loop.invariant.1 ++ c.in-Some-Some.note ∷ [],
  got-one _ _ _ _ (Some c.in-Some-Some.note) c.loop.invariant.2 c.in-Some-Some.ensures.rule c.in-Some-Some.field-0-is,
  told-then _ _ _ _ _ _ c.loop.invariant.3 c.tell.ensures,
)
