use Rattle.std.proofs.Common.{rules, ap, ◌∙◌, ◌++◌, ◌∷◌, [], Some, refl, sym, append-nil}
use Rattle.rx_report.proofs.Tellings.{nothing-told, told-then}
use Rattle.rx_notes.proofs.Steps.{got-one, more-none, more-one, rest, takes}
use Rattle.rx_notes.proofs.telling.tell_rest.Goals as goal

pub pop_as-requires-clause-rule : goal.pop_as-requires-clause-rule
pop_as-requires-clause-rule g c = (takes _ _ (ap (λ v. v.takes) c.loop.invariant.2 ∙ c.requires.takes), rest _ _)

pub loop-init : goal.loop-init
loop-init g c = (c.requires.queue, [], more-none _, nothing-told _ _)

pub loop-preserved-in-Some-Some : goal.loop-preserved-in-Some-Some
loop-preserved-in-Some-Some g c = (
  search rules,
  c.loop.invariant.1 ++ c.in-Some-Some.note ∷ [],
  more-one _ _ _ _ (Some c.in-Some-Some.note) c.loop.invariant.2 (got-one _ _ _ _ _ refl c.in-Some-Some.ensures.rule c.in-Some-Some.field-0-is),
  told-then _ _ _ _ _ _ c.loop.invariant.3 c.tell.ensures,
)
