use Rattle.std.proofs.Common.{◌∙◌, ℕ, List, Some, ap, sym}
use Rattle.rx_tree.proofs.LeastLemmas.{all_neighbours, found_neighbours, no_neighbours}
use Rattle.rx_tree.specs.Search.{is_conflict, lesser_of, place}
use Rattle.rx_tree.proofs.refusals.least_conflict.Goals.{then-is_conflict, else-is_conflict}
use Rattle.rx_tree.proofs.refusals.least_conflict.Goals as goal

pub loop-i-preserved : goal.loop-i-preserved
loop-i-preserved c =
    elim c.if-is_conflict.branch [
      | then-is_conflict w ↦
          rw w.least-is
          (found_neighbours (is_conflict c.args.conflict) c.args.entries.now c.loop-i.i c.index-entries-i.result c.index-entries-i-in-loop-i.result c.loop-i.auto.i c.loop-i-test.true c.index-entries-i.is c.index-entries-i-in-loop-i.is
          (place c.loop-i.least) (place w.lesser-least.result) c.loop-i.invariant (sym c.is_conflict.ensures ∙ w.if-is_conflict.true)
          (w.lesser-least.ensures ∙ ap (λ (p : List ℕ). Some (lesser_of (place c.loop-i.least) p)) w.path.ensures))
      | else-is_conflict w ↦
          rw w.least-is
          (no_neighbours (is_conflict c.args.conflict) c.args.entries.now c.loop-i.i c.index-entries-i.result c.index-entries-i-in-loop-i.result c.loop-i.auto.i c.loop-i-test.true c.index-entries-i.is c.index-entries-i-in-loop-i.is
          (place c.loop-i.least) c.loop-i.invariant (sym c.is_conflict.ensures ∙ w.if-is_conflict.false))
    ]

pub returns : goal.returns
returns c = all_neighbours (is_conflict c.args.conflict) c.args.entries.now c.loop-i.i (place c.loop-i.least) c.loop-i-test.false c.loop-i.invariant
