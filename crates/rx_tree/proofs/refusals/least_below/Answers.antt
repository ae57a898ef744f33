use Rattle.std.proofs.Common.{◌∙◌, ℕ, List, Some, ap, arith, sym}
use Rattle.rx_tree.proofs.LeastLemmas.{all_below, found_below, no_below}
use Rattle.rx_tree.specs.Search.{lesser_of, place}
use Rattle.rx_tree.proofs.refusals.least_below.Goals.{then-stands_under, else-stands_under}
use Rattle.rx_tree.proofs.refusals.least_below.Goals as goal

pub loop-entry-preserved : goal.loop-entry-preserved
loop-entry-preserved c =
    elim c.if-stands_under.branch [
      | then-stands_under w ↦
          rw w.least-is
          (found_below c.args.entries.now c.args.path.now c.loop-entry.entry-index c.entry-item.result c.loop-entry-test.true c.entry-item.is _ (place w.lesser-least.result) c.loop-entry.invariant
          (sym c.stands_under.ensures ∙ w.if-stands_under.true)
          (w.lesser-least.ensures ∙ ap (λ (p : List ℕ). Some (lesser_of (place c.loop-entry.least) p)) w.path.ensures))
      | else-stands_under w ↦
          rw w.least-is
          (no_below c.args.entries.now c.args.path.now c.loop-entry.entry-index c.entry-item.result c.loop-entry-test.true c.entry-item.is _ c.loop-entry.invariant (sym c.stands_under.ensures ∙ w.if-stands_under.false))
    ]

pub returns : goal.returns
returns c = all_below c.args.entries.now c.args.path.now c.loop-entry.entry-index (place c.loop-entry.least) (omega (arith, c.loop-entry.auto)) c.loop-entry.invariant
