use Rattle.std.proofs.Common.{[], ◌∷◌, ◌++◌, ◌==◌, length, true, false, not, ap, append-nil, sym, ◌∙◌}
use Rattle.rx_scan.proofs.PathSteps.{filter-more}
use Rattle.rx_scan.proofs.path_lists.below_root.Goals as goal
use Rattle.rx_scan.proofs.path_lists.below_root.Goals.{then-not-is_root+in_ok-try_clone+in_ok-push, else-not-is_root}

pub loop-path-preserved : goal.loop-path-preserved
loop-path-preserved c =
    elim c.if-not-is_root.branch [
      | then-not-is_root+in_ok-try_clone+in_ok-push w ↦
          filter-more (λ path. not (length path == 0)) c.args.paths.now c.loop-path.path-index c.path-item.result true c.loop-path.below c.if-not-is_root.below c.loop-path-test.true c.path-item.is
          (ap not (sym c.is_root.ensures ∙ w.if-not-is_root.true)) c.loop-path.invariant (w.below-is ∙ w.in_ok-push.ensures.ok ∙ ap (λ p. c.loop-path.below ++ p ∷ []) w.in_ok-try_clone.ensures)
      | else-not-is_root w ↦
          filter-more (λ path. not (length path == 0)) c.args.paths.now c.loop-path.path-index c.path-item.result false c.loop-path.below c.if-not-is_root.below c.loop-path-test.true c.path-item.is
          (ap not (sym c.is_root.ensures ∙ w.if-not-is_root.false)) c.loop-path.invariant (w.below-is ∙ sym (append-nil c.loop-path.below))
    ]
