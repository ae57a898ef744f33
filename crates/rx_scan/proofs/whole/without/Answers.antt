use Rattle.std.proofs.Common.{[], ◌∷◌, ◌++◌, ap, append-nil, sym, ◌∙◌}
use Rattle.rx_scan.proofs.WholeSteps.{without-more}
use Rattle.rx_scan.proofs.whole.without.Goals as goal
use Rattle.rx_scan.proofs.whole.without.Goals.{then-not-is_among+in_ok-try_clone+in_ok-push, else-not-is_among}

pub loop-path-preserved : goal.loop-path-preserved
loop-path-preserved c =
    elim c.if-not-is_among.branch [
      | then-not-is_among+in_ok-try_clone+in_ok-push w ↦
          without-more c.args.paths.now c.args.others.now c.loop-path.path-index c.path-item.result c.is_among.result c.loop-path.left c.if-not-is_among.left c.loop-path-test.true c.path-item.is (sym c.is_among.ensures) c.loop-path.invariant
          (rw w.if-not-is_among.true (w.left-is ∙ w.in_ok-push.ensures.ok ∙ ap (λ p. c.loop-path.left ++ p ∷ []) w.in_ok-try_clone.ensures))
      | else-not-is_among w ↦
          without-more c.args.paths.now c.args.others.now c.loop-path.path-index c.path-item.result c.is_among.result c.loop-path.left c.if-not-is_among.left c.loop-path-test.true c.path-item.is (sym c.is_among.ensures) c.loop-path.invariant
          (rw w.if-not-is_among.false (w.left-is ∙ sym (append-nil c.loop-path.left)))
    ]
