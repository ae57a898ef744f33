use Rattle.std.proofs.Common.{[], ◌∷◌, ◌++◌, true, false, not, ap, append-nil, sym, ◌∙◌}
use Rattle.std.specs.Option.{is_some}
use Rattle.rx_scan.proofs.InputSteps.{empty-more}
use Rattle.rx_scan.proofs.inputs.empty_among.Goals as goal
use Rattle.rx_scan.proofs.inputs.empty_among.Goals.{then-is_none+in_ok-try_clone+in_ok-push, else-is_none}

pub loop-dir-preserved : goal.loop-dir-preserved
loop-dir-preserved c =
    let some = ap is_some (sym c.first_below.ensures) ∙ c.is_none.ensures in
    elim c.if-is_none.branch [
      | then-is_none+in_ok-try_clone+in_ok-push w ↦
          empty-more c.args.files.now c.args.dirs.now c.loop-dir.dir-index c.dir-item.result true c.loop-dir.empty c.if-is_none.empty c.loop-dir-test.true c.dir-item.is
          (some ∙ ap not w.if-is_none.true) c.loop-dir.invariant (w.empty-is ∙ w.in_ok-push.ensures.ok ∙ ap (λ p. c.loop-dir.empty ++ p ∷ []) w.in_ok-try_clone.ensures)
      | else-is_none w ↦
          empty-more c.args.files.now c.args.dirs.now c.loop-dir.dir-index c.dir-item.result false c.loop-dir.empty c.if-is_none.empty c.loop-dir-test.true c.dir-item.is
          (some ∙ ap not w.if-is_none.false) c.loop-dir.invariant (w.empty-is ∙ sym (append-nil c.loop-dir.empty))
    ]
