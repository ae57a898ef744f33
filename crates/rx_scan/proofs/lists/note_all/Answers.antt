use Rattle.std.specs.Prelude.{None}
use Rattle.std.proofs.lemmas.Result.{err_from_is_err_and}
use Rattle.rx_scan.proofs.ListSteps.{note-failed, note-more}
use Rattle.rx_scan.proofs.lists.note_all.Goals as goal

pub returns-in_err-note-clause-changed : goal.returns-in_err-note-clause-changed
returns-in_err-note-clause-changed c =
    let p = err_from_is_err_and c.from_residual.result c.from_residual.ensures.1 in
    rw (p.1, p.2) (λ before now. note-failed _ _ _ _ _ before now _ c.loop-item-test.true c.item-item.is c.loop-item.invariant (c.in_err-note.ensures.changed None before now))

pub loop-item-preserved : goal.loop-item-preserved
loop-item-preserved c = note-more _ _ _ _ _ _ c.loop-item-test.true c.item-item.is c.loop-item.invariant (c.in_ok-note.ensures.noted None)
