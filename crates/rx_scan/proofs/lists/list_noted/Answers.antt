use Rattle.std.proofs.lemmas.Result.{err_from_is_err_and}
use Rattle.rx_scan.proofs.Learning.{fails-one}
use Rattle.rx_scan.proofs.ListSteps.{gives-list, gives-nothing, learns-list}
use Rattle.rx_scan.proofs.WholeTaken.{noted-seen}
use Rattle.rx_scan.proofs.lists.list_noted.Goals as goal

pub returns-in_err-note_all-in-Ok-clause-listed : goal.returns-in_err-note_all-in-Ok-clause-listed
returns-in_err-note_all-in-Ok-clause-listed g c =
    let p = err_from_is_err_and c.from_residual.result c.from_residual.ensures.1 in
    let h = rw c.as_slice.ensures at c.in_err-note_all-in-Ok.ensures.changed in
    rw (p.1, p.2) (fails-one _ _ _ _ _ _ _ _ (gives-list _ _ _ _ _ _ _ c.in-Ok.ensures.list c.in-Ok.ensures.kept c.in-Ok.ensures.holds c.in-Ok.ensures.given c.in-Ok.ensures.cause.later) (h _ _))

pub returns-in_ok-note_all-in-Ok-clause-listed : goal.returns-in_ok-note_all-in-Ok-clause-listed
returns-in_ok-note_all-in-Ok-clause-listed g c =
    learns-list _ _ _ _ _ _ _ _ _ c.in-Ok.ensures.list c.in-Ok.ensures.kept c.in-Ok.ensures.holds c.in-Ok.ensures.given c.in-Ok.ensures.cause.later (rw c.as_slice.ensures at c.in_ok-note_all-in-Ok.ensures.noted)

pub returns-in_ok-try_clone-in-Err-Failed-clause-listed : goal.returns-in_ok-try_clone-in-Err-Failed-clause-listed
returns-in_ok-try_clone-in-Err-Failed-clause-listed g c =
    fails-one _ _ _ _ _ _ _ _ (gives-nothing _ _ _ _ c.in-Err-Failed.ensures.kept c.in-Err-Failed.ensures.failed c.in-Err-Failed.ensures.cause.later) (c.in-Err-Failed.ensures.cause.failed (cc))

pub returns-in_ok-note_all-in-Ok-clause-seen : goal.returns-in_ok-note_all-in-Ok-clause-seen
returns-in_ok-note_all-in-Ok-clause-seen g c = noted-seen _ _ _ (rw c.as_slice.ensures at c.in_ok-note_all-in-Ok.ensures.noted)
