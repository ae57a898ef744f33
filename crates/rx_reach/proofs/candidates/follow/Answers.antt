use Rattle.std.proofs.Common.{sym, ◌∙◌}
use Rattle.std.proofs.lemmas.Result.{err_from_is_err_and}
use Rattle.rx_reach.specs.Scenes.{Always}
use Rattle.rx_reach.proofs.FollowLemmas.{GoesOn, end-arrives, goes-first, step-passes, step-stops}
use Rattle.rx_reach.proofs.ScanLemmas.{ends-join, ends-memory, scans-none, scans-on, sees-later}
use Rattle.rx_reach.proofs.candidates.follow.Goals as goal

pub loop-step-init : goal.loop-step-init
loop-step-init g c = record {
  scans = scans-none _ _ _ _ Always (λ scene _. tt);
  right = λ scene _. goes-first scene c.args.passed.now c.args.path c.new-left.result c.new-left.ensures;
}

pub returns-in_err-look-clause-err : goal.returns-in_err-look-clause-err
returns-in_err-look-clause-err g c =
    let p = err_from_is_err_and c.from_residual.result c.from_residual.ensures.1 in
    rw (p.1, p.2) (ends-join _ _ _ _ _ _ _ _ _ c.loop-step.invariant.scans c.in_err-look.ensures.err)

pub returns-in_err-candidate-clause-err : goal.returns-in_err-candidate-clause-err
returns-in_err-candidate-clause-err g c =
    let p = err_from_is_err_and c.from_residual-in_err-candidate.result c.from_residual-in_err-candidate.ensures.1 in
    rw (p.1, p.2) (ends-memory _ _ _ _ _ _ _ (scans-on _ _ _ _ _ _ _ _ _ _ c.loop-step.invariant.scans c.in_ok-look.ensures.ok))

pub returns-then-not-is_dir-clause-ok : goal.returns-then-not-is_dir-clause-ok
returns-then-not-is_dir-clause-ok g c = scans-on _ _ _ _ _ _ _ _ _ _ c.loop-step.invariant.scans c.in_ok-look.ensures.ok

pub returns-then-not-is_dir-clause-right : goal.returns-then-not-is_dir-clause-right
returns-then-not-is_dir-clause-right g c = λ scene r.
    let so = sees-later c.loop-step.sights c.pass_step.new.sights c.in_ok-look.ensures.ok.answers (λ scene. GoesOn scene c.args.passed.now c.args.path c.loop-step.left c.loop-step.step-index) c.in_ok-look.ensures.ok.notes c.loop-step.invariant.right scene r in
    step-stops scene c.args.passed.now c.args.path c.loop-step.left c.pass_step.new.left c.loop-step.step-index c.step-item.result c.in_ok-look.look c.in_ok-candidate.candidate
    c.loop-step-test.true c.step-item.is (sym c.is_dir.ensures ∙ c.if-not-is_dir.true) c.in_ok-look.ensures.left c.in_ok-candidate.ensures (c.in_ok-look.ensures.right scene r) so

pub loop-step-preserved : goal.loop-step-preserved
loop-step-preserved g c = record {
  scans = scans-on _ _ _ _ _ _ _ _ _ _ c.loop-step.invariant.scans c.in_ok-look.ensures.ok;
  right = λ scene r.
      let so = sees-later c.loop-step.sights c.pass_step.new.sights c.in_ok-look.ensures.ok.answers (λ scene. GoesOn scene c.args.passed.now c.args.path c.loop-step.left c.loop-step.step-index) c.in_ok-look.ensures.ok.notes c.loop-step.invariant.right scene r in
      step-passes scene c.args.passed.now c.args.path c.loop-step.left c.pass_step.new.left c.loop-step.step-index c.step-item.result c.in_ok-look.look
      c.loop-step-test.true c.step-item.is (sym c.is_dir.ensures ∙ c.if-not-is_dir.false) c.in_ok-look.ensures.left (c.in_ok-look.ensures.right scene r) so;
}

pub returns-in_err-look-2-clause-err : goal.returns-in_err-look-2-clause-err
returns-in_err-look-2-clause-err g c =
    let p = err_from_is_err_and c.from_residual-in_err-look-2.result c.from_residual-in_err-look-2.ensures.1 in
    rw (p.1, p.2) (ends-join _ _ _ _ _ _ _ _ _ c.loop-step.invariant.scans c.in_err-look-2.ensures.err)

pub returns-clause-ok : goal.returns-clause-ok
returns-clause-ok g c = scans-on _ _ _ _ _ _ _ _ _ _ c.loop-step.invariant.scans c.in_ok-look-2.ensures.ok

pub returns-clause-right : goal.returns-clause-right
returns-clause-right g c = λ scene r.
    let looked = c.in_ok-look-2.ensures.ok in
    let so = sees-later c.loop-step.sights c.look.new.self looked.answers (λ scene. GoesOn scene c.args.passed.now c.args.path c.loop-step.left c.loop-step.step-index) looked.notes c.loop-step.invariant.right scene r in
    end-arrives scene c.args.passed.now c.args.path c.loop-step.left c.loop-step.step-index c.in_ok-look-2.look c.candidate_at_end.result c.loop-step-test.false c.candidate_at_end.ensures (r c.args.path c.in_ok-look-2.look c.in_ok-look-2.ensures.seen) so
