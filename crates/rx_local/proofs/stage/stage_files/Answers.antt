use Rattle.std.proofs.Common.{arith, refl, ◌∙◌}
use Rattle.std.proofs.lemmas.Result.{err_from_is_err_and}
use Rattle.rx_local.proofs.Staging.{failed-at, has-more, has-none}
use Rattle.rx_local.proofs.stage.stage_files.Goals as goal

pub loop-file-init : goal.loop-file-init
loop-file-init g c = record { so_far = has-none _ _ _ _; runs = refl; failed = λ none. none; benches = omega arith; sources = omega arith }

pub returns-in_err-stage_file-clause-err : goal.returns-in_err-stage_file-clause-err
returns-in_err-stage_file-clause-err g c =
    let p = err_from_is_err_and c.from_residual.result c.from_residual.ensures.1 in
    rw (p.1, p.2)
    (failed-at _ _ _ _ _ c.args.files.now c.loop-file.file-index c.file-item.result _ _
    c.loop-file-test.true c.file-item.is c.loop-file.invariant.so_far c.in_err-stage_file.ensures.err)

pub loop-file-preserved : goal.loop-file-preserved
loop-file-preserved g c = record {
  so_far = has-more _ _ _ _ _ c.args.files.now c.loop-file.file-index c.file-item.result _ _ _
      c.loop-file-test.true c.file-item.is c.loop-file.invariant.so_far c.in_ok-stage_file.ensures.ok;
  runs = c.in_ok-stage_file.ensures.runs ∙ c.loop-file.invariant.runs;
  failed = λ none. c.in_ok-stage_file.ensures.failed (c.loop-file.invariant.failed none);
  benches = omega (arith, c.loop-file.invariant.benches, c.in_ok-stage_file.ensures.later.0);
  sources = omega (arith, c.loop-file.invariant.sources, c.in_ok-stage_file.ensures.later.1);
}
