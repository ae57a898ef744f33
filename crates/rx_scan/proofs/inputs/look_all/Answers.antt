use Rattle.std.proofs.Common.{[], sym}
use Rattle.std.proofs.lemmas.Result.{err_from_is_err_and}
use Rattle.rx_reach.specs.Scenes.{Always}
use Rattle.rx_reach.proofs.ScanLemmas.{scans-none, scans-on}
use Rattle.rx_scan.proofs.InputSteps.{look-end, look-failed, look-missing, look-more, look-start, out_of_memory_then}
use Rattle.rx_scan.proofs.inputs.look_all.Goals as goal

pub loop-input-init : goal.loop-input-init
loop-input-init g c = record {
  scans = scans-none _ _ _ _ Always (λ scene _. tt);
  seen = look-start c.args.sights.now c.args.inputs.now (record { files = c.new.result; dirs = c.new-2.result }) c.new.ensures c.new-2.ensures;
}

pub returns-in_err-look : goal.returns-in_err-look
returns-in_err-look g c =
    let p = err_from_is_err_and c.from_residual.result c.from_residual.ensures.1 in
    rw (p.1, p.2) (record { looked = look-failed _ _ _ _ _ _ _ _ _ c.args.inputs.now [] _ c.loop-input.invariant.scans c.in_err-look.ensures.err })

pub returns-in_err-try_clone : goal.returns-in_err-try_clone
returns-in_err-try_clone g c =
    let p = err_from_is_err_and c.from_residual-in_err-try_clone.result c.from_residual-in_err-try_clone.ensures.1 in
    rw (p.1, p.2) (record { looked = out_of_memory_then _ _ _ _ _ _ _ _ _ _ c.args.inputs.now [] c.loop-input.invariant.scans c.in_ok-look.ensures.ok })

pub returns-then-is_absent : goal.returns-then-is_absent
returns-then-is_absent g c =
    record { looked = look-missing _ _ _ _ _ _ _ _ _ _ c.args.inputs.now [] _ _ _ _ _ c.loop-input-test.true c.input-item.is c.in_ok-try_clone.ensures (sym c.if-is_absent.ensures) c.loop-input.invariant.scans c.in_ok-look.ensures.ok c.loop-input.invariant.seen c.in_ok-look.ensures.seen }

pub returns-in_err-add : goal.returns-in_err-add
returns-in_err-add g c =
    let p = err_from_is_err_and c.from_residual-in_err-add.result c.from_residual-in_err-add.ensures.1 in
    rw (p.1, p.2) (record { looked = out_of_memory_then _ _ _ _ _ _ _ _ _ _ c.args.inputs.now [] c.loop-input.invariant.scans c.in_ok-look.ensures.ok })

pub loop-input-preserved : goal.loop-input-preserved
loop-input-preserved g c =
    let looked = c.in_ok-look.ensures in
    record {
      scans = scans-on _ _ _ _ _ _ _ _ _ _ c.loop-input.invariant.scans looked.ok;
      seen = look-more _ _ looked.ok.answers c.args.inputs.now _ _ _ _ _ c.loop-input-test.true c.input-item.is (sym c.if-is_absent.ensures) c.in_ok-add.ensures c.loop-input.invariant.seen looked.ok.notes looked.seen;
    }

pub returns : goal.returns
returns g c = record { looked = look-end _ _ _ _ _ _ _ c.args.inputs.now c.loop-input.input-index c.loop-input.looked c.loop-input-test.false c.loop-input.invariant.scans c.loop-input.invariant.seen }
