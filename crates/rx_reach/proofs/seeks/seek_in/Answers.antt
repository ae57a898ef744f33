use Rattle.std.proofs.Common.{take, ◌+◌, [], ◌∷◌}
use Rattle.std.proofs.lemmas.Result.{err_from_is_err_and}
use Rattle.rx_reach.specs.Progress.{Seeks}
use Rattle.rx_reach.specs.Searches.{tries_under}
use Rattle.rx_reach.proofs.KnownLemmas.{known-join}
use Rattle.rx_reach.proofs.ScanLemmas.{ends-join, scans-join, scans-none, scans-say}
use Rattle.rx_reach.proofs.SeekLemmas.{seeks-none, stays-join, stays-same, under-end, under-next}
use Rattle.rx_reach.proofs.seeks.seek_in.Goals as goal

pub loop-dir-init : goal.loop-dir-init
loop-dir-init g c = record {
  scans = scans-none _ _ _ _ (λ scene. Seeks scene c.args.blamed.now [] c.args.progress.now c.args.progress.now) (λ scene _. seeks-none scene c.args.blamed.now c.args.progress.now);
  stays = stays-same c.args.progress.now;
  known = λ _ all. all;
}

pub returns-in_err-seek_one-clause-err : goal.returns-in_err-seek_one-clause-err
returns-in_err-seek_one-clause-err g c =
    let p = err_from_is_err_and c.from_residual.result c.from_residual.ensures.1 in
    rw (p.1, p.2) (ends-join _ _ _ _ _ _ _ _ _ c.loop-dir.invariant.scans c.in_err-seek_one.ensures.err)

pub loop-dir-preserved : goal.loop-dir-preserved
loop-dir-preserved g c = record {
  scans =
      scans-join _ _ _ _ _ _ _ _
      (λ scene. Seeks scene c.args.blamed.now (tries_under (take c.loop-dir.dir-index c.args.dirs.now) c.args.name.now) c.args.progress.now c.loop-dir.progress)
      (λ scene. Seeks scene c.args.blamed.now (record { dir = c.dir-item.result; name = c.args.name.now } ∷ []) c.loop-dir.progress c.seek_one.new.progress)
      (λ scene. Seeks scene c.args.blamed.now (tries_under (take (c.loop-dir.dir-index + 1) c.args.dirs.now) c.args.name.now) c.args.progress.now c.seek_one.new.progress)
      c.loop-dir.invariant.scans c.in_ok-seek_one.ensures.ok
      (λ scene a b. under-next scene c.args.blamed.now c.args.dirs.now c.args.name.now c.loop-dir.dir-index c.dir-item.result _ _ _ c.loop-dir-test.true c.dir-item.is a b);
  stays = stays-join c.args.progress.now c.loop-dir.progress c.seek_one.new.progress c.loop-dir.invariant.stays c.in_ok-seek_one.ensures.stays;
  known = known-join c.args.sights.now c.loop-dir.sights c.seek_one.new.sights c.loop-dir.invariant.scans.answers c.args.blamed.now c.args.progress.now c.loop-dir.progress c.seek_one.new.progress c.loop-dir.invariant.scans.notes c.loop-dir.invariant.known c.in_ok-seek_one.ensures.known;
}

pub returns-clause-ok : goal.returns-clause-ok
returns-clause-ok g c =
    scans-say _ _ _ _ _ _
    (λ scene. Seeks scene c.args.blamed.now (tries_under (take c.loop-dir.dir-index c.args.dirs.now) c.args.name.now) c.args.progress.now c.loop-dir.progress)
    (λ scene. Seeks scene c.args.blamed.now (tries_under c.args.dirs.now c.args.name.now) c.args.progress.now c.loop-dir.progress)
    c.loop-dir.invariant.scans (λ scene a. under-end scene c.args.blamed.now c.args.dirs.now c.args.name.now c.loop-dir.dir-index _ _ c.loop-dir-test.false a)

pub returns-clause-known : goal.returns-clause-known
returns-clause-known g c = c.loop-dir.invariant.known
