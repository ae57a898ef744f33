use Rattle.std.proofs.Common.{take, map, ◌+◌, []}
use Rattle.std.proofs.lemmas.Result.{err_from_is_err_and}
use Rattle.std.specs.Prelude.{flat_map}
use Rattle.rx_lex.specs.declared.found.Include.{Include}
use Rattle.rx_lex.specs.Found.{name_view}
use Rattle.rx_reach.specs.Searches.{tries_of}
use Rattle.rx_reach.specs.Progress.{Seeks}
use Rattle.rx_reach.proofs.KnownLemmas.{known-join}
use Rattle.rx_reach.proofs.ScanLemmas.{ends-join, scans-join, scans-none, scans-say}
use Rattle.rx_reach.proofs.SeekLemmas.{flat-end-mapped, flat-next, seeks-none, stays-join, stays-same}
use Rattle.rx_reach.proofs.seeks.seek_includes.Goals as goal

pub loop-include-init : goal.loop-include-init
loop-include-init g c = record {
  scans = scans-none _ _ _ _ (λ scene. Seeks scene c.args.file.now [] c.args.progress.now c.args.progress.now) (λ scene _. seeks-none scene c.args.file.now c.args.progress.now);
  stays = stays-same c.args.progress.now;
  known = λ _ all. all;
}

pub returns-in_err-seek_include-clause-err : goal.returns-in_err-seek_include-clause-err
returns-in_err-seek_include-clause-err g c =
    let p = err_from_is_err_and c.from_residual.result c.from_residual.ensures.1 in
    rw (p.1, p.2) (ends-join _ _ _ _ _ _ _ _ _ c.loop-include.invariant.scans c.in_err-seek_include.ensures.err)

pub loop-include-preserved : goal.loop-include-preserved
loop-include-preserved g c = record {
  scans =
      scans-join _ _ _ _ _ _ _ _
      (λ scene. Seeks scene c.args.file.now (flat_map (λ (include : Include). tries_of c.args.search.now c.args.file.now (name_view include)) (take c.loop-include.include-index c.args.list.now)) c.args.progress.now c.loop-include.progress)
      (λ scene. Seeks scene c.args.file.now ((λ (include : Include). tries_of c.args.search.now c.args.file.now (name_view include)) c.include-item.result) c.loop-include.progress c.seek_include.new.progress)
      (λ scene. Seeks scene c.args.file.now (flat_map (λ (include : Include). tries_of c.args.search.now c.args.file.now (name_view include)) (take (c.loop-include.include-index + 1) c.args.list.now)) c.args.progress.now c.seek_include.new.progress)
      c.loop-include.invariant.scans c.in_ok-seek_include.ensures.ok
      (λ scene a b. flat-next scene c.args.file.now (λ (include : Include). tries_of c.args.search.now c.args.file.now (name_view include)) c.args.list.now c.loop-include.include-index c.include-item.result _ _ _ c.loop-include-test.true c.include-item.is a b);
  stays = stays-join c.args.progress.now c.loop-include.progress c.seek_include.new.progress c.loop-include.invariant.stays c.in_ok-seek_include.ensures.stays;
  known = known-join c.args.sights.now c.loop-include.sights c.seek_include.new.sights c.loop-include.invariant.scans.answers c.args.file.now c.args.progress.now c.loop-include.progress c.seek_include.new.progress c.loop-include.invariant.scans.notes c.loop-include.invariant.known c.in_ok-seek_include.ensures.known;
}

pub returns-clause-ok : goal.returns-clause-ok
returns-clause-ok g c =
    scans-say _ _ _ _ _ _
    (λ scene. Seeks scene c.args.file.now (flat_map (λ (include : Include). tries_of c.args.search.now c.args.file.now (name_view include)) (take c.loop-include.include-index c.args.list.now)) c.args.progress.now c.loop-include.progress)
    (λ scene. Seeks scene c.args.file.now (flat_map (tries_of c.args.search.now c.args.file.now) (map name_view c.args.list.now)) c.args.progress.now c.loop-include.progress)
    c.loop-include.invariant.scans (λ scene a. flat-end-mapped scene c.args.file.now (tries_of c.args.search.now c.args.file.now) name_view c.args.list.now c.loop-include.include-index _ _ c.loop-include-test.false a)

pub returns-clause-known : goal.returns-clause-known
returns-clause-known g c = c.loop-include.invariant.known
