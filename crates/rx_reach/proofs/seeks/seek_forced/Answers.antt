use Rattle.std.proofs.Common.{sym, subst, ◌∙◌, take, ◌+◌, []}
use Rattle.std.proofs.lemmas.Result.{err_from_is_err_and}
use Rattle.std.specs.Prelude.{flat_map}
use Rattle.rx_reach.specs.Searches.{forced_tries}
use Rattle.rx_reach.specs.Progress.{Seeks}
use Rattle.rx_reach.proofs.KnownLemmas.{known-join}
use Rattle.rx_reach.proofs.ScanLemmas.{ends-join, scans-join, scans-none, scans-say}
use Rattle.rx_reach.proofs.SeekLemmas.{flat-end, flat-next, seeks-none, stays-join, stays-same}
use Rattle.rx_reach.proofs.seeks.seek_forced.Goals as goal

pub loop-name-init : goal.loop-name-init
loop-name-init g c = record {
  scans = scans-none _ _ _ _ (λ scene. Seeks scene c.args.search.now.source [] c.args.progress.now c.args.progress.now) (λ scene _. seeks-none scene c.args.search.now.source c.args.progress.now);
  stays = stays-same c.args.progress.now;
  known = λ _ all. all;
}

pub returns-in_err-seek_from-clause-err : goal.returns-in_err-seek_from-clause-err
returns-in_err-seek_from-clause-err g c =
    let p = err_from_is_err_and c.from_residual.result c.from_residual.ensures.1 in
    rw (p.1, p.2) (ends-join _ _ _ _ _ _ _ _ _ c.loop-name.invariant.scans c.in_err-seek_from.ensures.err)

pub loop-name-preserved : goal.loop-name-preserved
loop-name-preserved g c = record {
  scans =
      scans-join _ _ _ _ _ _ _ _
      (λ scene. Seeks scene c.args.search.now.source (flat_map (forced_tries c.args.search.now) (take c.loop-name.name-index c.as_slice-names.result.now)) c.args.progress.now c.loop-name.progress)
      (λ scene. Seeks scene c.args.search.now.source ((forced_tries c.args.search.now) c.name-item.result) c.loop-name.progress c.seek_from.new.progress)
      (λ scene. Seeks scene c.args.search.now.source (flat_map (forced_tries c.args.search.now) (take (c.loop-name.name-index + 1) c.as_slice-names.result.now)) c.args.progress.now c.seek_from.new.progress)
      c.loop-name.invariant.scans
      (scans-say _ _ _ _ _ _
      (λ scene. Seeks scene c.args.search.now.source (forced_tries c.args.search.now c.as_bytes-bytes.result.now) c.loop-name.progress c.seek_from.new.progress)
      (λ scene. Seeks scene c.args.search.now.source (forced_tries c.args.search.now c.name-item.result) c.loop-name.progress c.seek_from.new.progress)
      c.in_ok-seek_from.ensures.ok
      (λ scene a. subst (λ n. Seeks scene c.args.search.now.source (forced_tries c.args.search.now n) c.loop-name.progress c.seek_from.new.progress) (c.as_bytes-bytes.ensures.value ∙ c.as_str.ensures) a))
      (λ scene a b. flat-next scene c.args.search.now.source (forced_tries c.args.search.now) c.as_slice-names.result.now c.loop-name.name-index c.name-item.result _ _ _ c.loop-name-test.true c.name-item.is a b);
  stays = stays-join c.args.progress.now c.loop-name.progress c.seek_from.new.progress c.loop-name.invariant.stays c.in_ok-seek_from.ensures.stays;
  known = known-join c.args.sights.now c.loop-name.sights c.seek_from.new.sights c.loop-name.invariant.scans.answers c.args.search.now.source c.args.progress.now c.loop-name.progress c.seek_from.new.progress c.loop-name.invariant.scans.notes c.loop-name.invariant.known c.in_ok-seek_from.ensures.known;
}

pub returns-clause-ok : goal.returns-clause-ok
returns-clause-ok g c =
    scans-say _ _ _ _ _ _
    (λ scene. Seeks scene c.args.search.now.source (flat_map (forced_tries c.args.search.now) (take c.loop-name.name-index c.as_slice-names.result.now)) c.args.progress.now c.loop-name.progress)
    (λ scene. Seeks scene c.args.search.now.source (flat_map (forced_tries c.args.search.now) c.args.search.now.forced) c.args.progress.now c.loop-name.progress)
    c.loop-name.invariant.scans (λ scene a. rw (sym c.as_slice-names.ensures) (flat-end scene c.args.search.now.source (forced_tries c.args.search.now) c.as_slice-names.result.now c.loop-name.name-index _ _ c.loop-name-test.false a))

pub returns-clause-known : goal.returns-clause-known
returns-clause-known g c = c.loop-name.invariant.known
