use Rattle.std.proofs.Common.{sym, subst, ◌∙◌, take, ◌+◌, []}
use Rattle.std.proofs.lemmas.Result.{err_from_is_err_and}
use Rattle.std.specs.Prelude.{flat_map}
use Rattle.rx_reach.specs.Searches.{walked_tries}
use Rattle.rx_reach.specs.Progress.{Seeks}
use Rattle.rx_reach.proofs.KnownLemmas.{known-join}
use Rattle.rx_reach.proofs.ScanLemmas.{ends-join, scans-join, scans-none, scans-say}
use Rattle.rx_reach.proofs.SeekLemmas.{flat-end, flat-next, seeks-none, stays-join, stays-same}
use Rattle.rx_reach.proofs.seeks.seek_walked.Goals as goal

pub loop-text-init : goal.loop-text-init
loop-text-init g c = record {
  scans = scans-none _ _ _ _ (λ scene. Seeks scene c.args.search.now.source [] c.args.progress.now c.args.progress.now) (λ scene _. seeks-none scene c.args.search.now.source c.args.progress.now);
  stays = stays-same c.args.progress.now;
  known = λ _ all. all;
}

pub returns-in_err-seek_one-clause-err : goal.returns-in_err-seek_one-clause-err
returns-in_err-seek_one-clause-err g c =
    let p = err_from_is_err_and c.from_residual.result c.from_residual.ensures.1 in
    rw (p.1, p.2) (ends-join _ _ _ _ _ _ _ _ _ c.loop-text.invariant.scans c.in_err-seek_one.ensures.err)

pub loop-text-preserved : goal.loop-text-preserved
loop-text-preserved g c = record {
  scans =
      scans-join _ _ _ _ _ _ _ _
      (λ scene. Seeks scene c.args.search.now.source (flat_map (walked_tries c.args.search.now) (take c.loop-text.text-index c.as_slice-texts.result.now)) c.args.progress.now c.loop-text.progress)
      (λ scene. Seeks scene c.args.search.now.source ((walked_tries c.args.search.now) c.text-item.result) c.loop-text.progress c.seek_one.new.progress)
      (λ scene. Seeks scene c.args.search.now.source (flat_map (walked_tries c.args.search.now) (take (c.loop-text.text-index + 1) c.as_slice-texts.result.now)) c.args.progress.now c.seek_one.new.progress)
      c.loop-text.invariant.scans
      (scans-say _ _ _ _ _ _
      (λ scene. Seeks scene c.args.search.now.source (walked_tries c.args.search.now c.as_bytes-bytes.result.now) c.loop-text.progress c.seek_one.new.progress)
      (λ scene. Seeks scene c.args.search.now.source (walked_tries c.args.search.now c.text-item.result) c.loop-text.progress c.seek_one.new.progress)
      c.in_ok-seek_one.ensures.ok
      (λ scene a. subst (λ n. Seeks scene c.args.search.now.source (walked_tries c.args.search.now n) c.loop-text.progress c.seek_one.new.progress) (c.as_bytes-bytes.ensures.value ∙ c.as_str.ensures) a))
      (λ scene a b. flat-next scene c.args.search.now.source (walked_tries c.args.search.now) c.as_slice-texts.result.now c.loop-text.text-index c.text-item.result _ _ _ c.loop-text-test.true c.text-item.is a b);
  stays = stays-join c.args.progress.now c.loop-text.progress c.seek_one.new.progress c.loop-text.invariant.stays c.in_ok-seek_one.ensures.stays;
  known = known-join c.args.sights.now c.loop-text.sights c.seek_one.new.sights c.loop-text.invariant.scans.answers c.args.search.now.source c.args.progress.now c.loop-text.progress c.seek_one.new.progress c.loop-text.invariant.scans.notes c.loop-text.invariant.known c.in_ok-seek_one.ensures.known;
}

pub returns-clause-ok : goal.returns-clause-ok
returns-clause-ok g c =
    scans-say _ _ _ _ _ _
    (λ scene. Seeks scene c.args.search.now.source (flat_map (walked_tries c.args.search.now) (take c.loop-text.text-index c.as_slice-texts.result.now)) c.args.progress.now c.loop-text.progress)
    (λ scene. Seeks scene c.args.search.now.source (flat_map (walked_tries c.args.search.now) c.args.search.now.walked) c.args.progress.now c.loop-text.progress)
    c.loop-text.invariant.scans (λ scene a. rw (sym c.as_slice-texts.ensures) (flat-end scene c.args.search.now.source (walked_tries c.args.search.now) c.as_slice-texts.result.now c.loop-text.text-index _ _ c.loop-text-test.false a))

pub returns-clause-known : goal.returns-clause-known
returns-clause-known g c = c.loop-text.invariant.known
