use Rattle.std.proofs.lemmas.Result.{err_from_is_err_and}
use Rattle.rx_reach.specs.Progress.{Seeks}
use Rattle.rx_reach.specs.Searches.{all_forced, all_walked, first_tries}
use Rattle.rx_reach.proofs.KnownLemmas.{known-join}
use Rattle.rx_reach.proofs.ScanLemmas.{ends-join, scans-join}
use Rattle.rx_reach.proofs.SeekLemmas.{seeks-join, stays-join}
use Rattle.rx_reach.proofs.seeks.seek_named.Goals as goal

pub returns-in_err-seek_walked-clause-err : goal.returns-in_err-seek_walked-clause-err
returns-in_err-seek_walked-clause-err g c =
    let p = err_from_is_err_and c.from_residual-in_err-seek_walked.result c.from_residual-in_err-seek_walked.ensures.1 in
    rw (p.1, p.2) (ends-join _ _ _ _ _ _ _ _ _ c.in_ok-seek_forced.ensures.ok c.in_err-seek_walked.ensures.err)

pub returns-clause-ok : goal.returns-clause-ok
returns-clause-ok g c =
    let search = c.args.search.now in
    scans-join _ _ _ _ _ _ _ _
    (λ scene. Seeks scene search.source (all_forced search) c.args.progress.now c.seek_forced.new.progress)
    (λ scene. Seeks scene search.source (all_walked search) c.seek_forced.new.progress c.seek_walked.new.progress)
    (λ scene. Seeks scene search.source (first_tries search) c.args.progress.now c.seek_walked.new.progress)
    c.in_ok-seek_forced.ensures.ok c.in_ok-seek_walked.ensures.ok
    (λ scene a b. seeks-join scene search.source (all_forced search) (all_walked search) _ _ _ a b)

pub returns-clause-stays : goal.returns-clause-stays
returns-clause-stays g c = stays-join c.args.progress.now c.seek_forced.new.progress c.seek_walked.new.progress c.in_ok-seek_forced.ensures.stays c.in_ok-seek_walked.ensures.stays

pub returns-clause-known : goal.returns-clause-known
returns-clause-known g c =
    let forced = c.in_ok-seek_forced.ensures in
    known-join c.args.sights.now c.seek_forced.new.sights c.seek_walked.new.sights forced.ok.answers c.args.search.now.source c.args.progress.now c.seek_forced.new.progress c.seek_walked.new.progress forced.ok.notes forced.known c.in_ok-seek_walked.ensures.known
