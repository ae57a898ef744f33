use Rattle.std.proofs.Common.{◌++◌}
use Rattle.std.proofs.lemmas.Result.{err_from_is_err_and}
use Rattle.std.specs.Option.{option_copied, option_to_list}
use Rattle.rx_reach.specs.Progress.{Seeks}
use Rattle.rx_reach.specs.Searches.{tries_under}
use Rattle.rx_reach.proofs.KnownLemmas.{known-join}
use Rattle.rx_reach.proofs.ScanLemmas.{ends-join, scans-join}
use Rattle.rx_reach.proofs.SeekLemmas.{stays-join, under-three}
use Rattle.rx_reach.proofs.seeks.seek_from.Goals as goal

pub returns-in_err-seek_in-clause-err : goal.returns-in_err-seek_in-clause-err
returns-in_err-seek_in-clause-err g c =
    let p = err_from_is_err_and c.from_residual-in_err-seek_in.result c.from_residual-in_err-seek_in.ensures.1 in
    rw (p.1, p.2) (ends-join _ _ _ _ _ _ _ _ _ c.in_ok-seek_first.ensures.ok c.in_err-seek_in.ensures.err)

pub returns-in_err-seek_in-2-clause-err : goal.returns-in_err-seek_in-2-clause-err
returns-in_err-seek_in-2-clause-err g c =
    let p = err_from_is_err_and c.from_residual-in_err-seek_in-2.result c.from_residual-in_err-seek_in-2.ensures.1 in
    rw (p.1, p.2)
    (ends-join _ _ _ _ _ _ _ _ _ c.in_ok-seek_first.ensures.ok
    (ends-join _ _ _ _ _ _ _ _ _ c.in_ok-seek_in.ensures.ok c.in_err-seek_in-2.ensures.err))

pub returns-clause-ok : goal.returns-clause-ok
returns-clause-ok g c =
    let first = option_to_list (option_copied c.args.first) in
    let blamed = c.args.blamed.now in
    let name = c.args.name.now in
    let search = c.args.search.now in
    scans-join _ _ _ _ _ _ _ _
    (λ scene. Seeks scene blamed (tries_under first name) c.args.progress.now c.seek_first.new.progress)
    (λ scene. Seeks scene blamed (tries_under search.quote_dirs name) c.seek_first.new.progress c.seek_in.new.progress × Seeks scene blamed (tries_under search.dirs name) c.seek_in.new.progress c.seek_in-2.new.progress)
    (λ scene. Seeks scene blamed (tries_under (first ++ search.quote_dirs ++ search.dirs) name) c.args.progress.now c.seek_in-2.new.progress)
    c.in_ok-seek_first.ensures.ok
    (scans-join _ _ _ _ _ _ _ _
    (λ scene. Seeks scene blamed (tries_under search.quote_dirs name) c.seek_first.new.progress c.seek_in.new.progress)
    (λ scene. Seeks scene blamed (tries_under search.dirs name) c.seek_in.new.progress c.seek_in-2.new.progress)
    (λ scene. Seeks scene blamed (tries_under search.quote_dirs name) c.seek_first.new.progress c.seek_in.new.progress × Seeks scene blamed (tries_under search.dirs name) c.seek_in.new.progress c.seek_in-2.new.progress)
    (rw c.as_slice-quoted.ensures at c.in_ok-seek_in.ensures.ok) (rw c.as_slice-both.ensures at c.in_ok-seek_in-2.ensures.ok) (λ scene a b. (a, b)))
    (λ scene a b. under-three scene blamed first search.quote_dirs search.dirs name _ _ _ _ a b.0 b.1)

pub returns-clause-stays : goal.returns-clause-stays
returns-clause-stays g c = stays-join c.args.progress.now c.seek_first.new.progress c.seek_in-2.new.progress c.in_ok-seek_first.ensures.stays (stays-join c.seek_first.new.progress c.seek_in.new.progress c.seek_in-2.new.progress c.in_ok-seek_in.ensures.stays c.in_ok-seek_in-2.ensures.stays)

pub returns-clause-known : goal.returns-clause-known
returns-clause-known g c =
    let first = c.in_ok-seek_first.ensures in
    let quoted = c.in_ok-seek_in.ensures in
    known-join c.args.sights.now c.seek_first.new.sights c.seek_in-2.new.sights first.ok.answers c.args.blamed.now c.args.progress.now c.seek_first.new.progress c.seek_in-2.new.progress first.ok.notes first.known
    (known-join c.seek_first.new.sights c.seek_in.new.sights c.seek_in-2.new.sights quoted.ok.answers c.args.blamed.now c.seek_first.new.progress c.seek_in.new.progress c.seek_in-2.new.progress quoted.ok.notes quoted.known c.in_ok-seek_in-2.ensures.known)
