use Rattle.std.proofs.Common.{◌≡◌}
use Rattle.std.proofs.lemmas.Result.{err_from_is_err_and}
use Rattle.rx_reach.specs.declared.progress.Progress.{Progress}
use Rattle.rx_reach.specs.Progress.{Seeks}
use Rattle.rx_reach.specs.Searches.{first_tries}
use Rattle.rx_reach.specs.Visits.{Begins}
use Rattle.rx_reach.specs.Sights.{IsKnownAt}
use Rattle.rx_reach.proofs.KnownLemmas.{none-known, source-known}
use Rattle.rx_reach.proofs.ScanLemmas.{ends-join, scans-join}
use Rattle.rx_reach.proofs.StartLemmas.{begins}
use Rattle.rx_reach.proofs.reach.begin.Goals as goal

pub returns-in_err-seek_named-clause-err : goal.returns-in_err-seek_named-clause-err
returns-in_err-seek_named-clause-err g c =
    let p = err_from_is_err_and c.from_residual-in_err-seek_named.result c.from_residual-in_err-seek_named.ensures.1 in
    rw (p.1, p.2) (ends-join _ _ _ _ _ _ _ _ _ c.in_ok-look.ensures.ok c.in_err-seek_named.ensures.err)

pub returns-clause-ok : goal.returns-clause-ok
returns-clause-ok g c =
    let start : Progress = record { waiting = c.new.result; read = c.new-2.result; hard = c.new-3.result; left = c.new-4.result } in
    scans-join _ _ _ _ _ _ _ _
    (λ scene. c.in_ok-look.look ≡ scene.look c.args.search.now.source)
    (λ scene. Seeks scene c.args.search.now.source (first_tries c.args.search.now) c.take_source.new.self c.seek_named.new.progress)
    (λ scene. Begins scene c.args.search.now c.seek_named.new.progress)
    c.in_ok-look.ensures.ok c.in_ok-seek_named.ensures.ok
    (λ scene a b. begins scene c.args.search.now c.in_ok-look.look start c.take_source.new.self c.seek_named.new.progress c.new.ensures c.new-2.ensures c.new-3.ensures c.new-4.ensures c.in_ok-take_source.ensures.takes a b)

pub returns-clause-known : goal.returns-clause-known
returns-clause-known g c =
    let sights = c.look.new.self in
    let source = c.args.search.now.source in
    let start : Progress = record { waiting = c.new.result; read = c.new-2.result; hard = c.new-3.result; left = c.new-4.result } in
    let known : IsKnownAt sights source = (c.in_ok-look.look, c.in_ok-look.ensures.seen) in
    c.in_ok-seek_named.ensures.known known (source-known sights source c.in_ok-look.look start c.take_source.new.self c.in_ok-take_source.ensures.takes known (none-known sights c.new-3.result c.new-3.ensures))
