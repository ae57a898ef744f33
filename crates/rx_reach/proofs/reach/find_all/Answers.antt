use Rattle.std.proofs.Common.{arith, length, ◌≡◌, ap, List}
use Rattle.std.proofs.lemmas.Result.{err_from_is_err_and}
use Rattle.rx_world.specs.declared.input_files.InputFile.{InputFile}
use Rattle.rx_reach.specs.Explored.{Advances, Explored, IsExplored}
use Rattle.rx_reach.specs.Visits.{Begins}
use Rattle.rx_reach.proofs.NextLemmas.{empty-digests, empty-seen, explored-all}
use Rattle.rx_reach.proofs.ScanLemmas.{ends-join, scans-join}
use Rattle.rx_reach.proofs.StartLemmas.{empty-apart}
use Rattle.rx_reach.proofs.reach.find_all.Goals as goal

pub visit_all-requires : goal.visit_all-requires
visit_all-requires g c = empty-apart c.in_ok-progress.progress c.in_ok-progress.ensures.empty

pub returns-in_err-visit_all-clause-err : goal.returns-in_err-visit_all-clause-err
returns-in_err-visit_all-clause-err g c =
    let p = err_from_is_err_and c.from_residual-in_err-visit_all.result c.from_residual-in_err-visit_all.ensures.1 in
    rw (p.1, p.2) (ends-join _ _ _ _ _ _ _ _ _ c.in_ok-progress.ensures.ok c.in_err-visit_all.ensures.err)

pub returns-clause-ok : goal.returns-clause-ok
returns-clause-ok g c =
    let start = c.in_ok-progress.progress in
    let end = c.visit_all.new.progress in
    scans-join _ _ _ _ _ _ _ _
    (λ scene. Begins scene c.args.search.now start)
    (λ scene. Explored scene c.args.search.now start → Advances scene c.args.search.now 20001 start end)
    (λ scene. IsExplored scene c.args.search.now 20001 end)
    c.in_ok-progress.ensures.ok c.in_ok-visit_all.ensures.ok
    (λ scene a b. explored-all scene c.args.search.now 20001 start end c.in_ok-progress.ensures.empty a b)

pub returns-clause-count : goal.returns-clause-count
returns-clause-count g c =
    let z : length c.in_ok-progress.progress.read ≡ 0 = ap (λ (xs : List InputFile). length xs) c.in_ok-progress.ensures.empty in
    omega (arith, z, c.in_ok-visit_all.ensures.count)

pub returns-clause-honest : goal.returns-clause-honest
returns-clause-honest g c = λ honest. c.in_ok-visit_all.ensures.honest honest (empty-digests g.W.World.content c.in_ok-progress.progress.read c.in_ok-progress.ensures.empty)

pub returns-clause-seen : goal.returns-clause-seen
returns-clause-seen g c = c.in_ok-visit_all.ensures.seen (empty-seen c.begin.new.sights c.in_ok-progress.progress.read c.in_ok-progress.ensures.empty)

pub returns-clause-known : goal.returns-clause-known
returns-clause-known g c = c.in_ok-visit_all.ensures.known c.in_ok-progress.ensures.known
