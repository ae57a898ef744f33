use Rattle.std.proofs.Common.{arith, length, ◌≡◌, ◌≤◌, ap, sym, subst}
use Rattle.std.proofs.lemmas.Result.{err_from_is_err_and}
use Rattle.std.specs.Prelude.{Contains, List, ℕ}
use Rattle.rx_world.specs.declared.input_files.InputFile.{InputFile}
use Rattle.rx_reach.specs.Explored.{AreSeen, HaveDigests, IsExplored}
use Rattle.rx_reach.specs.FileTables.{paths_of}
use Rattle.rx_reach.specs.Opened.{IsOpened}
use Rattle.rx_reach.specs.Reach.{IsReach}
use Rattle.rx_reach.proofs.EndLemmas.{opened-there, reach-is}
use Rattle.rx_reach.proofs.KnownLemmas.{least-known}
use Rattle.rx_reach.proofs.ScanLemmas.{ends-memory, scans-say}
use Rattle.rx_reach.proofs.reach.reach_files.Goals as goal

pub returns-in_err-reached-clause-err : goal.returns-in_err-reached-clause-err
returns-in_err-reached-clause-err g c =
    let p = err_from_is_err_and c.from_residual-in_err-reached.result c.from_residual-in_err-reached.ensures.1 in
    rw (p.1, p.2) (ends-memory _ _ _ _ _ _ _ c.in_ok-progress.ensures.ok)

pub returns-clause-scanned : goal.returns-clause-scanned
returns-clause-scanned g c =
    let p = c.in_ok-progress.progress in
    let reached = c.in_ok-reached.reached in
    let e = c.in_ok-reached.ensures in
    scans-say _ _ _ _ _ _ (λ scene. IsExplored scene c.args.search.now 20001 p) (λ scene. IsReach 20000 scene c.args.search.now reached)
    c.in_ok-progress.ensures.ok (λ scene x. reach-is scene c.args.search.now p reached e.files e.hard e.left x)

pub returns-clause-opened : goal.returns-clause-opened
returns-clause-opened g c =
    let p = c.in_ok-progress.progress in
    let reached = c.in_ok-reached.reached in
    let e = c.in_ok-reached.ensures in
    scans-say _ _ _ _ _ _ (λ scene. IsExplored scene c.args.search.now 20001 p)
    (λ scene. length reached.files ≤ 20000 → (path : List ℕ) → IsOpened scene c.args.search.now path → Contains (paths_of reached.files) path)
    c.in_ok-progress.ensures.ok (λ scene x. opened-there scene c.args.search.now p reached e.files x)

pub returns-clause-sorted : goal.returns-clause-sorted
returns-clause-sorted g c =
    let e = c.in_ok-reached.ensures in
    let n : length c.in_ok-reached.reached.files ≡ length c.in_ok-progress.progress.read = ap (λ (xs : List InputFile). length xs) e.files in
    (e.sorted.0, e.sorted.1, omega (arith, n, c.in_ok-progress.ensures.count))

pub returns-clause-digests : goal.returns-clause-digests
returns-clause-digests g c = λ honest. subst (HaveDigests g.W.World.content) (sym c.in_ok-reached.ensures.files) (c.in_ok-progress.ensures.honest honest)

pub returns-clause-seen : goal.returns-clause-seen
returns-clause-seen g c = subst (AreSeen c.find_all.new.sights) (sym c.in_ok-reached.ensures.files) c.in_ok-progress.ensures.seen

pub returns-clause-known : goal.returns-clause-known
returns-clause-known g c = least-known c.find_all.new.sights c.in_ok-progress.progress.hard c.in_ok-reached.reached.hard c.in_ok-reached.ensures.hard c.in_ok-progress.ensures.known
