use Rattle.std.proofs.Common.{◌+◌, arith, true, false}
use Rattle.std.proofs.lemmas.Result.{err_from_is_err_and}
use Rattle.rx_reach.specs.Explored.{Advances, Explored, GoesOn}
use Rattle.rx_reach.proofs.NextLemmas.{ReadEach, each-done, each-more, each-none, each-out}
use Rattle.rx_reach.proofs.ScanLemmas.{ends-join, scans-join, scans-none, scans-say}
use Rattle.rx_reach.proofs.reach.visit_all.Goals as goal

pub loop-init : goal.loop-init
loop-init g c = record {
  scans = scans-none _ _ _ _ (λ scene. ReadEach scene c.args.search.now 0 c.args.progress.now c.args.progress.now) (λ scene _. each-none scene c.args.search.now c.args.progress.now);
  apart = c.requires;
  count = omega arith;
  seen = λ all. all;
  known = λ all. all;
  honest = λ _ all. all;
  bound = omega arith;
}

pub returns-in_err-more-clause-err : goal.returns-in_err-more-clause-err
returns-in_err-more-clause-err g c =
    let p = err_from_is_err_and c.from_residual.result c.from_residual.ensures.1 in
    rw (p.1, p.2) (ends-join _ _ _ _ _ _ _ _ _ c.loop.invariant.scans c.in_err-more.ensures.err)

pub loop-preserved : goal.loop-preserved
loop-preserved g c = record {
  scans =
      scans-join _ _ _ _ _ _ _ _
      (λ scene. ReadEach scene c.args.search.now c.loop.counter c.args.progress.now c.loop.progress)
      (λ scene. Explored scene c.args.search.now c.loop.progress → GoesOn scene c.args.search.now true c.loop.progress c.visit_next.new.progress)
      (λ scene. ReadEach scene c.args.search.now (c.loop.counter + 1) c.args.progress.now c.visit_next.new.progress)
      c.loop.invariant.scans (rw c.if-not-more.false at c.in_ok-more.ensures.ok)
      (λ scene a b. each-more scene c.args.search.now c.loop.counter c.args.progress.now c.loop.progress c.visit_next.new.progress a b);
  apart = c.in_ok-more.ensures.apart;
  count = omega (arith, c.loop.invariant.count, c.in_ok-more.ensures.count);
  seen = λ all. c.in_ok-more.ensures.seen (c.loop.invariant.seen all);
  known = λ all. c.in_ok-more.ensures.known (c.loop.invariant.known all);
  honest = λ h all. c.in_ok-more.ensures.honest h (c.loop.invariant.honest h all);
  bound = omega (arith, c.loop-test.true);
}

pub returns-then-not-more-clause-ok : goal.returns-then-not-more-clause-ok
returns-then-not-more-clause-ok g c =
    scans-join _ _ _ _ _ _ _ _
    (λ scene. ReadEach scene c.args.search.now c.loop.counter c.args.progress.now c.loop.progress)
    (λ scene. Explored scene c.args.search.now c.loop.progress → GoesOn scene c.args.search.now false c.loop.progress c.visit_next.new.progress)
    (λ scene. Explored scene c.args.search.now c.args.progress.now → Advances scene c.args.search.now 20001 c.args.progress.now c.visit_next.new.progress)
    c.loop.invariant.scans (rw c.if-not-more.true at c.in_ok-more.ensures.ok)
    (λ scene a b. each-done scene c.args.search.now c.loop.counter 20001 c.args.progress.now c.loop.progress c.visit_next.new.progress a b)

pub returns-clause-ok : goal.returns-clause-ok
returns-clause-ok g c =
    scans-say _ _ _ _ _ _
    (λ scene. ReadEach scene c.args.search.now c.loop.counter c.args.progress.now c.loop.progress)
    (λ scene. Explored scene c.args.search.now c.args.progress.now → Advances scene c.args.search.now 20001 c.args.progress.now c.loop.progress)
    c.loop.invariant.scans (λ scene a. each-out scene c.args.search.now c.loop.counter 20001 c.args.progress.now c.loop.progress (omega (arith, c.loop.invariant.bound, c.loop-test.false)) a)

pub visit_next-requires : goal.visit_next-requires
visit_next-requires g c = c.loop.invariant.apart

pub returns-then-not-more-clause-count : goal.returns-then-not-more-clause-count
returns-then-not-more-clause-count g c = omega (arith, c.loop.invariant.count, c.in_ok-more.ensures.count, c.loop-test.true)

pub returns-then-not-more-clause-honest : goal.returns-then-not-more-clause-honest
returns-then-not-more-clause-honest g c = λ h all. c.in_ok-more.ensures.honest h (c.loop.invariant.honest h all)

pub returns-then-not-more-clause-seen : goal.returns-then-not-more-clause-seen
returns-then-not-more-clause-seen g c = λ all. c.in_ok-more.ensures.seen (c.loop.invariant.seen all)

pub returns-clause-seen : goal.returns-clause-seen
returns-clause-seen g c = c.loop.invariant.seen

pub returns-clause-count : goal.returns-clause-count
returns-clause-count g c = omega (arith, c.loop.invariant.count, c.loop.invariant.bound)

pub returns-clause-honest : goal.returns-clause-honest
returns-clause-honest g c = c.loop.invariant.honest

pub returns-then-not-more-clause-known : goal.returns-then-not-more-clause-known
returns-then-not-more-clause-known g c = λ all. c.in_ok-more.ensures.known (c.loop.invariant.known all)

pub returns-clause-known : goal.returns-clause-known
returns-clause-known g c = c.loop.invariant.known
