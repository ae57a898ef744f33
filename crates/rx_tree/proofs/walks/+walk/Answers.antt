use Rattle.std.proofs.Common.{◌∙◌, ◌<◌, ◌+◌, suc, refl, arith}
use Rattle.std.proofs.lemmas.List.{drop_all}
use Rattle.std.proofs.lemmas.Result.{err_from_is_err_and}
use Rattle.rx_base.proofs.ResultLemmas.{bind_err}
use Rattle.rx_tree.specs.declared.tree_fault.TreeFault.TheVariants.{NoMemory}
use Rattle.rx_tree.specs.declared.walks.Seen.{Seen}
use Rattle.rx_tree.specs.declared.walks.Sub.{Sub}
use Rattle.rx_tree.specs.Refusals.{most_files}
use Rattle.rx_tree.specs.Walks.{walked}
use Rattle.rx_tree.proofs.WalkLemmas.{each-drop, some_levels, walked-entered, walked-refused}
use Rattle.rx_tree.proofs.walks.+walk.Goals as goal

pub returns-in_err-subs-clause-walked : goal.returns-in_err-subs-clause-walked
returns-in_err-subs-clause-walked t c = λ most enough.
    let p = err_from_is_err_and c.from_residual.result c.from_residual.ensures.1 in
    rw (p.1, p.2) (walked-refused most c.args.shelf.now c.args.digest.now c.args.path.now c.args.seen.now _ enough c.in_err-subs.ensures.entered)

pub loop-sub-init : goal.loop-sub-init
loop-sub-init t c = record {
  room = c.in_ok-subs.ensures.counts.0;
  more = omega (arith, c.in_ok-subs.ensures.counts.1);
  goes_on = λ most enough. rw c.as_slice-sub-items.ensures (walked-entered most c.args.shelf.now c.args.digest.now c.args.path.now c.args.seen.now c.enter.new.seen c.in_ok-subs.subs c.in_ok-subs.ensures.entered);
}

pub returns-in_err-walk-clause-walked : goal.returns-in_err-walk-clause-walked
returns-in_err-walk-clause-walked t c = λ most enough.
    let p = err_from_is_err_and c.from_residual-in_err-walk.result c.from_residual-in_err-walk.ensures.1 in
    let fewer = some_levels most c.args.seen.now.entered enough c.loop-sub.invariant.room in
    let enough_down : most_files < suc fewer.0 + c.args.seen.now.entered = rw fewer.1 at enough in
    let more = c.loop-sub.invariant.more in
    let enough_below : most_files < fewer.0 + c.loop-sub.seen.entered = omega arith in
    let step = each-drop (λ (sub : Sub) (next : Seen). walked fewer.0 c.args.shelf.now sub.digest sub.path next) c.as_slice-sub-items.result.now c.loop-sub.seen c.loop-sub.sub-index c.sub-item.result c.loop-sub-test.true c.sub-item.is in
    rw (p.1, p.2, fewer.1) (λ other. c.loop-sub.invariant.goes_on fewer.0 enough_down ∙ step ∙ bind_err NoMemory _ _ _ (c.in_err-walk.ensures.walked fewer.0 enough_below) other)

pub returns-clause-walked : goal.returns-clause-walked
returns-clause-walked t c = λ most enough.
    let fewer = some_levels most c.args.seen.now.entered enough c.loop-sub.invariant.room in
    let enough_down : most_files < suc fewer.0 + c.args.seen.now.entered = rw fewer.1 at enough in
    rw fewer.1 (c.loop-sub.invariant.goes_on fewer.0 enough_down ∙ rw (drop_all c.loop-sub.sub-index c.as_slice-sub-items.result.now c.loop-sub-test.false) refl)
