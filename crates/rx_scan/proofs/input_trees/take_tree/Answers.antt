use Rattle.std.proofs.Common.{sym}
use Rattle.std.proofs.lemmas.Result.{err_from_is_err_and}
use Rattle.rx_scan.proofs.TreeSteps.{plan-refused, tree-no_memory, tree_files-are, tree_files-refused, way-refused}
use Rattle.rx_scan.proofs.input_trees.take_tree.Goals as goal

pub returns-in_err-plan-clause-taken : goal.returns-in_err-plan-clause-taken
returns-in_err-plan-clause-taken g c =
    let p = err_from_is_err_and c.from_residual.result c.from_residual.ensures.1 in
    rw (p.1, p.2) (plan-refused _ _ _ _ c.args.command.now c.args.scanned c.args.cause c.args.choice _ c.in_err-plan.ensures.err)

pub returns-in_err-files-clause-taken : goal.returns-in_err-files-clause-taken
returns-in_err-files-clause-taken g c =
    let p = err_from_is_err_and c.from_residual-in_err-files.result c.from_residual-in_err-files.ensures.1 in
    rw (p.1, p.2) (tree_files-refused _ _ _ _ _ _ c.args.command.now c.args.scanned c.args.cause c.args.choice _ _ c.in_ok-plan.plan c.is_some-kept.ensures c.in_ok-plan.ensures.ok c.in_err-files.ensures.taken)

pub returns-in_err-paths-clause-taken : goal.returns-in_err-paths-clause-taken
returns-in_err-paths-clause-taken g c =
    let p = err_from_is_err_and c.from_residual-in_err-paths.result c.from_residual-in_err-paths.ensures.1 in
    rw (p.1, p.2) (tree-no_memory _ _ _ _ _ _ _ _ c.args.command.now c.args.scanned c.args.cause c.args.choice c.in_ok-files.ensures.taken)

pub returns-in_err-check_way-clause-taken : goal.returns-in_err-check_way-clause-taken
returns-in_err-check_way-clause-taken g c =
    let p = err_from_is_err_and c.from_residual-in_err-check_way.result c.from_residual-in_err-check_way.ensures.1 in
    let paths = rw (c.as_slice-2.ensures, c.new.ensures) at c.in_ok-paths.ensures in
    let files = rw c.as_slice.ensures at c.in_ok-files.ensures.taken in
    let way = rw (c.as_slice-3.ensures, c.as_slice-4.ensures, c.as_slice-5.ensures) at c.in_err-check_way.ensures.err in
    rw (p.1, p.2) (way-refused _ _ _ _ _ _ c.args.command.now c.args.scanned c.in_ok-files.files c.in_ok-paths.paths c.args.dirs c.args.cause c.args.choice c.in_ok-plan.plan _ c.in_ok-plan.ensures.ok paths c.in_ok-files.ensures.sorted c.in_ok-files.ensures.seen c.requires.dirs
    (tree_files-are _ _ _ _ _ _ c.args.command.now c.args.scanned c.in_ok-files.files c.args.cause _ c.is_some-kept.ensures files) way)

pub returns-in_err-dirs-clause-taken : goal.returns-in_err-dirs-clause-taken
returns-in_err-dirs-clause-taken g c =
    let p = err_from_is_err_and c.from_residual-in_err-dirs.result c.from_residual-in_err-dirs.ensures.1 in
    rw (p.1, p.2) (tree-no_memory _ _ _ _ _ _ _ _ c.args.command.now c.args.scanned c.args.cause c.args.choice c.in_ok-files.ensures.taken)

pub returns-clause-orderly : goal.returns-clause-orderly
returns-clause-orderly g c =
    let paths = rw (c.as_slice-2.ensures, c.new.ensures) at c.in_ok-paths.ensures in
    let apart = rw c.as_slice-4.ensures at c.in_ok-check_way.ensures.apart in
    let clear = rw (c.as_slice-4.ensures, c.as_slice-5.ensures) at c.in_ok-check_way.ensures.clear in
    let free = rw c.as_slice-4.ensures at c.in_ok-check_way.ensures.free in
    record {
      few = c.in_ok-files.ensures.few;
      sorted = c.in_ok-files.ensures.sorted;
      sorted_dirs = c.in_ok-dirs.ensures.sorted;
      dirs = c.in_ok-dirs.ensures.members;
      apart = rw (sym paths) apart;
      clear = rw (sym paths) clear;
      free = rw (sym paths) free;
    }

pub returns-clause-taken : goal.returns-clause-taken
returns-clause-taken g c =
    let files = rw c.as_slice.ensures at c.in_ok-files.ensures.taken in
    tree_files-are _ _ _ _ _ _ c.args.command.now c.args.scanned c.in_ok-files.files c.args.cause _ c.is_some-kept.ensures files
