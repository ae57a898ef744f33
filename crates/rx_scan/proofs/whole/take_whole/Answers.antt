use Rattle.std.proofs.lemmas.Result.{err_from_is_err_and}
use Rattle.rx_scan.proofs.SeenAll.{all-seen}
use Rattle.rx_scan.proofs.WholeTaken.{left-few, left-sorted, whole-known, whole-large, whole-taken}
use Rattle.rx_scan.proofs.whole.take_whole.Goals as goal

pub returns-in_err-check_limits-clause-taken : goal.returns-in_err-check_limits-clause-taken
returns-in_err-check_limits-clause-taken g c =
    let p = err_from_is_err_and c.from_residual-in_err-check_limits.result c.from_residual-in_err-check_limits.ensures.1 in
    let all = rw c.as_slice.ensures at c.in_ok-listed.ensures in
    let files = rw c.as_slice-2.ensures at c.in_ok-files.ensures in
    let large = rw c.as_slice-3.ensures at c.in_err-check_limits.ensures in
    rw (p.1, p.2) (whole-large _ _ _ _ c.args.sights.now _ _ c.in_ok-files.files _ files large c.in_ok-paths.ensures.ascending (all-seen _ _ c.in_ok-files.files files)
    (whole-known _ _ _ _ _ _ _ _ _ _ _ c.root-root.ensures c.new.ensures all c.in_ok-paths.ensures.sorted c.in_ok-found.ensures.seen c.in_ok-found.ensures.listed))

pub returns-clause-sorted : goal.returns-clause-sorted
returns-clause-sorted g c =
    let left = rw c.as_slice-4.ensures at c.in_ok-left.ensures in
    let inputs = rw c.as_slice-5.ensures at c.in_ok-inputs.ensures in
    left-sorted _ _ _ _ c.in_ok-inputs.inputs left inputs c.in_ok-paths.ensures.ascending

pub returns-clause-few : goal.returns-clause-few
returns-clause-few g c =
    let files = rw c.as_slice-2.ensures at c.in_ok-files.ensures in
    let fits = rw c.as_slice-3.ensures at c.in_ok-check_limits.ensures in
    let left = rw c.as_slice-4.ensures at c.in_ok-left.ensures in
    let inputs = rw c.as_slice-5.ensures at c.in_ok-inputs.ensures in
    left-few _ _ _ _ c.in_ok-files.files c.in_ok-inputs.inputs files fits left inputs

pub returns-clause-taken : goal.returns-clause-taken
returns-clause-taken g c =
    let all = rw c.as_slice.ensures at c.in_ok-listed.ensures in
    let files = rw c.as_slice-2.ensures at c.in_ok-files.ensures in
    let fits = rw c.as_slice-3.ensures at c.in_ok-check_limits.ensures in
    let left = rw c.as_slice-4.ensures at c.in_ok-left.ensures in
    let inputs = rw c.as_slice-5.ensures at c.in_ok-inputs.ensures in
    whole-taken _ _ _ _ c.args.sights.now _ _ c.args.outputs.now _ c.in_ok-files.files c.in_ok-inputs.inputs files fits left inputs
    (whole-known _ _ _ _ _ _ _ _ _ _ _ c.root-root.ensures c.new.ensures all c.in_ok-paths.ensures.sorted c.in_ok-found.ensures.seen c.in_ok-found.ensures.listed)

pub returns-clause-seen : goal.returns-clause-seen
returns-clause-seen g c =
    let inputs = rw c.as_slice-5.ensures at c.in_ok-inputs.ensures in
    all-seen c.list_noted.new.sights c.in_ok-left.left c.in_ok-inputs.inputs inputs
