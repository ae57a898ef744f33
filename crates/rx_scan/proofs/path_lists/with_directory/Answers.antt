use Rattle.rx_scan.proofs.PathSteps.{in-with}
use Rattle.rx_scan.proofs.path_lists.with_directory.Goals as goal

pub returns-clause-members : goal.returns-clause-members
returns-clause-members c =
    let below = rw c.as_slice.ensures at c.in_ok-below.ensures in
    in-with c.args.paths _ _ _ c.args.directory.now _ c.in_ok-try_clone.ensures c.in_ok-push.ensures.ok below c.in_ok-sorted.ensures.members
