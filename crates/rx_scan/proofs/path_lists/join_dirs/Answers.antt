use Rattle.std.proofs.Common.{◌++◌, ap, ◌∙◌}
use Rattle.rx_scan.proofs.PathSteps.{in-joined_below, map_same}
use Rattle.rx_scan.proofs.path_lists.join_dirs.Goals as goal

pub returns-clause-members : goal.returns-clause-members
returns-clause-members c =
    let below = rw c.as_slice.ensures at c.in_ok-below.ensures in
    in-joined_below c.args.paths c.args.others.now _ _ _ (c.in_ok-all.ensures ∙ ap (λ ys. c.args.paths ++ ys) (map_same c.args.others.now)) below c.in_ok-sorted.ensures.members
