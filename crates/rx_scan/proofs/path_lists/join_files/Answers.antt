use Rattle.rx_reach.specs.FileTables.{paths_of}
use Rattle.rx_scan.proofs.PathSteps.{in-joined}
use Rattle.rx_scan.proofs.path_lists.join_files.Goals as goal

pub returns-clause-members : goal.returns-clause-members
returns-clause-members c = in-joined c.args.paths (paths_of c.args.files.now) _ _ c.in_ok-all.ensures c.in_ok-sorted.ensures.members
