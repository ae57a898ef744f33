use Rattle.std.proofs.Common.{◌≡◌, drop}
use Rattle.rx_tree.specs.Walks.{with_files}
use Rattle.rx_tree.proofs.walks.add_files.Given as goal

abbrev pub invariant-loop-node : goal.invariant-loop-node
invariant-loop-node l = with_files l.digest l.path (drop l.node-index l.nodes) l.files ≡ with_files l.digest l.path l.nodes l.fn.files
