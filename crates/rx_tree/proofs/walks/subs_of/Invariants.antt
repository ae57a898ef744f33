use Rattle.std.proofs.Common.{◌≡◌, [], drop}
use Rattle.rx_tree.specs.Walks.{with_subs}
use Rattle.rx_tree.proofs.walks.subs_of.Given as goal

abbrev pub invariant-loop-node : goal.invariant-loop-node
invariant-loop-node l = with_subs l.digest l.path (drop l.node-index l.nodes) l.subs ≡ with_subs l.digest l.path l.nodes []
