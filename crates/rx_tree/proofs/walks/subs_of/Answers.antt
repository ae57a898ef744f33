use Rattle.std.proofs.Common.{◌∙◌, ℕ, List, refl, sym}
use Rattle.std.proofs.lemmas.List.{drop_all}
use Rattle.std.proofs.lemmas.Result.{err_from_is_err_and}
use Rattle.rx_base.specs.declared.digests.Digest.{Digest}
use Rattle.rx_base.proofs.ResultLemmas.{bind_err}
use Rattle.rx_messages.specs.declared.nodes.DirectoryNode.{DirectoryNode}
use Rattle.rx_tree.specs.declared.walks.Sub.{Sub}
use Rattle.rx_tree.specs.declared.tree_fault.TreeFault.TheVariants.{NoMemory}
use Rattle.rx_tree.specs.Walks.{with_nodes}
use Rattle.rx_tree.proofs.WalkLemmas.{with_nodes-drop}
use Rattle.rx_tree.proofs.walks.subs_of.Goals as goal

pub returns-in_err-child : goal.returns-in_err-child
returns-in_err-child c =
    let step = with_nodes-drop (λ (node : DirectoryNode). node.name) (λ (node : DirectoryNode). node.digest) (λ (node : DirectoryNode) (child : List ℕ) (named : Digest). let sub : Sub = record { path = child; digest = named } in sub) c.args.digest.now c.args.path.now c.args.nodes.now c.loop-node.subs c.loop-node.node-index c.node-item.result c.loop-node-test.true c.node-item.is in
    let p = err_from_is_err_and c.from_residual.result c.from_residual.ensures.1 in
    rw (p.1, p.2) (λ other. sym c.loop-node.invariant ∙ step ∙ bind_err NoMemory _ _ _ c.in_err-child.ensures other)

pub returns-in_default : goal.returns-in_default
returns-in_default c = λ other.
    let step = with_nodes-drop (λ (node : DirectoryNode). node.name) (λ (node : DirectoryNode). node.digest) (λ (node : DirectoryNode) (child : List ℕ) (named : Digest). let sub : Sub = record { path = child; digest = named } in sub) c.args.digest.now c.args.path.now c.args.nodes.now c.loop-node.subs c.loop-node.node-index c.node-item.result c.loop-node-test.true c.node-item.is in
    sym c.loop-node.invariant ∙ step ∙ rw (c.in_ok-child.ensures, c.in_default.is) refl

pub loop-node-preserved : goal.loop-node-preserved
loop-node-preserved c =
    let step = with_nodes-drop (λ (node : DirectoryNode). node.name) (λ (node : DirectoryNode). node.digest) (λ (node : DirectoryNode) (child : List ℕ) (named : Digest). let sub : Sub = record { path = child; digest = named } in sub) c.args.digest.now c.args.path.now c.args.nodes.now c.loop-node.subs c.loop-node.node-index c.node-item.result c.loop-node-test.true c.node-item.is in
    rw c.in_ok-push.ensures.ok (sym (rw (c.in_ok-child.ensures, c.in-Some.is) at step) ∙ c.loop-node.invariant)

pub returns : goal.returns
unfolding with_nodes
returns c = sym c.loop-node.invariant ∙ rw (drop_all c.loop-node.node-index c.args.nodes.now c.loop-node-test.false) refl
