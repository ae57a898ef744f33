-- One step more.
use Rattle.std.proofs.Common.{◌≡◌, List, [], ◌∷◌, ◌++◌, refl}
use Rattle.rx_world.specs.declared.trees.Tree.{Tree}
use Rattle.witness_rows.specs.declared.shown.Step.{Step}
use Rattle.witness_rows.specs.Shown.{with_step, with_steps}

pub one_more : (steps : List Step) (step : Step) (tree : Tree) → with_steps (steps ++ step ∷ []) tree ≡ with_step step (with_steps steps tree)
one_more [] step tree = refl
one_more (first ∷ steps) step tree = one_more steps step (with_step first tree)
