-- The request with one input meets what a quiet session has as its premises, over the source tree that has the input and the Toy world's tool.
use Rattle.std.proofs.Common.{◌≡◌, ℕ, true, List, [], ◌∷◌, refl, sym, subst, ◌∙◌}
use Rattle.rx_base.specs.Paths.{checked, path_of, read_of, with_part, with_parts, with_text}
use Rattle.rx_local.specs.Limits.{IsWithinLimits}
use Rattle.rx_reach.specs.Scenes.{scene_of}
use Rattle.rx_scan.specs.Gathering.{Asked, IsGathered, IsOrderly}
use Rattle.rx_session.specs.Jobs.{command_of, declared_of}
use Rattle.rx_world.specs.declared.attempts.Plan.{Plan}
use Rattle.rx_world.specs.declared.attempts.Plan.TheVariants.{LocalOnly}
use Rattle.rx_world.specs.declared.commands.Command.{Command}
use Rattle.rx_world.specs.declared.outcomes.Outcome.{Outcome}
use Rattle.rx_world.specs.Toy.{toy_tool}
use Rattle.rx_world.specs.Causes.{Rose}
use Rattle.rx_engine.specs.Answers.{asked_of}
use Rattle.rx_engine.specs.Plans.{has_remote}
use Rattle.rx_engine.specs.Honest.{IsCleanFrom, IsHonest, IsSteady, IsTrustedFor, listed_tree}
use Rattle.rx_engine.specs.Meanings.{Meanings}
use Rattle.rx_engine.specs.Quiet.{AreApart, CanGather, IsQuiet, KeepsLimitsFrom, MakesFrom}
use Rattle.witness_rows.specs.Single.{single_frame, single_outcome, single_request, single_tree}
use Rattle.witness_rows.proofs.Both.{here, here-alone, kept-by-none}
use Rattle.witness_rows.proofs.OneFile.{apart-from, input_path, is-made, is-there, its-clean, its-outputs, its-size, its-tree, makes-output, one-file, output_paths, unblocked, within-list, within-scan}

abbrev command : Command
command = command_of single_request

root : command.working_directory ≡ []
unfolding command_of read_of
root = refl

outputs : command.outputs ≡ output_paths
unfolding command_of read_of path_of checked with_text with_parts with_part
outputs = refl

is-asked : here command (input_path ∷ []) ≡ asked_of single_request
unfolding declared_of read_of path_of checked with_text with_parts with_part
is-asked = refl

apart : AreApart single_tree
apart path below file under = apart-from path below file under

gathers : CanGather (scene_of single_tree) (here command (input_path ∷ []))
gathers = record {
  there = is-there;
  scan = within-scan command;
  list = within-list command;
  planned = λ cause kept. absurd (kept-by-none command (input_path ∷ []) (scene_of single_tree) cause kept);
  free = λ cause files kept sorted each. unblocked command root outputs cause files kept sorted (λ file h. (each file).0 h);
}

proper : MakesFrom toy_tool single_tree (here command (input_path ∷ []))
proper gathered g o zero_is = makes-output gathered.command (listed_tree single_tree gathered) (its-outputs command gathered outputs o) zero_is

limits : KeepsLimitsFrom toy_tool single_tree (here command (input_path ∷ []))
limits gathered g o outcome clean =
    let file = one-file command gathered g o in
    let is = its-clean gathered.command (listed_tree single_tree gathered) file.0 outcome (its-outputs command gathered outputs o)
    (its-tree gathered file.0 file.1 file.2) clean in
    subst IsWithinLimits (sym is) (its-size file.0)

-- its clean run is just that
pub single-only : (o : Outcome) → IsCleanFrom toy_tool single_tree (asked_of single_request) o → o ≡ single_outcome
single-only o c =
    let g = subst (λ (a : Asked). IsGathered (scene_of single_tree) a c.gathered) (sym is-asked) c.inputs in
    let orderly = subst (λ (a : Asked). IsOrderly a c.gathered) (sym is-asked) c.orderly in
    let file = one-file command c.gathered g orderly in
    its-clean c.gathered.command (listed_tree single_tree c.gathered) file.0 o (its-outputs command c.gathered outputs orderly)
    (its-tree c.gathered file.0 file.1 file.2) c.clean
    ∙ is-made file.0

module _ {P W B : Type 0} (m : Meanings P W B) (served : List ℕ) (before : P) where
  -- no farm is asked
  trusted : IsTrustedFor m before single_tree (here command (input_path ∷ []))
  trusted gathered g o remote =
      let there : has_remote LocalOnly ≡ true =
      subst (λ (plan : Plan). has_remote plan ≡ true) (here-alone command (input_path ∷ []) (scene_of single_tree) gathered g) remote in
      absurd (cc)

  -- with the frame as its input, and with the source tree of the input, a session is honest
  pub honest : IsSteady m served before single_frame single_request single_tree → IsHonest m served before single_frame single_request single_tree
  honest s = record { steady = s; farm = subst (IsTrustedFor m before single_tree) is-asked trusted }

  -- and where besides no count rises it is quiet
  pub quiet : (after : P) → IsSteady m served before single_frame single_request single_tree → m.world.stamps_honest → m.world.tool ≡ toy_tool
      → (Rose (m.input.faults before) (m.input.faults after) → ⊥) → (Rose (m.tree.faults before) (m.tree.faults after) → ⊥)
      → (Rose (m.tree_local.faults before) (m.tree_local.faults after) → ⊥) → (Rose (m.benches.faults before) (m.benches.faults after) → ⊥)
      → IsQuiet m served before after single_frame single_request
  quiet after s stamps tool_is input tree tree_local benches = record {
    entries = single_tree;
    steady = s;
    stamps = stamps;
    apart = apart;
    gathers = subst (CanGather (scene_of single_tree)) is-asked gathers;
    proper = subst (λ tool. MakesFrom tool single_tree (asked_of single_request)) (sym tool_is) (subst (MakesFrom toy_tool single_tree) is-asked proper);
    limits = subst (λ tool. KeepsLimitsFrom tool single_tree (asked_of single_request)) (sym tool_is) (subst (KeepsLimitsFrom toy_tool single_tree) is-asked limits);
    input = input;
    tree = tree;
    tree_local = tree_local;
    benches = benches;
    there = λ remote. absurd (cc);
  }
