-- The trivial request meets what a quiet session has as its premises, over an empty source tree and the Toy world's tool.
use Rattle.std.proofs.Common.{◌≡◌, ℕ, true, List, [], refl, sym, subst}
use Rattle.rx_local.specs.Limits.{IsWithinLimits}
use Rattle.rx_reach.specs.Scenes.{scene_of}
use Rattle.rx_session.specs.Jobs.{command_of, declared_of}
use Rattle.rx_world.specs.declared.attempts.Plan.{Plan}
use Rattle.rx_world.specs.declared.attempts.Plan.TheVariants.{LocalOnly}
use Rattle.rx_world.specs.declared.commands.Command.{Command}
use Rattle.rx_world.specs.declared.outcomes.Outcome.{Outcome}
use Rattle.rx_world.specs.Toy.{toy_tool}
use Rattle.rx_world.specs.Causes.{Rose}
use Rattle.rx_engine.specs.Answers.{asked_of}
use Rattle.rx_engine.specs.Plans.{has_remote}
use Rattle.rx_engine.specs.Honest.{IsCleanFrom, IsHonest, IsSteady, IsTrustedFor, listed_tree}
use Rattle.rx_engine.specs.Meanings.{Meanings}
use Rattle.rx_engine.specs.Quiet.{AreApart, CanGather, IsQuiet, KeepsLimitsFrom, MakesFrom}
use Rattle.witness_rows.specs.Trivial.{trivial_frame, trivial_outcome, trivial_request}
use Rattle.witness_rows.proofs.Both.{here-alone, kept-by-none}
use Rattle.witness_rows.proofs.NoFile.{clean-empty, empty-within, no-files, no-outputs, no-tree, unblocked, within-list, within-scan}

abbrev trivial_command : Command
trivial_command = command_of trivial_request

no-output : trivial_command.outputs ≡ []
unfolding command_of
no-output = refl

apart : AreApart []
apart path below file h = cc

gathers : CanGather (scene_of []) (asked_of trivial_request)
unfolding declared_of
gathers = record {
  there = refl;
  scan = within-scan trivial_command;
  list = within-list trivial_command;
  planned = λ cause kept. absurd (kept-by-none trivial_command [] (scene_of []) cause kept);
  free = λ cause files kept sorted each. unblocked trivial_command no-output cause files kept (λ file h. (each file).0 h);
}

proper : MakesFrom toy_tool [] (asked_of trivial_request)
unfolding declared_of
proper gathered g o ends = rw (no-outputs trivial_command gathered no-output o) refl

limits : KeepsLimitsFrom toy_tool [] (asked_of trivial_request)
unfolding declared_of
limits gathered g o outcome clean =
    let is = clean-empty gathered.command (listed_tree [] gathered) outcome (no-outputs trivial_command gathered no-output o)
    (no-tree gathered (no-files trivial_command gathered g)) clean in
    subst IsWithinLimits (sym is) empty-within

-- its clean run is just that
pub trivial-only : (o : Outcome) → IsCleanFrom toy_tool [] (asked_of trivial_request) o → o ≡ trivial_outcome
unfolding declared_of
trivial-only o c =
    clean-empty c.gathered.command (listed_tree [] c.gathered) o (no-outputs trivial_command c.gathered no-output c.orderly)
    (no-tree c.gathered (no-files trivial_command c.gathered c.inputs)) c.clean

module _ {P W B : Type 0} (m : Meanings P W B) (root : List ℕ) (before : P) where
  -- no farm is asked
  trusted : IsTrustedFor m before [] (asked_of trivial_request)
  unfolding declared_of
  trusted gathered g o remote =
      let there : has_remote LocalOnly ≡ true = subst (λ (plan : Plan). has_remote plan ≡ true) (here-alone trivial_command [] (scene_of []) gathered g) remote in
      absurd (cc)

  -- with the frame as its input, and with empty source trees, a session is honest
  pub honest : IsSteady m root before trivial_frame trivial_request [] → IsHonest m root before trivial_frame trivial_request []
  honest s = record { steady = s; farm = trusted }

  -- and where besides no count rises it is quiet
  pub quiet : (after : P) → IsSteady m root before trivial_frame trivial_request [] → m.world.stamps_honest → m.world.tool ≡ toy_tool
      → (Rose (m.input.faults before) (m.input.faults after) → ⊥) → (Rose (m.tree.faults before) (m.tree.faults after) → ⊥)
      → (Rose (m.tree_local.faults before) (m.tree_local.faults after) → ⊥) → (Rose (m.benches.faults before) (m.benches.faults after) → ⊥)
      → IsQuiet m root before after trivial_frame trivial_request
  quiet after s stamps tool_is input tree tree_local benches = record {
    entries = [];
    steady = s;
    stamps = stamps;
    apart = apart;
    gathers = gathers;
    proper = subst (λ tool. MakesFrom tool [] (asked_of trivial_request)) (sym tool_is) proper;
    limits = subst (λ tool. KeepsLimitsFrom tool [] (asked_of trivial_request)) (sym tool_is) limits;
    input = input;
    tree = tree;
    tree_local = tree_local;
    benches = benches;
    there = λ remote. absurd (cc);
  }
