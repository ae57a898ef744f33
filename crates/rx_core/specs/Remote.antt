-- What a remote attempt may hear, and what that leaves.
use Rattle.std.specs.Prelude.{◌≡◌, Bool, List, [], ◌∷◌, Option, Some}
use Rattle.rx_base.specs.declared.digests.Digest.{Digest}
use Rattle.rx_world.specs.declared.attempts.End.{End}
use Rattle.rx_world.specs.declared.attempts.End.TheVariants.{Done, Failed}
use Rattle.rx_world.specs.declared.attempts.Origin.{Origin}
use Rattle.rx_world.specs.declared.commands.Command.{Command}
use Rattle.rx_world.specs.declared.decisions.Decision.{Decision}
use Rattle.rx_world.specs.declared.outcomes.Outcome.{Outcome}
use Rattle.rx_world.specs.declared.remote_causes.RemoteCause.{RemoteCause}
use Rattle.rx_world.specs.declared.remote_causes.RemoteCause.TheVariants.{Stopped}
use Rattle.rx_world.specs.declared.trees.Tree.{Tree}
use Rattle.rx_world.specs.Outcomes.{IsClean, IsProper}

-- what an action is to run, whether a result of the farm's cache is accepted for it, and the digests
-- of the blobs that a farm needs for it
pub record Job : Type 0 where
  pub command : Command
  pub tree : Tree
  pub accept_cached : Bool
  pub blobs : List Digest

-- H is what a remote attempt hears at once: an answer to what it asked, the loss of one, or its
-- race's decision. In a list of what was heard the latest stands first.
pub record Rules (H : Type 0) : Type 1 where
  -- it may come after what was heard before it
  pub Fits : Job → List H → H → Type 0
  -- the decision that it tells
  pub decision_of : H → Option Decision
  -- the end that all that was heard leaves
  pub end_of : Job → List H → Option (End Outcome RemoteCause)
  -- it is what an honest farm answers
  pub IsHonest : Job → List H → Type 0

-- each might come after what was heard before it
abbrev pub AreHeard : {H : Type 0} → Rules H → Job → List H → Type 0
AreHeard rules job [] = Unit {0}
AreHeard rules job (item ∷ earlier) = rules.Fits job earlier item × AreHeard rules job earlier

-- what such rules owe, where this is what commands make of trees
pub record AreLawful {H : Type 0} (tool : Command → Tree → Outcome) (rules : Rules H) : Type 0 where
  -- an outcome is proper
  pub proper : (job : Job) (heard : List H) (outcome : Outcome) (origin : Origin)
      → AreHeard rules job heard → rules.end_of job heard ≡ Some (Done outcome origin)
      → IsProper job.command outcome
  -- a stop was heard last
  pub stops : (job : Job) (item : H) (earlier : List H) (decision : Decision)
      → AreHeard rules job (item ∷ earlier)
      → rules.end_of job (item ∷ earlier) ≡ Some (Failed (Stopped decision))
      → rules.decision_of item ≡ Some decision
  -- what an honest farm answers leads to the clean run
  pub clean : (job : Job) (heard : List H) (outcome : Outcome) (origin : Origin)
      → AreHeard rules job heard → rules.IsHonest job heard
      → rules.end_of job heard ≡ Some (Done outcome origin)
      → IsClean tool job.command job.tree outcome
