-- A stretch of a scan: what the source tree answered in it, what was seen after it, and what is known by it.
use Rattle.std.specs.Prelude.{ℕ, List, All}
use Rattle.rx_world.specs.declared.looks.Look.{Look}
use Rattle.rx_world.specs.declared.sources.Given.{Given}
use Rattle.rx_world.specs.declared.sources.Sources as sources
use Rattle.rx_world.specs.declared.world.World as world
use Rattle.rx_world.specs.Answers.{Gives}
use Rattle.rx_reach.specs.declared.faults.SightFault.{SightFault}
use Rattle.rx_reach.specs.Scenes.{AreRight, IsRight, Scene}
use Rattle.rx_reach.specs.Sights.{Blames, Notes}

-- The stretch ended well, and this holds in each scene in which what was seen before and the answers are right.
pub record Scans {T W : Type 0} (w : world.Ghosts W) (s : sources.Ghosts T W) (before after : T) (old new : List (List ℕ × Look)) (Known : Scene → Type 0) : Type 0 where
  pub answers : List Given
  pub gives : Gives w s before after answers
  pub notes : Notes old new answers
  pub known : (scene : Scene) → AreRight scene old → All (IsRight scene) answers → Known scene

-- it ended by a fault, for its cause
pub record Ends {T W : Type 0} (w : world.Ghosts W) (s : sources.Ghosts T W) (before after : T) (old : List (List ℕ × Look)) (fault : SightFault) : Type 0 where
  pub answers : List Given
  pub gives : Gives w s before after answers
  pub blames : Blames old answers (s.faults before) (s.faults after) fault
