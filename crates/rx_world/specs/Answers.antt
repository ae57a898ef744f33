-- What the calls of a source tree answered, from one of its states to another.
use Rattle.std.specs.Prelude.{◌≡◌, ◌≢◌, ◌≤◌, ℕ, List, [], Option, All, IfSome, MatchOption}
use Rattle.rx_world.specs.declared.looks.Stamp.{Stamp}
use Rattle.rx_world.specs.declared.sources.Given.{Given}
use Rattle.rx_world.specs.declared.sources.SourceEntry.{SourceEntry}
use Rattle.rx_world.specs.declared.sources.Sources as sources
use Rattle.rx_world.specs.declared.world.World as world
use Rattle.rx_world.specs.Sources.{Adds, GivesContent, HoldContent, entry_at}

-- the answer is the one that the list has
pub record IsAnswerOf (entries : List SourceEntry) (answer : Given) : Type 0 where
  pub look_is : answer.look ≡ (entry_at answer.path entries).look
  pub bytes_are : MatchOption answer.bytes (Unit {0}) (λ bytes. bytes ≡ (entry_at answer.path entries).bytes)

-- the bytes of a read are the world's
abbrev pub HasContent : (List ℕ → Stamp → List ℕ) → Given → Type 0
HasContent content answer = IfSome answer.bytes (GivesContent content answer.path answer.look)

-- Between two states a source tree gave these answers: it tells them, they are those of its list while calls keep it, and where stamps
-- are honest the contents are the world's, those of the answers and, where there are any, those of the list. Its count didn't fall.
pub record Gives {T W : Type 0} (w : world.Ghosts W) (s : sources.Ghosts T W) (before after : T) (answers : List Given) : Type 0 where
  pub told : Adds (s.given before) (s.given after) answers
  pub kept : s.keeps before → s.keeps after × (s.listed after ≡ s.listed before)
  pub by_list : s.keeps before → IfSome (s.listed before) (λ entries. All (IsAnswerOf entries) answers)
  pub contents : w.stamps_honest → All (HasContent w.content) answers
  pub holds : w.stamps_honest → s.keeps before → answers ≢ [] → IfSome (s.listed before) (HoldContent w.content)
  pub later : s.faults before ≤ s.faults after
