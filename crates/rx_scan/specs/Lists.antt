-- What a source tree lists, and what a scan learns from one of its states to another.
use Rattle.std.specs.Prelude.{◌≡◌, ◌≤◌, ℕ, ◌||◌, Bool, true, List, All, Contains, IfSome, length, map}
use Rattle.std.specs.Str.{bytes_eq}
use Rattle.rx_base.specs.Paths.{is_below}
use Rattle.rx_base.specs.SortedPaths.{AreSorted}
use Rattle.rx_world.specs.declared.looks.Look.{Look}
use Rattle.rx_world.specs.declared.sources.Found.{Found}
use Rattle.rx_world.specs.declared.sources.Given.{Given}
use Rattle.rx_world.specs.declared.sources.Sources as sources
use Rattle.rx_world.specs.declared.world.World as world
use Rattle.rx_world.specs.Answers.{Gives}
use Rattle.rx_world.specs.Sources.{is_file}
use Rattle.rx_reach.specs.declared.faults.SightFault.{SightFault}
use Rattle.rx_reach.specs.Scenes.{AreRight, IsRight, Scene, scene_of}
use Rattle.rx_reach.specs.Sights.{Blames, Notes}

-- ---- what is told

-- a list that a source tree gave: what it found at or below a path, up to one more than so many
pub record Listing : Type 0 where
  pub under : List ℕ
  pub most : ℕ
  pub found : List (List ℕ)

-- whether a path is another or lies below it
abbrev pub is_under : List ℕ → List ℕ → Bool
is_under under path = is_below path under || bytes_eq path under

-- The list has files of the scene at or below its path and nothing else, in order, and all of them where they are no more than may be.
pub record IsRightList (scene : Scene) (listing : Listing) : Type 0 where
  pub sorted : AreSorted listing.found
  pub only : (path : List ℕ) → Contains listing.found path → (is_file (scene.look path) ≡ true) × (is_under listing.under path ≡ true)
  pub whole : length listing.found ≤ listing.most → (path : List ℕ) → is_file (scene.look path) ≡ true → is_under listing.under path ≡ true → Contains listing.found path

-- the scene has what was seen before, what was answered and what was listed
pub record Shows (scene : Scene) (sights : List (List ℕ × Look)) (answers : List Given) (lists : List Listing) : Type 0 where
  pub seen : AreRight scene sights
  pub answered : All (IsRight scene) answers
  pub listed : All (IsRightList scene) lists

-- Between two states a source tree gave these answers and lists. Where it tells its paths and keeps them, the lists are right by them.
pub record Tells {T W : Type 0} (w : world.Ghosts W) (s : sources.Ghosts T W) (before after : T) (answers : List Given) (lists : List Listing) : Type 0 where
  pub gives : Gives w s before after answers
  pub by_list : s.keeps before → IfSome (s.listed before) (λ entries. All (IsRightList (scene_of entries)) lists)

-- From one state of a source tree to another a scan was given answers and lists, noted the answers, and this holds in each scene
-- that shows them.
pub record Learns {T W : Type 0} (w : world.Ghosts W) (s : sources.Ghosts T W) (before after : T) (old new : List (List ℕ × Look)) (Fact : Scene → Type 0) : Type 0 where
  pub answers : List Given
  pub lists : List Listing
  pub tells : Tells w s before after answers lists
  pub notes : Notes old new answers
  pub fact : (scene : Scene) → Shows scene old answers lists → Fact scene

-- ---- what ended early

-- A stretch of a gathering: what was seen before it and after it, the source tree's count of faults before and now, and what was
-- answered and listed in it.
pub record Stretch : Type 0 where
  pub old : List (List ℕ × Look)
  pub new : List (List ℕ × Look)
  pub before : ℕ
  pub now : ℕ
  pub answers : List Given
  pub lists : List Listing

abbrev pub stretch : List (List ℕ × Look) → List (List ℕ × Look) → ℕ → ℕ → List Given → List Listing → Stretch
stretch old new before now answers lists = record { old = old; new = new; before = before; now = now; answers = answers; lists = lists }

-- what was seen after it is the first look at each path, and no answer differs from that
abbrev pub HasView : Stretch → Type 0
HasView st = Notes st.old st.new st.answers

-- this holds in each scene that shows all of it
abbrev pub Shown : Stretch → (Scene → Type 0) → Type 0
Shown st Fact = (scene : Scene) → Shows scene st.old st.answers st.lists → Fact scene

-- a fault of a look or a read only for its cause
abbrev pub BlamesSight : SightFault → Stretch → Type 0
BlamesSight fault st = Blames st.old st.answers st.before st.now fault

-- From one state of a source tree to another a scan was given answers and lists, and ended early: this holds of the stretch.
pub record Fails {T W : Type 0} (w : world.Ghosts W) (s : sources.Ghosts T W) (before after : T) (old new : List (List ℕ × Look)) (Cause : Stretch → Type 0) : Type 0 where
  pub answers : List Given
  pub lists : List Listing
  pub tells : Tells w s before after answers lists
  pub cause : Cause (stretch old new (s.faults before) (s.faults after) answers lists)

-- ---- one list

abbrev pub paths_of : List Found → List (List ℕ)
paths_of found = map (λ f. f.path) found

-- the scene has what was found, each as it was seen
pub record IsListed (scene : Scene) (under : List ℕ) (most : ℕ) (found : List Found) : Type 0 where
  pub right : IsRightList scene (record { under = under; most = most; found = paths_of found })
  pub looks : All (λ f. f.look ≡ scene.look f.path) found
