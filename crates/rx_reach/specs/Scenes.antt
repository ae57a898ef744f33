-- A scene: what stands at each path, and what its file holds. Answers of a source tree are right in a scene, or not.
use Rattle.std.specs.Prelude.{◌≡◌, ℕ, List, Some, IfSome}
use Rattle.rx_world.specs.declared.looks.Look.{Look}
use Rattle.rx_world.specs.declared.sources.Given.{Given}
use Rattle.rx_world.specs.declared.sources.SourceEntry.{SourceEntry}
use Rattle.rx_world.specs.Sources.{entry_at}
use Rattle.rx_reach.specs.Sights.{seen_at}

pub record Scene : Type 0 where
  pub look : List ℕ → Look
  pub text : List ℕ → List ℕ

-- what a list of paths shows
abbrev pub scene_of : List SourceEntry → Scene
scene_of entries = record { look = λ path. (entry_at path entries).look; text = λ path. (entry_at path entries).bytes }

-- the answer tells what the scene has
pub record IsRight (scene : Scene) (answer : Given) : Type 0 where
  pub look_is : answer.look ≡ scene.look answer.path
  pub bytes_are : IfSome answer.bytes (λ bytes. bytes ≡ scene.text answer.path)

-- what was seen is what the scene has
abbrev pub AreRight : Scene → List (List ℕ × Look) → Type 0
AreRight scene sights = (path : List ℕ) (look : Look) → seen_at sights path ≡ Some look → look ≡ scene.look path

-- this holds in every scene: nothing is said of it
abbrev pub Always : Scene → Type 0
Always scene = Unit {0}

-- this holds in each scene in which what was seen is right
abbrev pub Sees : List (List ℕ × Look) → (Scene → Type 0) → Type 0
Sees sights Known = (scene : Scene) → AreRight scene sights → Known scene
