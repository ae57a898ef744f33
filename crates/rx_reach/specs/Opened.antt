-- The files that a compiler opens, under some choice of branches. Each of them is reached.
use Rattle.std.specs.Prelude.{◌≡◌, ℕ, ◌⊎◌, Bool, true, false, List, [], ◌∷◌, ◌++◌, All, Contains}
use Rattle.rx_lex.specs.Directives.{Name}
use Rattle.rx_world.specs.Sources.{is_file}
use Rattle.rx_reach.specs.declared.searches.Search.{Search}
use Rattle.rx_reach.specs.Candidates.{Finds, Try}
use Rattle.rx_reach.specs.Scenes.{Scene}
use Rattle.rx_reach.specs.Searches.{forced_tries, includes_of, tries_of}

-- Which includes of a file are in active branches, and which of these are an `include_next`. Any choice may be made.
pub record Choice : Type 0 where
  pub active : List ℕ → Name → Bool
  pub is_next : List ℕ → Name → Bool

-- some file exists there
abbrev pub IsThere : Scene → Try → Type 0
IsThere scene t = (path : List ℕ) × Finds scene t path

-- the first existing candidate
pub record TakesFirst (scene : Scene) (tries : List Try) (path : List ℕ) : Type 0 where
  pub before : List Try
  pub taken : Try
  pub after : List Try
  pub split : tries ≡ before ++ taken ∷ after
  pub finds : Finds scene taken path
  pub none : All (λ t. IsThere scene t → ⊥) before

-- an existing candidate behind the first
pub record TakesLater (scene : Scene) (tries : List Try) (path : List ℕ) : Type 0 where
  pub before : List Try
  pub taken : Try
  pub after : List Try
  pub split : tries ≡ before ++ taken ∷ after
  pub finds : Finds scene taken path
  pub some : (t : Try) × Contains before t × IsThere scene t

-- An include takes the first candidate, and `include_next` may take any later one.
abbrev pub Takes : Scene → List Try → Bool → List ℕ → Type 0
Takes scene tries false path = TakesFirst scene tries path
Takes scene tries true path = TakesFirst scene tries path ⊎ TakesLater scene tries path

-- the compiler opens the path with these files open, the last of them first
abbrev pub OpensIn : Scene → Search → Choice → List (List ℕ) → List ℕ → Type 0
OpensIn scene search choice [] path =
    ((path ≡ search.source) × (is_file (scene.look path) ≡ true))
    ⊎ ((name : List ℕ) × Contains search.forced name × TakesFirst scene (forced_tries search name) path)
OpensIn scene search choice (file ∷ others) path =
    OpensIn scene search choice others file
    × ((name : Name) × Contains (includes_of scene file).list name × (choice.active file name ≡ true) × Takes scene (tries_of search file name) (choice.is_next file name) path)

abbrev pub IsOpened : Scene → Search → List ℕ → Type 0
IsOpened scene search path = (choice : Choice) × (files : List (List ℕ)) × OpensIn scene search choice files path
