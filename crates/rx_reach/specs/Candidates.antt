-- A candidate: a directory joined with the name of an include, and the way to it.
use Rattle.std.specs.Prelude.{◌≡◌, ◌≤◌, ◌↔◌, ℕ, ◌-◌, ◌||◌, ◌&&◌, ◌⊎◌, ◌==◌, Bool, true, false, List, [], ◌∷◌, ◌++◌, Ok, Err, All, Contains, codes, length, take, if◌then◌else◌}
use Rattle.std.specs.Str.{IsUtf8, bytes_eq}
use Rattle.rx_base.specs.Paths.{join_of, joined, longest, parts}
use Rattle.rx_base.specs.declared.path_fault.PathFault.{PathFault}
use Rattle.rx_base.specs.declared.path_fault.PathFault.TheVariants.{Absolute, AboveRoot, BadByte, Empty, NoMemory, TooLong}
use Rattle.rx_world.specs.declared.looks.Look.{Look}
use Rattle.rx_world.specs.declared.looks.Look.TheVariants.{Absent, Dir, File, Other}
use Rattle.rx_world.specs.Sources.{is_file}
use Rattle.rx_reach.specs.declared.tries.Candidate.{Candidate}
use Rattle.rx_reach.specs.declared.tries.Candidate.TheVariants as candidate
use Rattle.rx_reach.specs.declared.candidates.Step.{Step}
use Rattle.rx_reach.specs.declared.tries.Tried.{Tried}
use Rattle.rx_reach.specs.Scenes.{Scene}

-- a name that is sought in a directory
pub record Try : Type 0 where
  pub dir : List ℕ
  pub name : List ℕ

abbrev pub try_in : List ℕ → List ℕ → Try
try_in dir name = record { dir = dir; name = name }

-- the name begins with a slash, or leaves the root
abbrev pub IsOutside : Try → Type 0
IsOutside t = IsUtf8 t.name × ((join_of t.dir t.name ≡ Err Absolute) ⊎ (join_of t.dir t.name ≡ Err AboveRoot))

-- ---- the way

-- the names of a path; the root has none
abbrev pub names_of : List ℕ → List (List ℕ)
names_of path = if length path == 0 then [] else parts path

abbrev pub is_up : List ℕ → Bool
is_up part = bytes_eq part (codes "..")

abbrev pub is_skipped : List ℕ → Bool
is_skipped part = bytes_eq part [] || bytes_eq part (codes ".")

-- where one more part leads from these names
abbrev pub next_names : List (List ℕ) → List ℕ → List (List ℕ)
next_names names part = if is_up part then take (length names - 1) names else names ++ part ∷ []

-- The directories that these parts pass through from these names on, and whether the next part leaves them again.
abbrev pub steps : List (List ℕ) → List (List ℕ) → List Step
steps names [] = []
steps names (part ∷ others) =
    if is_skipped part then steps names others
    else record { path = joined names; left = is_up part } ∷ steps (next_names names part) others

-- the whole way of a candidate, from the root on
abbrev pub way : Try → List Step
way t = steps [] (parts t.dir ++ parts t.name)

-- all paths on the way are short enough to be looked at
abbrev pub AreShort : List Step → Type 0
AreShort passed = All (λ step. length step.path ≤ longest) passed

-- The path of the candidate. A name that is no text, is empty, has a zero byte, or makes too long a path at its end or on its way
-- has none.
abbrev pub IsAt : Try → List ℕ → Type 0
IsAt t path = IsUtf8 t.name × (join_of t.dir t.name ≡ Ok path) × AreShort (way t)

-- ---- what a scene has there

abbrev pub is_dir : Look → Bool
is_dir Dir = true
is_dir Absent = false
is_dir (File stamp executable) = false
is_dir Other = false

abbrev pub is_other : Look → Bool
is_other Other = true
is_other Absent = false
is_other (File stamp executable) = false
is_other Dir = false

-- what stands at a step; the root is a directory
abbrev pub step_look : Scene → List ℕ → Look
step_look scene path = if length path == 0 then Dir else scene.look path

-- whether one can go on from there
abbrev pub is_passable : Scene → Step → Bool
is_passable scene step = is_dir (step_look scene step.path)

-- the steps before the first that is no directory
abbrev pub walked : Scene → List Step → List Step
walked scene [] = []
walked scene (step ∷ others) = if is_passable scene step then step ∷ walked scene others else []

-- the path at which a way ends: the candidate, or the first step that is no directory
abbrev pub end_of : Scene → List Step → List ℕ → List ℕ
end_of scene [] path = path
end_of scene (step ∷ others) path = if is_passable scene step then end_of scene others path else step.path

-- ---- where a way ends

-- what was found where nothing is left of the way
abbrev pub candidate_at_end : Look → List ℕ → Candidate
candidate_at_end (File stamp executable) path = candidate.Found path
candidate_at_end Other path = candidate.Other path
candidate_at_end Absent path = candidate.Nothing
candidate_at_end Dir path = candidate.Nothing

-- what was found at a step that is no directory
abbrev pub candidate_at_stop : Look → List ℕ → Candidate
candidate_at_stop Other path = candidate.Other path
candidate_at_stop (File stamp executable) path = candidate.Nothing
candidate_at_stop Absent path = candidate.Nothing
candidate_at_stop Dir path = candidate.Nothing

abbrev pub candidate_at : Scene → List Step → List ℕ → Candidate
candidate_at scene [] path = candidate_at_end (scene.look path) path
candidate_at scene (step ∷ others) path =
    if is_passable scene step then candidate_at scene others path else candidate_at_stop (step_look scene step.path) step.path

-- the paths of those steps that are left again
abbrev pub left_of : List Step → List (List ℕ)
left_of [] = []
left_of (step ∷ others) = if step.left then step.path ∷ left_of others else left_of others

-- the same of one step, where it is a directory
abbrev pub left_at : Look → Step → List (List ℕ)
left_at look step = if is_dir look && step.left then step.path ∷ [] else []

-- what was found at the end of a way
abbrev pub Follows : Scene → List Step → List ℕ → Tried → Type 0
Follows scene passed path tried = (tried.candidate ≡ candidate_at scene passed path) × (tried.left ≡ left_of (walked scene passed))

-- what is found where the directory and the name make no path
abbrev pub refusal : PathFault → Candidate
refusal Absolute = candidate.Outside
refusal AboveRoot = candidate.Outside
refusal Empty = candidate.Nothing
refusal TooLong = candidate.Nothing
refusal (BadByte at) = candidate.Nothing
refusal NoMemory = candidate.Nothing

-- ---- what a try gives

-- the candidate exists: all that it passes through is a directory, and at its end there is a file
pub record Finds (scene : Scene) (t : Try) (path : List ℕ) : Type 0 where
  pub at : IsAt t path
  pub passes : walked scene (way t) ≡ way t
  pub file : is_file (scene.look path) ≡ true

-- on the way to the candidate, or at its end, there is neither a directory nor a file, and yet something
pub record MeetsOther (scene : Scene) (t : Try) (path : List ℕ) : Type 0 where
  pub end : List ℕ
  pub at : IsAt t end
  pub path_is : path ≡ end_of scene (way t) end
  pub other : is_other (scene.look path) ≡ true

-- an existing directory that the way leaves again
abbrev pub Leaves : Scene → Try → List ℕ → Type 0
Leaves scene t path = (end : List ℕ) × IsAt t end × Contains (walked scene (way t)) (record { path = path; left = true })

-- what the try found is what the scene has
pub record IsTried (scene : Scene) (t : Try) (tried : Tried) : Type 0 where
  pub finds : (path : List ℕ) → Finds scene t path ↔ (tried.candidate ≡ candidate.Found path)
  pub outside : IsOutside t ↔ (tried.candidate ≡ candidate.Outside)
  pub meets : (path : List ℕ) → MeetsOther scene t path ↔ (tried.candidate ≡ candidate.Other path)
  pub leaves : (path : List ℕ) → Leaves scene t path ↔ Contains tried.left path
