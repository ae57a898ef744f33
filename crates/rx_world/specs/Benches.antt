-- What the calls of a bench do to what it tells.
use Rattle.std.specs.Prelude.{◌≡◌, ℕ, Bool, List, [], ◌∷◌, ◌++◌, MatchResult, Option, None, Result, Some, IfSome, pos}
use Rattle.rx_base.specs.Told.{Told}
use Rattle.rx_world.specs.declared.attempts.BenchStep.{BenchStep}
use Rattle.rx_world.specs.declared.benches.BenchRun.{BenchRun}
use Rattle.rx_world.specs.declared.commands.Command.{Command}
use Rattle.rx_world.specs.declared.failures.Refused.{Refused}
use Rattle.rx_world.specs.declared.failures.Refused.TheVariants.{Failed, NoMemory}
use Rattle.rx_world.specs.declared.outcomes.Exit.{Exit}
use Rattle.rx_world.specs.declared.outcomes.FileOut.{FileOut}
use Rattle.rx_world.specs.declared.outcomes.Outcome.{Outcome}
use Rattle.rx_world.specs.declared.trees.Tree.{Tree}
use Rattle.rx_world.specs.Files.{cut_files, file_at}
use Rattle.rx_world.specs.Trees.{empty_tree, tree_with_directory, tree_with_file}

-- a file is put into the tree
abbrev pub Puts : Option Tree → Option Tree → List ℕ → List ℕ → Bool → Type 0
Puts old new path bytes executable =
    Told old new (λ x y. y ≡ tree_with_file (record { path = path; bytes = bytes; executable = executable }) x)

-- a directory is made in the tree
abbrev pub Makes : Option Tree → Option Tree → List ℕ → Type 0
Makes old new path = Told old new (λ x y. y ≡ tree_with_directory path x)

-- the run is added to those that are told, which they are only where the tree is
abbrev pub Runs : Option Tree → Option (List BenchRun) → Option (List BenchRun) → Command → Exit → Type 0
Runs None old new command exit = new ≡ None
Runs (Some tree) None new command exit = new ≡ None
Runs (Some tree) (Some before) new command exit = new ≡ Some (before ++ record { command = command; tree = tree; exit = exit } ∷ [])

-- the exit is the tool's, and at code 0 each output holds what the tool makes there
pub record IsToolRun (tool : Command → Tree → Outcome) (command : Command) (tree held : Tree) (exit : Exit) : Type 0 where
  pub exit_is : exit ≡ (tool command tree).exit
  pub files_are : exit.code ≡ pos 0 → cut_files command.outputs held.files ≡ cut_files command.outputs (tool command tree).files

-- the same, where the tree is told
abbrev pub RunsTool : (Command → Tree → Outcome) → Command → Option Tree → Option Tree → Exit → Type 0
RunsTool tool command old new exit = Told old new (λ tree held. IsToolRun tool command tree held exit)

-- the file that is taken is the one that the tree has at the path
abbrev pub Takes : Option Tree → List ℕ → Option FileOut → Type 0
Takes told path file = IfSome told (λ tree. file ≡ file_at path tree.files)

-- a call that fails leaves its step as the one that failed last, and any other call leaves what was
abbrev pub FailsAt : {T E : Type 0} → BenchStep → Option BenchStep → Option BenchStep → Result T E → Type 0
FailsAt step old new result = MatchResult result (λ _. new ≡ old) (λ _. new ≡ Some step)

-- the step that failed last, after a call of this step that is refused
abbrev pub refused_at : BenchStep → Option BenchStep → Refused → Option BenchStep
refused_at step old Failed = Some step
refused_at step old NoMemory = old

-- the same of a call that may be refused for want of memory
abbrev pub IsRefusedAt : {T : Type 0} → BenchStep → Option BenchStep → Option BenchStep → Result T Refused → Type 0
IsRefusedAt step old new result = MatchResult result (λ _. new ≡ old) (λ refused. new ≡ refused_at step old refused)

-- an empty bench without faults, which tells its tree in an honest world
pub record IsFresh (honest : Type 0) (tree : Option Tree) (runs : Option (List BenchRun)) (faults : ℕ) (failed : Option BenchStep) : Type 0 where
  pub no_faults : faults ≡ 0
  pub no_failure : failed ≡ None
  pub empty : IfSome tree (λ held. held ≡ empty_tree)
  pub tells : honest → tree ≡ Some empty_tree
  pub no_runs : IfSome runs (λ before. (before ≡ []) × (tree ≡ Some empty_tree))

-- the list has these and then this one
pub record IsMore {B : Type 0} (old : Option (List B)) (all : List B) (bench : B) : Type 0 where
  pub before : List B
  pub told : old ≡ Some before
  pub is : all ≡ before ++ bench ∷ []

-- The bench is added to those that came back. A maker that can't keep it tells none from then on.
abbrev pub Returns : {B : Type 0} → Option (List B) → Option (List B) → B → Type 0
Returns old new bench = IfSome new (λ all. IsMore old all bench)
