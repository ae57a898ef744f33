-- What is put on a bench, one after the other.
use Rattle.std.specs.Prelude.{◌≡◌, ℕ, List, [], ◌∷◌, ◌++◌, Option, pos}
use Rattle.rx_base.specs.Digests.{digest_of}
use Rattle.rx_base.specs.Told.{Told}
use Rattle.rx_world.specs.declared.attempts.BenchStep.{BenchStep}
use Rattle.rx_world.specs.declared.attempts.BenchStep.TheVariants.{Put, Take}
use Rattle.rx_world.specs.declared.attempts.Cause.{Cause}
use Rattle.rx_world.specs.declared.attempts.Cause.TheVariants.{BenchFault, InputChanged, NoMemory, OutputMissing, OutputTooLarge, SourceFault, Stopped}
use Rattle.rx_world.specs.declared.benches.Bench as benches
use Rattle.rx_world.specs.declared.commands.Command.{Command}
use Rattle.rx_world.specs.declared.input_files.InputFile.{InputFile}
use Rattle.rx_world.specs.declared.looks.ChangedInput.{ChangedInput}
use Rattle.rx_world.specs.declared.outcomes.Exit.{Exit}
use Rattle.rx_world.specs.declared.outcomes.FileOut.{FileOut}
use Rattle.rx_world.specs.declared.sources.Given.{Given}
use Rattle.rx_world.specs.declared.sources.Sources as sources
use Rattle.rx_world.specs.declared.trees.Tree.{Tree}
use Rattle.rx_world.specs.declared.world.World as world
use Rattle.rx_world.specs.Answers.{Gives}
use Rattle.rx_world.specs.Benches.{Runs}
use Rattle.rx_world.specs.Causes.{Rose}
use Rattle.rx_world.specs.Inputs.{look_of}
use Rattle.rx_world.specs.Sources.{given_bytes}
use Rattle.rx_world.specs.Trees.{tree_with_directories, tree_with_files}
use Rattle.rx_inputs.specs.declared.read_fault.ReadFault.{ReadFault}
use Rattle.rx_inputs.specs.declared.read_fault.ReadFault.TheVariants as reads
use Rattle.rx_inputs.specs.Reads.{IsChange, IsNextRead}

-- all these files are put into the tree
abbrev pub PutsAll : Option Tree → Option Tree → List FileOut → Type 0
PutsAll old new files = Told old new (λ x y. y ≡ tree_with_files files x)

-- all these directories are made in the tree
abbrev pub MakesAll : Option Tree → Option Tree → List (List ℕ) → Type 0
MakesAll old new paths = Told old new (λ x y. y ≡ tree_with_directories paths x)

-- The file was read as it was gathered, in its look and its digest, and these bytes were staged at its path, with its mark.
pub record IsStaged (file : InputFile) (answer : Given) (staged : FileOut) : Type 0 where
  pub read : answer ≡ given_bytes file.path (look_of file) staged.bytes
  pub digest_is : digest_of staged.bytes ≡ file.digest
  pub path_is : staged.path ≡ file.path
  pub mark_is : staged.executable ≡ file.executable

-- each file was read just once, in order, and staged
abbrev pub AreStaged : List InputFile → List Given → List FileOut → Type 0
AreStaged [] [] [] = Unit {0}
AreStaged (file ∷ files) (answer ∷ answers) (copy ∷ copies) = IsStaged file answer copy × AreStaged files answers copies
AreStaged files answers copies = ⊥

-- The files of a front were staged; these are left, and the source tree gave these answers after those of the front.
pub record IsFront (files rest : List InputFile) (answers last : List Given) : Type 0 where
  pub front : List InputFile
  pub read : List Given
  pub staged : List FileOut
  pub files_are : files ≡ front ++ rest
  pub answers_are : answers ≡ read ++ last
  pub each : AreStaged front read staged

-- the next file after a front was read, and isn't as it was gathered
pub record IsChangedInput (files : List InputFile) (answers : List Given) (input : ChangedInput) : Type 0 where
  pub file : InputFile
  pub rest : List InputFile
  pub last : List Given
  pub front : IsFront files (file ∷ rest) answers last
  pub change : IsChange file last input

-- the next file after a front couldn't be read
pub record IsLostInput (files : List InputFile) (answers : List Given) (path : List ℕ) : Type 0 where
  pub file : InputFile
  pub rest : List InputFile
  pub front : IsFront files (file ∷ rest) answers []
  pub path_is : path ≡ file.path

-- the next file was read as it was gathered, and the bench refused it
pub record IsRefusedInput (files : List InputFile) (answers : List Given) : Type 0 where
  pub file : InputFile
  pub rest : List InputFile
  pub bytes : List ℕ
  pub front : IsFront files (file ∷ rest) answers (given_bytes file.path (look_of file) bytes ∷ [])
  pub digest_is : digest_of bytes ≡ file.digest

-- the files of a front were staged, and of those that are left at most the next was read
pub record IsCutShort (files : List InputFile) (answers : List Given) : Type 0 where
  pub rest : List InputFile
  pub last : List Given
  pub front : IsFront files rest answers last
  pub next : IsNextRead rest last

-- each cause for which the files don't stand on the bench
abbrev pub IsStageCause : List InputFile → List Given → Cause → Type 0
IsStageCause files answers (BenchFault step) = (step ≡ Put) × IsRefusedInput files answers
IsStageCause files answers (InputChanged input) = IsChangedInput files answers input
IsStageCause files answers (SourceFault path) = IsLostInput files answers path
IsStageCause files answers (OutputMissing path) = ⊥
IsStageCause files answers (OutputTooLarge limit n) = ⊥
IsStageCause files answers (Stopped decision) = ⊥
IsStageCause files answers NoMemory = IsCutShort files answers

-- the cause of an attempt for which a file isn't read as it was gathered
abbrev pub cause_of_read : ReadFault → Cause
cause_of_read (reads.InputChanged input) = InputChanged input
cause_of_read (reads.SourceFault path) = SourceFault path
cause_of_read reads.NoMemory = NoMemory

-- From one state of a source tree to another all these files were staged, and this holds of what was put.
pub record HasStaged {T W : Type 0} (w : world.Ghosts W) (s : sources.Ghosts T W) (before after : T)
    (files : List InputFile) (IsPut : List FileOut → Type 0) : Type 0 where
  pub answers : List Given
  pub staged : List FileOut
  pub gives : Gives w s before after answers
  pub each : AreStaged files answers staged
  pub put : IsPut staged

-- Between two states of a source tree not all of these files were staged, for this cause.
pub record HasFailedStaging {T W : Type 0} (w : world.Ghosts W) (s : sources.Ghosts T W) (before after : T)
    (IsCause : List Given → Cause → Type 0) (cause : Cause) : Type 0 where
  pub answers : List Given
  pub gives : Gives w s before after answers
  pub caused : IsCause answers cause

-- each cause of this step, at which all files stand on the bench; a missing output is found where outputs are taken
abbrev pub IsStepCause : BenchStep → ℕ → ℕ → Cause → Type 0
IsStepCause step before now (BenchFault at) = (at ≡ step) × Rose before now
IsStepCause step before now (OutputMissing path) = step ≡ Take
IsStepCause step before now (InputChanged input) = ⊥
IsStepCause step before now (OutputTooLarge limit n) = ⊥
IsStepCause step before now (Stopped decision) = ⊥
IsStepCause step before now (SourceFault path) = ⊥
IsStepCause step before now NoMemory = Unit {0}

-- the command ran on the bench once more, to code 0
pub record HasRunToZero {B W : Type 0} (b : benches.Ghosts B W) (command : Command) (before after : B) : Type 0 where
  pub exit : Exit
  pub code_is : exit.code ≡ pos 0
  pub ran : Runs (b.tree before) (b.runs before) (b.runs after) command exit
