-- The local attempt: what an outcome of it means, and why it has none.
use Rattle.std.specs.Prelude.{◌≡◌, ◌⊎◌, ◌≤◌, ℕ, List, [], ◌∷◌, Option, None, Some, Result, IfErr, IfSome, MatchResult, false, if◌then◌else◌, is_none, pos}
use Rattle.rx_world.specs.declared.attempts.BenchStep.{BenchStep}
use Rattle.rx_world.specs.declared.attempts.BenchStep.TheVariants.{Make, MakeDir, Put, Run, Take}
use Rattle.rx_world.specs.declared.attempts.Cause.{Cause}
use Rattle.rx_world.specs.declared.attempts.Cause.TheVariants.{BenchFault, InputChanged, NoMemory, OutputMissing, OutputTooLarge, SourceFault, Stopped}
use Rattle.rx_world.specs.declared.benches.Bench as benches
use Rattle.rx_world.specs.declared.benches.BenchMaker as makers
use Rattle.rx_world.specs.declared.benches.BenchRun.{BenchRun}
use Rattle.rx_world.specs.declared.commands.Command.{Command}
use Rattle.rx_world.specs.declared.decisions.Decision.{Decision}
use Rattle.rx_world.specs.declared.failures.Refused.{Refused}
use Rattle.rx_world.specs.declared.failures.Refused.TheVariants.{Failed, NoMemory as no_memory}
use Rattle.rx_world.specs.declared.input_files.InputFile.{InputFile}
use Rattle.rx_world.specs.declared.outcomes.Exit.{Exit}
use Rattle.rx_world.specs.declared.outcomes.FileOut.{FileOut}
use Rattle.rx_world.specs.declared.outcomes.Outcome.{Outcome}
use Rattle.rx_world.specs.declared.refusals.OutputLimit.{OutputLimit}
use Rattle.rx_world.specs.declared.sources.Given.{Given}
use Rattle.rx_world.specs.declared.sources.Sources as sources
use Rattle.rx_world.specs.declared.trees.Tree.{Tree}
use Rattle.rx_world.specs.declared.world.World as world
use Rattle.rx_world.specs.Answers.{Gives}
use Rattle.rx_world.specs.Benches.{Returns}
use Rattle.rx_world.specs.Causes.{Rose}
use Rattle.rx_world.specs.Decisions.{StopsBy}
use Rattle.rx_world.specs.Files.{cut_files, file_at}
use Rattle.rx_world.specs.Outcomes.{IsClean, IsProper}
use Rattle.rx_world.specs.Trees.{tree_of, with_parents}
use Rattle.rx_local.specs.declared.local.LocalJob.{LocalJob}
use Rattle.rx_local.specs.Limits.{passed, passed_of}
use Rattle.rx_local.specs.Stage.{AreStaged, IsChangedInput, IsCutShort, IsLostInput, IsRefusedInput}

-- what an attempt runs: a command on these files and directories
pub record Job : Type 0 where
  pub command : Command
  pub files : List InputFile
  pub directories : List (List ℕ)

abbrev pub job : Command → List InputFile → List (List ℕ) → Job
job command files directories = record { command = command; files = files; directories = directories }

-- the job that is handed in
abbrev pub local_job : LocalJob → Job
local_job l = job l.command.now l.files.now l.directories.now

-- ---- what the tool makes

-- the first of these paths at which no file is
abbrev pub first_missing : List (List ℕ) → List FileOut → Option (List ℕ)
first_missing [] files = None
first_missing (path ∷ paths) files = if is_none (file_at path files) then Some path else first_missing paths files

-- the tool ends with code 0, and of the command's outputs this is the first that it doesn't make
pub record LacksOutput (tool : Command → Tree → Outcome) (command : Command) (tree : Tree) (path : List ℕ) : Type 0 where
  pub code_is : (tool command tree).exit.code ≡ pos 0
  pub first : first_missing command.outputs (tool command tree).files ≡ Some path

-- ---- what the bench of an attempt shows

-- where there is a bench, and it tells its runs, this is so of them
abbrev pub IfRunsTold : {B W : Type 0} → benches.Ghosts B W → Option B → (List BenchRun → Type 0) → Type 0
IfRunsTold b made Fact = IfSome made (λ bench. IfSome (b.runs bench) Fact)

-- where there is a bench, and it tells its tree, this is so of it
abbrev pub IfTreeTold : {B W : Type 0} → benches.Ghosts B W → Option B → (Tree → Type 0) → Type 0
IfTreeTold b made Fact = IfSome made (λ bench. IfSome (b.tree bench) Fact)

-- the run of a job over these files, its directories and those of its outputs
abbrev pub run_of : Job → List FileOut → Exit → BenchRun
run_of j staged exit = record {
  command = j.command;
  tree = with_parents j.command.outputs (tree_of staged j.directories);
  exit = exit;
}

-- there was this run alone
abbrev pub IsOnlyRun : Job → List FileOut → Exit → List BenchRun → Type 0
IsOnlyRun j staged exit all = all ≡ run_of j staged exit ∷ []

-- the command ran once or not at all
abbrev pub RanAtMostOnce : List BenchRun → Type 0
RanAtMostOnce all = (all ≡ []) ⊎ ((run : BenchRun) × (all ≡ run ∷ []))

-- The bench of an attempt came back, and no other one; none did where none was made.
abbrev pub IsReturned : {B : Type 0} → Option (List B) → Option (List B) → Option B → Type 0
IsReturned before after (Some bench) = Returns before after bench
IsReturned before after None = after ≡ before

-- ---- an outcome

-- The files were read and staged. Where tools are honest, the outcome is the tool's.
pub record IsOutcomeOf {W : Type 0} (w : world.Ghosts W) (j : Job) (answers : List Given) (outcome : Outcome) : Type 0 where
  pub staged : List FileOut
  pub each : AreStaged j.files answers staged
  pub clean : w.tools_honest → IsClean w.tool j.command (tree_of staged j.directories) outcome

-- The same, and the bench ran just once, over the staged files and to this exit; at code 0 the outcome has the files that stand there.
pub record IsRunOf {B W : Type 0} (w : world.Ghosts W) (b : benches.Ghosts B W) (made : Option B) (j : Job) (answers : List Given)
    (outcome : Outcome) : Type 0 where
  pub of : IsOutcomeOf w j answers outcome
  pub made_one : is_none made ≡ false
  pub ran : IfRunsTold b made (IsOnlyRun j of.staged outcome.exit)
  pub taken : IfTreeTold b made (λ tree. outcome.exit.code ≡ pos 0 → outcome.files ≡ cut_files j.command.outputs tree.files)

-- ---- a cause

-- all files were staged
abbrev pub HaveStaged : List InputFile → List Given → Type 0
HaveStaged files answers = (staged : List FileOut) × AreStaged files answers staged

-- what was read before a step of the bench failed
abbrev pub IsReadBefore : BenchStep → List InputFile → List Given → Type 0
IsReadBefore Make files answers = answers ≡ []
IsReadBefore Put files answers = IsRefusedInput files answers
IsReadBefore MakeDir files answers = HaveStaged files answers
IsReadBefore Run files answers = HaveStaged files answers
IsReadBefore Take files answers = HaveStaged files answers

-- where tools are honest, the missing output is the first that the tool doesn't make of these files
pub record IsMissingOf {W : Type 0} (w : world.Ghosts W) (j : Job) (answers : List Given) (path : List ℕ) : Type 0 where
  pub staged : List FileOut
  pub each : AreStaged j.files answers staged
  pub lacks : w.tools_honest → LacksOutput w.tool j.command (tree_of staged j.directories) path

-- The outcome that would else be given passes this limit first. Where tools are honest, it is the tool's.
pub record IsTooLargeOf {W : Type 0} (w : world.Ghosts W) (j : Job) (answers : List Given) (limit : OutputLimit) (n : ℕ) : Type 0 where
  pub outcome : Outcome
  pub of : IsOutcomeOf w j answers outcome
  pub proper : IsProper j.command outcome
  pub passes : passed_of outcome ≡ Some (passed limit n)

-- what was read before a decision was told: nothing, or all files
abbrev pub IsReadBeforeStop : List InputFile → List Given → Type 0
IsReadBeforeStop files answers = (answers ≡ []) ⊎ HaveStaged files answers

-- each cause only with what was read before it
abbrev pub IsCauseOf : {W : Type 0} → world.Ghosts W → Job → List Given → Cause → Type 0
IsCauseOf w j answers (BenchFault step) = IsReadBefore step j.files answers
IsCauseOf w j answers (OutputMissing path) = IsMissingOf w j answers path
IsCauseOf w j answers (InputChanged input) = IsChangedInput j.files answers input
IsCauseOf w j answers (OutputTooLarge limit n) = IsTooLargeOf w j answers limit n
IsCauseOf w j answers (SourceFault path) = IsLostInput j.files answers path
IsCauseOf w j answers (Stopped decision) = IsReadBeforeStop j.files answers
IsCauseOf w j answers NoMemory = IsCutShort j.files answers

-- the steps of a bench before the command runs on it
abbrev pub IsStepBefore : BenchStep → Type 0
IsStepBefore Make = ⊥
IsStepBefore Put = Unit {0}
IsStepBefore MakeDir = Unit {0}
IsStepBefore Run = Unit {0}
IsStepBefore Take = ⊥

-- the causes on a bench for which no run of the command ended
abbrev pub IsBeforeRun : Cause → Type 0
IsBeforeRun (BenchFault step) = IsStepBefore step
IsBeforeRun (InputChanged input) = Unit {0}
IsBeforeRun (SourceFault path) = Unit {0}
IsBeforeRun (OutputMissing path) = ⊥
IsBeforeRun (OutputTooLarge limit n) = ⊥
IsBeforeRun (Stopped decision) = Unit {0}
IsBeforeRun NoMemory = ⊥

-- the causes for which a bench doesn't stand ready for a run
abbrev pub IsPrepareCause : Cause → Type 0
IsPrepareCause (BenchFault step) = (step ≡ Put) ⊎ (step ≡ MakeDir)
IsPrepareCause (InputChanged input) = Unit {0}
IsPrepareCause (SourceFault path) = Unit {0}
IsPrepareCause (OutputMissing path) = ⊥
IsPrepareCause (OutputTooLarge limit n) = ⊥
IsPrepareCause (Stopped decision) = ⊥
IsPrepareCause NoMemory = Unit {0}

-- the causes at which outputs are taken, after the command ran to code 0
abbrev pub IsTakeCause : Cause → Type 0
IsTakeCause (BenchFault step) = step ≡ Take
IsTakeCause (OutputMissing path) = Unit {0}
IsTakeCause (InputChanged input) = ⊥
IsTakeCause (OutputTooLarge limit n) = ⊥
IsTakeCause (SourceFault path) = ⊥
IsTakeCause (Stopped decision) = ⊥
IsTakeCause NoMemory = ⊥

-- a bench couldn't be made
abbrev pub IsUnmade : Cause → Type 0
IsUnmade (BenchFault step) = step ≡ Make
IsUnmade (InputChanged input) = ⊥
IsUnmade (OutputMissing path) = ⊥
IsUnmade (OutputTooLarge limit n) = ⊥
IsUnmade (SourceFault path) = ⊥
IsUnmade (Stopped decision) = ⊥
IsUnmade NoMemory = ⊥

-- for a missing output this is so of its path
abbrev pub IfMissing : Cause → (List ℕ → Type 0) → Type 0
IfMissing (BenchFault step) Fact = Unit {0}
IfMissing (OutputMissing path) Fact = Fact path
IfMissing (InputChanged input) Fact = Unit {0}
IfMissing (OutputTooLarge limit n) Fact = Unit {0}
IfMissing (SourceFault path) Fact = Unit {0}
IfMissing (Stopped decision) Fact = Unit {0}
IfMissing NoMemory Fact = Unit {0}

-- for an outcome that is too large this is so of the limit and of the bytes
abbrev pub IfTooLarge : Cause → (OutputLimit → ℕ → Type 0) → Type 0
IfTooLarge (BenchFault step) Fact = Unit {0}
IfTooLarge (OutputMissing path) Fact = Unit {0}
IfTooLarge (InputChanged input) Fact = Unit {0}
IfTooLarge (OutputTooLarge limit n) Fact = Fact limit n
IfTooLarge (SourceFault path) Fact = Unit {0}
IfTooLarge (Stopped decision) Fact = Unit {0}
IfTooLarge NoMemory Fact = Unit {0}

-- a decision was told
abbrev pub IsStopped : Cause → Type 0
IsStopped (BenchFault step) = ⊥
IsStopped (OutputMissing path) = ⊥
IsStopped (InputChanged input) = ⊥
IsStopped (OutputTooLarge limit n) = ⊥
IsStopped (SourceFault path) = ⊥
IsStopped (Stopped decision) = Unit {0}
IsStopped NoMemory = ⊥

-- the files were staged, and the bench ran just once, over them and to code 0
pub record HasRunOnce {B W : Type 0} (b : benches.Ghosts B W) (made : Option B) (j : Job) (answers : List Given) : Type 0 where
  pub staged : List FileOut
  pub each : AreStaged j.files answers staged
  pub exit : Exit
  pub code_is : exit.code ≡ pos 0
  pub ran : IfRunsTold b made (IsOnlyRun j staged exit)

-- the bench ran just once, and the outcome of this run passes this limit first
pub record HasRunPast {B W : Type 0} (w : world.Ghosts W) (b : benches.Ghosts B W) (made : Option B) (j : Job) (answers : List Given)
    (limit : OutputLimit) (n : ℕ) : Type 0 where
  pub outcome : Outcome
  pub run : IsRunOf w b made j answers outcome
  pub passes : passed_of outcome ≡ Some (passed limit n)

-- the files were staged and, where tools are honest, the bench holds the tree over which the command is to run
pub record IsReady {B W : Type 0} (w : world.Ghosts W) (b : benches.Ghosts B W) (bench : B) (j : Job) (answers : List Given) : Type 0 where
  pub staged : List FileOut
  pub each : AreStaged j.files answers staged
  pub stands : w.tools_honest → b.tree bench ≡ Some (with_parents j.command.outputs (tree_of staged j.directories))

-- a decision was told before a bench was made and anything was read, or when the bench stood ready
abbrev pub IsAtStop : {B W : Type 0} → world.Ghosts W → benches.Ghosts B W → Option B → Job → List Given → Type 0
IsAtStop w b None j answers = answers ≡ []
IsAtStop w b (Some bench) j answers = IsReady w b bench j answers

-- A cause, with what was read and what had run on the bench: nothing before it, one run, or at most one. There is no bench exactly where
-- none could be made or a decision was told before, and a missing output is missing on it.
pub record IsFailureOf {B W : Type 0} (w : world.Ghosts W) (b : benches.Ghosts B W) (made : Option B) (j : Job) (answers : List Given)
    (cause : Cause) : Type 0 where
  pub caused : IsCauseOf w j answers cause
  pub not_run : IsBeforeRun cause → IfRunsTold b made (λ all. all ≡ [])
  pub run_once : IsTakeCause cause → HasRunOnce b made j answers
  pub run_past : IfTooLarge cause (HasRunPast w b made j answers)
  pub at_most_once : IfRunsTold b made RanAtMostOnce
  pub unmade : made ≡ None → IsUnmade cause ⊎ IsStopped cause
  pub made_none : IsUnmade cause → made ≡ None
  pub stopped : IsStopped cause → IsAtStop w b made j answers
  pub lacks : IfMissing cause (λ path. IfTreeTold b made (λ tree. first_missing j.command.outputs tree.files ≡ Some path))

-- for a fault the count of its part rose, of the benches or of the source tree
abbrev pub IsCounted : ℕ → ℕ → ℕ → ℕ → Cause → Type 0
IsCounted benches_before benches_now sources_before sources_now (BenchFault step) = Rose benches_before benches_now
IsCounted benches_before benches_now sources_before sources_now (SourceFault path) = Rose sources_before sources_now
IsCounted benches_before benches_now sources_before sources_now (OutputMissing path) = Unit {0}
IsCounted benches_before benches_now sources_before sources_now (InputChanged input) = Unit {0}
IsCounted benches_before benches_now sources_before sources_now (OutputTooLarge limit n) = Unit {0}
IsCounted benches_before benches_now sources_before sources_now (Stopped decision) = Unit {0}
IsCounted benches_before benches_now sources_before sources_now NoMemory = Unit {0}

-- the cause where a bench refuses a step
abbrev pub cause_at : BenchStep → Refused → Cause
cause_at step Failed = BenchFault step
cause_at step no_memory = NoMemory

-- the step of the bench at which the attempt failed, if it did so at one
abbrev pub step_of : Cause → Option BenchStep
step_of (BenchFault step) = Some step
step_of (OutputMissing path) = None
step_of (InputChanged input) = None
step_of (OutputTooLarge limit n) = None
step_of (SourceFault path) = None
step_of (Stopped decision) = None
step_of NoMemory = None

-- a bench whose calls had not failed has failed at no step but that of the cause
abbrev pub HasFailedAt : {B W T : Type 0} → benches.Ghosts B W → B → Result T Cause → Type 0
HasFailedAt b bench result = MatchResult result (λ _. b.failed_at bench ≡ None) (λ cause. b.failed_at bench ≡ step_of cause)

-- ---- a whole attempt

-- What the files were read from, and how the attempt on a bench ended.
pub record HasEnded {B T W : Type 0} (w : world.Ghosts W) (b : benches.Ghosts B W) (s : sources.Ghosts T W) (made : Option B) (j : Job)
    (before after : T) (result : Result Outcome Cause) : Type 0 where
  pub answers : List Given
  pub gives : Gives w s before after answers
  pub ended : MatchResult result (IsRunOf w b made j answers) (IsFailureOf w b made j answers)

-- no count changed
pub record IsUntouched (benches_before benches_now sources_before sources_now : ℕ) : Type 0 where
  pub benches_are : benches_now ≡ benches_before
  pub sources_are : sources_now ≡ sources_before

-- The same, and the bench that was made for it, at most one, came back; where the attempt failed at a step of the bench, a call of that
-- step failed last on it, and else none did. No count fell, and that of the part that failed rose. Where a
-- decision was told before a bench was made, none changed.
pub record HasAttempted {M B T W : Type 0} (w : world.Ghosts W) (m : makers.Ghosts M W B) (b : benches.Ghosts B W) (s : sources.Ghosts T W)
    (j : Job) (benches_before benches_after : M) (before after : T) (result : Result Outcome Cause) : Type 0 where
  pub made : Option B
  pub returned : IsReturned (m.returned benches_before) (m.returned benches_after) made
  pub failed : IfSome made (λ bench. HasFailedAt b bench result)
  pub on : HasEnded w b s made j before after result
  pub later : m.faults benches_before ≤ m.faults benches_after
  pub counted : IfErr result (IsCounted (m.faults benches_before) (m.faults benches_after) (s.faults before) (s.faults after))
  pub untouched : IfErr result (λ cause. IsStopped cause → made ≡ None →
      IsUntouched (m.faults benches_before) (m.faults benches_after) (s.faults before) (s.faults after))

-- an input changed
abbrev pub IsChanged : Cause → Type 0
IsChanged (InputChanged input) = Unit {0}
IsChanged (BenchFault step) = ⊥
IsChanged (OutputMissing path) = ⊥
IsChanged (OutputTooLarge limit n) = ⊥
IsChanged (SourceFault path) = ⊥
IsChanged (Stopped decision) = ⊥
IsChanged NoMemory = ⊥

-- ---- what a stop tells

-- at the end of an attempt for this cause
abbrev pub Tells : Option Decision → Option Decision → Cause → Type 0
Tells before now (Stopped decision) = StopsBy now decision
Tells before now (BenchFault step) = now ≡ before
Tells before now (OutputMissing path) = now ≡ before
Tells before now (InputChanged input) = now ≡ before
Tells before now (OutputTooLarge limit n) = now ≡ before
Tells before now (SourceFault path) = now ≡ before
Tells before now NoMemory = now ≡ before

-- A stop that was asked tells the decision of the cause, where that is Stopped, and else what it told before.
abbrev pub HasTold : Option Decision → Option Decision → Result Outcome Cause → Type 0
HasTold before now result = MatchResult result (λ outcome. now ≡ before) (Tells before now)
