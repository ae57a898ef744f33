-- What an outcome is, and that nothing changes, where stamps are honest or a source tree keeps its list.
use Rattle.std.proofs.Common.{ℕ, List, subst, map}
use Rattle.std.specs.Prelude.{All, Err, IfErr, IfOk, IfSome, None, Ok, Option, Result, Some}
use Rattle.rx_world.specs.declared.attempts.Cause.{Cause}
use Rattle.rx_world.specs.declared.attempts.Cause.TheVariants.{BenchFault, InputChanged, NoMemory, OutputMissing, OutputTooLarge, SourceFault, Stopped}
use Rattle.rx_world.specs.declared.benches.Bench as benches
use Rattle.rx_world.specs.declared.commands.Command.{Command}
use Rattle.rx_world.specs.declared.input_files.InputFile.{InputFile}
use Rattle.rx_world.specs.declared.outcomes.FileOut.{FileOut}
use Rattle.rx_world.specs.declared.outcomes.Outcome.{Outcome}
use Rattle.rx_world.specs.declared.sources.Given.{Given}
use Rattle.rx_world.specs.declared.sources.SourceEntry.{SourceEntry}
use Rattle.rx_world.specs.declared.sources.Sources as sources
use Rattle.rx_world.specs.declared.trees.Tree.{Tree}
use Rattle.rx_world.specs.declared.world.World as world
use Rattle.rx_world.specs.Answers.{IsAnswerOf}
use Rattle.rx_world.specs.Inputs.{IsAsListed, listed_copy, world_copy}
use Rattle.rx_world.specs.Outcomes.{IsClean}
use Rattle.rx_world.specs.Trees.{tree_of}
use Rattle.rx_local.specs.Local.{HasEnded, IsCauseOf, IsChanged, Job}
use Rattle.rx_local.specs.Stage.{AreStaged}
use Rattle.rx_local.proofs.Staging.{not-changed, staged-content, staged-listed}

pub stamped-run : {B T W : Type 0} (w : world.Ghosts W) (b : benches.Ghosts B W) (s : sources.Ghosts T W) (made : Option B) (j : Job) (before after : T) (result : Result Outcome Cause)
    → HasEnded w b s made j before after result
    → IfOk result (λ outcome. w.tools_honest → w.stamps_honest → IsClean w.tool j.command (tree_of (map (world_copy w.content) j.files) j.directories) outcome)
stamped-run w b s made j before after (Err cause) h = tt
stamped-run w b s made j before after (Ok outcome) h = λ so sure.
    let of = h.ended.of in
    subst (λ files. IsClean w.tool j.command (tree_of files j.directories) outcome) (staged-content w.content j.files h.answers of.staged of.each (h.gives.contents sure)) (of.clean so)

listed-over : (o : Option (List SourceEntry)) (tool : Command → Tree → Outcome) (command : Command) (files : List InputFile) (directories : List (List ℕ)) (answers : List Given) (staged : List FileOut) (outcome : Outcome) → AreStaged files answers staged → IfSome o (λ entries. All (IsAnswerOf entries) answers)
    → IsClean tool command (tree_of staged directories) outcome → IfSome o (λ entries. IsClean tool command (tree_of (map (listed_copy entries) files) directories) outcome)
listed-over None tool command files directories answers staged outcome each all clean = tt
listed-over (Some entries) tool command files directories answers staged outcome each all clean =
    subst (λ s. IsClean tool command (tree_of s directories) outcome) (staged-listed entries files answers staged each all) clean

pub listed-run : {B T W : Type 0} (w : world.Ghosts W) (b : benches.Ghosts B W) (s : sources.Ghosts T W) (made : Option B) (j : Job) (before after : T) (result : Result Outcome Cause)
    → HasEnded w b s made j before after result
    → IfOk result (λ outcome. w.tools_honest → s.keeps before → IfSome (s.listed before) (λ entries. IsClean w.tool j.command (tree_of (map (listed_copy entries) j.files) j.directories) outcome))
listed-run w b s made j before after (Err cause) h = tt
listed-run w b s made j before after (Ok outcome) h = λ so kept.
    let of = h.ended.of in
    listed-over (s.listed before) w.tool j.command j.files j.directories h.answers of.staged outcome of.each (h.gives.by_list kept) (of.clean so)

unchanged-over : {W : Type 0} (o : Option (List SourceEntry)) (w : world.Ghosts W) (j : Job) (answers : List Given) (cause : Cause) → IfSome o (λ entries. All (IsAnswerOf entries) answers)
    → IsCauseOf w j answers cause → IfSome o (λ entries. All (IsAsListed entries) j.files → IsChanged cause → ⊥)
unchanged-over None w j answers cause all h = tt
unchanged-over (Some entries) w j answers (InputChanged input) all h = λ there changed. not-changed entries j.files answers input h all there
unchanged-over (Some entries) w j answers (BenchFault step) all h = λ there changed. changed
unchanged-over (Some entries) w j answers (OutputMissing path) all h = λ there changed. changed
unchanged-over (Some entries) w j answers (OutputTooLarge limit n) all h = λ there changed. changed
unchanged-over (Some entries) w j answers (SourceFault path) all h = λ there changed. changed
unchanged-over (Some entries) w j answers (Stopped decision) all h = λ there changed. changed
unchanged-over (Some entries) w j answers NoMemory all h = λ there changed. changed

pub unchanged-run : {B T W : Type 0} (w : world.Ghosts W) (b : benches.Ghosts B W) (s : sources.Ghosts T W) (made : Option B) (j : Job) (before after : T) (result : Result Outcome Cause)
    → HasEnded w b s made j before after result
    → IfErr result (λ cause. s.keeps before → IfSome (s.listed before) (λ entries. All (IsAsListed entries) j.files → IsChanged cause → ⊥))
unchanged-run w b s made j before after (Ok outcome) h = tt
unchanged-run w b s made j before after (Err cause) h = λ kept.
    unchanged-over (s.listed before) w j h.answers cause (h.gives.by_list kept) h.ended.caused
