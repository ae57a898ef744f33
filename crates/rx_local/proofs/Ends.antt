-- How an attempt on a fresh bench ends: before the run, with an outcome, and after the run without one.
use Rattle.std.proofs.Common.{true≢false, inl, inr, ◌≡◌, ℕ, ◌⊎◌, List, [], ◌∷◌, ◌++◌, ap, append-nil, refl, subst, sym, ◌∙◌, pos}
use Rattle.std.specs.Prelude.{Err, IfErr, IfOk, IfSome, None, Ok, Option, Result, Some}
use Rattle.rx_base.specs.Told.{Told}
use Rattle.rx_world.specs.declared.attempts.BenchStep.TheVariants.{Run, Take}
use Rattle.rx_world.specs.declared.attempts.Cause.{Cause}
use Rattle.rx_world.specs.declared.attempts.Cause.TheVariants.{BenchFault, InputChanged, NoMemory, OutputMissing, OutputTooLarge, SourceFault, Stopped}
use Rattle.rx_world.specs.declared.benches.Bench as benches
use Rattle.rx_world.specs.declared.benches.BenchMaker as makers
use Rattle.rx_world.specs.declared.benches.BenchRun.{BenchRun}
use Rattle.rx_world.specs.declared.decisions.Decision.{Decision}
use Rattle.rx_world.specs.declared.input_files.InputFile.{InputFile}
use Rattle.rx_world.specs.declared.outcomes.Exit.{Exit}
use Rattle.rx_world.specs.declared.outcomes.FileOut.{FileOut}
use Rattle.rx_world.specs.declared.outcomes.Outcome.{Outcome}
use Rattle.rx_world.specs.declared.refusals.OutputLimit.{OutputLimit}
use Rattle.rx_world.specs.declared.sources.Given.{Given}
use Rattle.rx_world.specs.declared.sources.Sources as sources
use Rattle.rx_world.specs.declared.trees.Tree.{Tree}
use Rattle.rx_world.specs.declared.world.World as world
use Rattle.rx_world.proofs.AnswerLemmas.{gives-none}
use Rattle.rx_world.specs.Benches.{IsFresh, Runs}
use Rattle.rx_world.specs.Files.{cut_files}
use Rattle.rx_world.specs.Outcomes.{IsClean, IsProper}
use Rattle.rx_world.specs.Trees.{empty_tree, tree_of, tree_with_directories, tree_with_files, with_parents}
use Rattle.rx_local.specs.declared.limits.Passed.{Passed}
use Rattle.rx_local.specs.Limits.{passed_of}
use Rattle.rx_local.specs.Local.{HasAttempted, HasEnded, IfRunsTold, IfMissing, IfTooLarge, IsTakeCause, IsBeforeRun, IsCauseOf, IsOnlyRun, IsPrepareCause, IsReadBefore, IsStopped, IsUnmade, Job, LacksOutput, RanAtMostOnce, first_missing, run_of}
use Rattle.rx_local.specs.Stage.{AreStaged, HasFailedStaging, HasRunToZero, HasStaged, IsCutShort, IsStepCause}

-- ---- causes before the run

prepare-not-take : (cause : Cause) → IsPrepareCause cause → IsTakeCause cause → ⊥
prepare-not-take (BenchFault step) (inl e) after = absurd (cc)
prepare-not-take (BenchFault step) (inr e) after = absurd (cc)
prepare-not-take (InputChanged input) p after = after
prepare-not-take (OutputMissing path) p after = p
prepare-not-take (OutputTooLarge limit n) p after = p
prepare-not-take (SourceFault path) p after = after
prepare-not-take (Stopped decision) p after = p
prepare-not-take NoMemory p after = after

prepare-not-unmade : (cause : Cause) → IsPrepareCause cause → IsUnmade cause → ⊥
prepare-not-unmade (BenchFault step) (inl e) unmade = absurd (cc)
prepare-not-unmade (BenchFault step) (inr e) unmade = absurd (cc)
prepare-not-unmade (InputChanged input) p unmade = unmade
prepare-not-unmade (OutputMissing path) p unmade = p
prepare-not-unmade (OutputTooLarge limit n) p unmade = p
prepare-not-unmade (SourceFault path) p unmade = unmade
prepare-not-unmade (Stopped decision) p unmade = p
prepare-not-unmade NoMemory p unmade = unmade

prepare-not-missing : (cause : Cause) (Fact : List ℕ → Type 0) → IsPrepareCause cause → IfMissing cause Fact
prepare-not-missing (BenchFault step) Fact p = tt
prepare-not-missing (InputChanged input) Fact p = tt
prepare-not-missing (OutputMissing path) Fact p = absurd p
prepare-not-missing (OutputTooLarge limit n) Fact p = tt
prepare-not-missing (SourceFault path) Fact p = tt
prepare-not-missing (Stopped decision) Fact p = tt
prepare-not-missing NoMemory Fact p = tt

prepare-not-past : (cause : Cause) (Fact : OutputLimit → ℕ → Type 0) → IsPrepareCause cause → IfTooLarge cause Fact
prepare-not-past (BenchFault step) Fact p = tt
prepare-not-past (InputChanged input) Fact p = tt
prepare-not-past (OutputMissing path) Fact p = tt
prepare-not-past (OutputTooLarge limit n) Fact p = absurd p
prepare-not-past (SourceFault path) Fact p = tt
prepare-not-past (Stopped decision) Fact p = tt
prepare-not-past NoMemory Fact p = tt

prepare-not-stopped : (cause : Cause) → IsPrepareCause cause → IsStopped cause → ⊥
prepare-not-stopped (BenchFault step) p stopped = stopped
prepare-not-stopped (InputChanged input) p stopped = stopped
prepare-not-stopped (OutputMissing path) p stopped = stopped
prepare-not-stopped (OutputTooLarge limit n) p stopped = stopped
prepare-not-stopped (SourceFault path) p stopped = stopped
prepare-not-stopped (Stopped decision) p stopped = p
prepare-not-stopped NoMemory p stopped = stopped

-- ---- the runs and the tree of a fresh bench

-- its runs, where they are told: none
abbrev NoRuns : Option (List BenchRun) → Option Tree → Type 0
NoRuns runs tree = IfSome runs (λ before. (before ≡ []) × (tree ≡ Some empty_tree))

no-runs : (runs : Option (List BenchRun)) (tree : Option Tree) → NoRuns runs tree → IfSome runs (λ all. all ≡ [])
no-runs None tree h = tt
no-runs (Some before) tree h = h.0

none-at-most : (runs : Option (List BenchRun)) → IfSome runs (λ all. all ≡ []) → IfSome runs RanAtMostOnce
none-at-most None h = tt
none-at-most (Some all) h = inl h

one-at-most : (runs : Option (List BenchRun)) (run : BenchRun) → IfSome runs (λ all. all ≡ run ∷ []) → IfSome runs RanAtMostOnce
one-at-most None run h = tt
one-at-most (Some all) run h = inr (run, h)

-- what the staged files, the directories and those of the outputs make of a tree
abbrev stood : Job → List FileOut → Tree → Tree
stood j staged tree = with_parents j.command.outputs (tree_with_directories j.directories (tree_with_files staged tree))

abbrev Stands : Job → List FileOut → Option Tree → Option Tree → Type 0
Stands j staged old mid = Told old mid (λ x y. y ≡ stood j staged x)

stands-is : (j : Job) (staged : List FileOut) (x y : Tree) → Some x ≡ Some empty_tree → y ≡ stood j staged x → y ≡ with_parents j.command.outputs (tree_of staged j.directories)
stands-is j staged x y e h = let empty : x ≡ empty_tree = cc in h ∙ ap (stood j staged) empty

abbrev IsOneRun : Job → List FileOut → Exit → Option (List BenchRun) → Type 0
IsOneRun j staged exit runs = IfSome runs (IsOnlyRun j staged exit)

untold : (j : Job) (staged : List FileOut) (exit : Exit) (runs : Option (List BenchRun)) → runs ≡ None → IsOneRun j staged exit runs
untold j staged exit runs e = subst (IsOneRun j staged exit) (sym e) tt

-- a run on a fresh bench that was made ready is its only one
only-run : (j : Job) (staged : List FileOut) (exit : Exit) (old mid : Option Tree) (before after : Option (List BenchRun)) → NoRuns before old → Stands j staged old mid → Runs mid before after j.command exit → IsOneRun j staged exit after
only-run j staged exit old None before after fresh told run = untold j staged exit after run
only-run j staged exit old (Some t) None after fresh told run = untold j staged exit after run
only-run j staged exit None (Some t) (Some before) after fresh told run = absurd (cc)
only-run j staged exit (Some x) (Some t) (Some before) after fresh told run =
    let ran : List BenchRun = record { command = j.command; tree = t; exit = exit } ∷ [] in
    subst (IsOneRun j staged exit) (sym run)
    (ap (λ bs. bs ++ ran) fresh.0 ∙ ap (λ tree. record { command = j.command; tree = tree; exit = exit } ∷ []) (stands-is j staged x t fresh.1 told))

-- the tool makes the same of the tree with and without the directories of the outputs
same-tool : {W : Type 0} (w : world.Ghosts W) (j : Job) (staged : List FileOut) (x t : Tree) → Some x ≡ Some empty_tree → t ≡ stood j staged x → w.tool j.command t ≡ w.tool j.command (tree_of staged j.directories)
same-tool w j staged x t e told = ap (w.tool j.command) (stands-is j staged x t e told) ∙ w.parents_made j.command (tree_of staged j.directories)

clean-run : {W : Type 0} (w : world.Ghosts W) (j : Job) (staged : List FileOut) (outcome : Outcome) (old mid : Option Tree) → old ≡ Some empty_tree → Stands j staged old mid → IfSome mid (λ tree. IsClean w.tool j.command tree outcome) → IsClean w.tool j.command (tree_of staged j.directories) outcome
clean-run w j staged outcome None mid e told clean = absurd (cc)
clean-run w j staged outcome (Some x) None e told clean = absurd told
clean-run w j staged outcome (Some x) (Some t) e told clean =
    let same = same-tool w j staged x t e told in
    record {
      exit_is = clean.exit_is ∙ ap (λ (o : Outcome). o.exit) same;
      files_are = λ zero. clean.files_are zero ∙ ap (λ (o : Outcome). cut_files j.command.outputs o.files) same;
      none = clean.none;
    }

lacks-run : {W : Type 0} (w : world.Ghosts W) (j : Job) (staged : List FileOut) (path : List ℕ) (old mid : Option Tree) → old ≡ Some empty_tree → Stands j staged old mid → IfSome mid (λ tree. LacksOutput w.tool j.command tree path) → LacksOutput w.tool j.command (tree_of staged j.directories) path
lacks-run w j staged path None mid e told lacks = absurd (cc)
lacks-run w j staged path (Some x) None e told lacks = absurd told
lacks-run w j staged path (Some x) (Some t) e told lacks =
    let same = same-tool w j staged x t e told in
    record {
      code_is = ap (λ (o : Outcome). o.exit.code) (sym same) ∙ lacks.code_is;
      first = ap (λ (o : Outcome). first_missing j.command.outputs o.files) (sym same) ∙ lacks.first;
    }

-- ---- the ends

-- the bench didn't stand ready
pub ends-unready : {B T W : Type 0} (w : world.Ghosts W) (b : benches.Ghosts B W) (s : sources.Ghosts T W) (j : Job) (old new : B) (before after : T) (cause : Cause)
    → NoRuns (b.runs old) (b.tree old) → HasFailedStaging w s before after (IsCauseOf w j) cause → IsPrepareCause cause → b.runs new ≡ b.runs old
    → HasEnded w b s (Some new) j before after (Err cause)
ends-unready w b s j old new before after cause fresh failed prepare runs =
    let none : IfSome (b.runs new) (λ all. all ≡ []) = subst (λ o. IfSome o (λ all. all ≡ [])) (sym runs) (no-runs (b.runs old) (b.tree old) fresh) in
    record {
      answers = failed.answers;
      gives = failed.gives;
      ended = record {
        caused = failed.caused;
        not_run = λ _. none;
        run_once = λ ran. absurd (prepare-not-take cause prepare ran);
        run_past = prepare-not-past cause _ prepare;
        at_most_once = none-at-most (b.runs new) none;
        unmade = λ e. absurd (cc);
        made_none = λ unmade. absurd (prepare-not-unmade cause prepare unmade);
        stopped = λ stopped. absurd (prepare-not-stopped cause prepare stopped);
        lacks = prepare-not-missing cause _ prepare;
      };
    }

-- nothing more was to be read
all-read : (files : List InputFile) (answers : List Given) (staged : List FileOut) → AreStaged files answers staged → IsCutShort files answers
all-read files answers staged each = record {
  rest = [];
  last = [];
  front = record { front = files; read = answers; staged = staged; files_are = sym (append-nil files); answers_are = sym (append-nil answers); each = each };
  next = refl;
}

abbrev IsStepOfRun : ℕ → ℕ → Cause → Type 0
IsStepOfRun was now cause = IsStepCause Run was now cause ⊎ IsStepCause Take was now cause

module _ {W : Type 0} (w : world.Ghosts W) (j : Job) (answers : List Given) (staged : List FileOut) (each : AreStaged j.files answers staged) where
  run-cause : (was now : ℕ) (cause : Cause) → IsStepOfRun was now cause → IfMissing cause (λ path. w.tools_honest → LacksOutput w.tool j.command (tree_of staged j.directories) path) → IsCauseOf w j answers cause
  run-cause was now (BenchFault step) (inl h) missing = subst (λ at. IsReadBefore at j.files answers) (sym h.0) (staged, each)
  run-cause was now (BenchFault step) (inr h) missing = subst (λ at. IsReadBefore at j.files answers) (sym h.0) (staged, each)
  run-cause was now (OutputMissing path) step missing = record { staged = staged; each = each; lacks = missing }
  run-cause was now (InputChanged input) (inl h) missing = absurd h
  run-cause was now (InputChanged input) (inr h) missing = absurd h
  run-cause was now (OutputTooLarge limit n) (inl h) missing = absurd h
  run-cause was now (OutputTooLarge limit n) (inr h) missing = absurd h
  run-cause was now (SourceFault path) (inl h) missing = absurd h
  run-cause was now (SourceFault path) (inr h) missing = absurd h
  run-cause was now (Stopped decision) (inl h) missing = absurd h
  run-cause was now (Stopped decision) (inr h) missing = absurd h
  run-cause was now NoMemory step missing = all-read j.files answers staged each

run-not-unmade : (was now : ℕ) (cause : Cause) → IsStepOfRun was now cause → IsUnmade cause → ⊥
run-not-unmade was now (BenchFault step) (inl h) unmade = let at : step ≡ Run = h.0 in absurd (cc)
run-not-unmade was now (BenchFault step) (inr h) unmade = let at : step ≡ Take = h.0 in absurd (cc)
run-not-unmade was now (OutputMissing path) step unmade = unmade
run-not-unmade was now (InputChanged input) step unmade = unmade
run-not-unmade was now (OutputTooLarge limit n) step unmade = unmade
run-not-unmade was now (SourceFault path) step unmade = unmade
run-not-unmade was now (Stopped decision) step unmade = unmade
run-not-unmade was now NoMemory step unmade = unmade

run-not-past : (was now : ℕ) (cause : Cause) (Fact : OutputLimit → ℕ → Type 0) → IsStepOfRun was now cause → IfTooLarge cause Fact
run-not-past was now (BenchFault step) Fact p = tt
run-not-past was now (InputChanged input) Fact p = tt
run-not-past was now (OutputMissing path) Fact p = tt
run-not-past was now (OutputTooLarge limit n) Fact (inl h) = absurd h
run-not-past was now (OutputTooLarge limit n) Fact (inr h) = absurd h
run-not-past was now (SourceFault path) Fact p = tt
run-not-past was now (Stopped decision) Fact p = tt
run-not-past was now NoMemory Fact p = tt

run-not-stopped : (was now : ℕ) (cause : Cause) → IsStepOfRun was now cause → IsStopped cause → ⊥
run-not-stopped was now (BenchFault step) p stopped = stopped
run-not-stopped was now (InputChanged input) p stopped = stopped
run-not-stopped was now (OutputMissing path) p stopped = stopped
run-not-stopped was now (OutputTooLarge limit n) p stopped = stopped
run-not-stopped was now (SourceFault path) p stopped = stopped
run-not-stopped was now (Stopped decision) (inl h) stopped = h
run-not-stopped was now (Stopped decision) (inr h) stopped = h
run-not-stopped was now NoMemory p stopped = stopped

if-missing : (cause : Cause) (F G : List ℕ → Type 0) → ((path : List ℕ) → F path → G path) → IfMissing cause F → IfMissing cause G
if-missing (BenchFault step) F G says h = tt
if-missing (OutputMissing path) F G says h = says path h
if-missing (InputChanged input) F G says h = tt
if-missing (OutputTooLarge limit n) F G says h = tt
if-missing (SourceFault path) F G says h = tt
if-missing (Stopped decision) F G says h = tt
if-missing NoMemory F G says h = tt

module _ {B T W : Type 0} (w : world.Ghosts W) (b : benches.Ghosts B W) (s : sources.Ghosts T W) (j : Job) (old mid new : B) (before after : T)
    (fresh : IsFresh w.tools_honest (b.tree old) (b.runs old) (b.faults old) (b.failed_at old)) (same : b.runs mid ≡ b.runs old)
    (staged : HasStaged w s before after j.files (λ files. Stands j files (b.tree old) (b.tree mid))) where
  no-runs-yet : NoRuns (b.runs mid) (b.tree old)
  no-runs-yet = subst (λ o. NoRuns o (b.tree old)) (sym same) fresh.no_runs

  one-run : (exit : Exit) → Runs (b.tree mid) (b.runs mid) (b.runs new) j.command exit → IsOneRun j staged.staged exit (b.runs new)
  one-run exit run = only-run j staged.staged exit (b.tree old) (b.tree mid) (b.runs mid) (b.runs new) no-runs-yet staged.put run

  none-run : b.runs new ≡ b.runs mid → IfSome (b.runs new) (λ all. all ≡ [])
  none-run e = subst (λ o. IfSome o (λ all. all ≡ [])) (sym e) (no-runs (b.runs mid) (b.tree old) no-runs-yet)

  at-most-once : (b.runs new ≡ b.runs mid) ⊎ HasRunToZero b j.command mid new → IfSome (b.runs new) RanAtMostOnce
  at-most-once (inl e) = none-at-most (b.runs new) (none-run e)
  at-most-once (inr ran) = one-at-most (b.runs new) (run_of j staged.staged ran.exit) (one-run ran.exit ran.ran)

  -- the bench stood ready, and the command was run on it
  pub ends-ready : (was now : ℕ) (result : Result Outcome Cause)
      → IfOk result (λ outcome. w.tools_honest → IfSome (b.tree mid) (λ tree. IsClean w.tool j.command tree outcome))
      → IfOk result (λ outcome. Runs (b.tree mid) (b.runs mid) (b.runs new) j.command outcome.exit)
      → IfOk result (λ outcome. IfSome (b.tree new) (λ tree. outcome.exit.code ≡ pos 0 → outcome.files ≡ cut_files j.command.outputs tree.files))
      → IfErr result (IsStepOfRun was now)
      → IfErr result (λ cause. IsBeforeRun cause → b.runs new ≡ b.runs mid)
      → IfErr result (λ cause. IsTakeCause cause → HasRunToZero b j.command mid new)
      → IfErr result (λ cause. (b.runs new ≡ b.runs mid) ⊎ HasRunToZero b j.command mid new)
      → IfErr result (λ cause. IfMissing cause (λ path. w.tools_honest → IfSome (b.tree mid) (λ tree. LacksOutput w.tool j.command tree path)))
      → IfErr result (λ cause. IfMissing cause (λ path. IfSome (b.tree new) (λ tree. first_missing j.command.outputs tree.files ≡ Some path)))
      → HasEnded w b s (Some new) j before after result
  ends-ready was now (Ok outcome) clean ran taken step not_run ended once missing lacks = record {
    answers = staged.answers;
    gives = staged.gives;
    ended = record {
      of = record {
        staged = staged.staged;
        each = staged.each;
        clean = λ so. clean-run w j staged.staged outcome (b.tree old) (b.tree mid) (fresh.tells so) staged.put (clean so);
      };
      made_one = refl;
      ran = one-run outcome.exit ran;
      taken = taken;
    };
  }
  ends-ready was now (Err cause) clean ran taken step not_run ended once missing lacks = record {
    answers = staged.answers;
    gives = staged.gives;
    ended = record {
      caused = run-cause w j staged.answers staged.staged staged.each was now cause step
          (if-missing cause _ _ (λ path h so. lacks-run w j staged.staged path (b.tree old) (b.tree mid) (fresh.tells so) staged.put (h so)) missing);
      not_run = λ unrun. none-run (not_run unrun);
      run_once = λ over. let ran = ended over in record { staged = staged.staged; each = staged.each; exit = ran.exit; code_is = ran.code_is; ran = one-run ran.exit ran.ran };
      run_past = run-not-past was now cause _ step;
      at_most_once = at-most-once once;
      unmade = λ e. absurd (cc);
      made_none = λ unmade. absurd (run-not-unmade was now cause step unmade);
      stopped = λ stopped. absurd (run-not-stopped was now cause step stopped);
      lacks = lacks;
    };
  }

-- a bench that was made ready holds the tree of the run, where it tells that it was empty
stands-ready : (j : Job) (staged : List FileOut) (old mid : Option Tree) → old ≡ Some empty_tree → Stands j staged old mid → mid ≡ Some (with_parents j.command.outputs (tree_of staged j.directories))
stands-ready j staged None mid e told = absurd (cc)
stands-ready j staged (Some x) None e told = absurd told
stands-ready j staged (Some x) (Some t) e told = ap (λ tree. Some tree) (stands-is j staged x t e told)

-- a decision was told when the bench stood ready
pub ends-stopped : {B T W : Type 0} (w : world.Ghosts W) (b : benches.Ghosts B W) (s : sources.Ghosts T W) (j : Job) (old new : B) (before after : T) (decision : Decision)
    → IsFresh w.tools_honest (b.tree old) (b.runs old) (b.faults old) (b.failed_at old) → b.runs new ≡ b.runs old → HasStaged w s before after j.files (λ files. Stands j files (b.tree old) (b.tree new))
    → HasEnded w b s (Some new) j before after (Err (Stopped decision))
ends-stopped w b s j old new before after decision fresh runs staged =
    let none : IfSome (b.runs new) (λ all. all ≡ []) = subst (λ o. IfSome o (λ all. all ≡ [])) (sym runs) (no-runs (b.runs old) (b.tree old) fresh.no_runs) in
    record {
      answers = staged.answers;
      gives = staged.gives;
      ended = record {
        caused = inr (staged.staged, staged.each);
        not_run = λ _. none;
        run_once = λ x. absurd x;
        run_past = tt;
        at_most_once = none-at-most (b.runs new) none;
        unmade = λ e. absurd (cc);
        made_none = λ x. absurd x;
        stopped = λ _. record {
          staged = staged.staged;
          each = staged.each;
          stands = λ so. stands-ready j staged.staged (b.tree old) (b.tree new) (fresh.tells so) staged.put;
        };
        lacks = tt;
      };
    }

-- a decision was told before a bench was made
pub ends-unbegun : {B T W : Type 0} (w : world.Ghosts W) (b : benches.Ghosts B W) (s : sources.Ghosts T W) (j : Job) (before : T) (decision : Decision)
    → HasEnded w b s None j before before (Err (Stopped decision))
ends-unbegun w b s j before decision = record {
  answers = [];
  gives = gives-none w s before;
  ended = record {
    caused = inl refl;
    not_run = λ _. tt;
    run_once = λ x. absurd x;
    run_past = tt;
    at_most_once = tt;
    unmade = λ _. inr tt;
    made_none = λ x. absurd x;
    stopped = λ _. refl;
    lacks = tt;
  };
}

-- ---- an outcome that is let go

told-at-most : {B W : Type 0} (b : benches.Ghosts B W) (made : Option B) (run : BenchRun) → IfRunsTold b made (λ all. all ≡ run ∷ []) → IfRunsTold b made RanAtMostOnce
told-at-most b None run h = tt
told-at-most b (Some bench) run h = one-at-most (b.runs bench) run h

-- the outcome passes a limit
pub ends-past : {B T W : Type 0} (w : world.Ghosts W) (b : benches.Ghosts B W) (s : sources.Ghosts T W) (made : Option B) (j : Job) (before after : T) (outcome : Outcome) (over : Passed)
    → HasEnded w b s made j before after (Ok outcome) → IsProper j.command outcome → passed_of outcome ≡ Some over
    → HasEnded w b s made j before after (Err (OutputTooLarge over.limit over.n))
ends-past w b s made j before after outcome over h proper passes =
    let run = h.ended in
    record {
      answers = h.answers;
      gives = h.gives;
      ended = record {
        caused = record { outcome = outcome; of = run.of; proper = proper; passes = passes };
        not_run = λ x. absurd x;
        run_once = λ x. absurd x;
        run_past = record { outcome = outcome; run = run; passes = passes };
        at_most_once = told-at-most b made (run_of j run.of.staged outcome.exit) run.ran;
        unmade = λ e. absurd (true≢false (rw e at run.made_one));
        made_none = λ x. absurd x;
        stopped = λ x. absurd x;
        lacks = tt;
      };
    }

-- an attempt whose outcome is let go for want of memory ended as one that memory ran out in
pub forgets : {M B T W : Type 0} (w : world.Ghosts W) (m : makers.Ghosts M W B) (b : benches.Ghosts B W) (s : sources.Ghosts T W) (j : Job) (benches_before benches_after : M) (before after : T) (outcome : Outcome)
    → HasAttempted w m b s j benches_before benches_after before after (Ok outcome) → HasAttempted w m b s j benches_before benches_after before after (Err NoMemory)
forgets w m b s j benches_before benches_after before after outcome h =
    let run = h.on.ended in
    record {
      made = h.made;
      returned = h.returned;
      failed = h.failed;
      on = record {
        answers = h.on.answers;
        gives = h.on.gives;
        ended = record {
          caused = all-read j.files h.on.answers run.of.staged run.of.each;
          not_run = λ x. absurd x;
          run_once = λ x. absurd x;
          run_past = tt;
          at_most_once = told-at-most b h.made (run_of j run.of.staged outcome.exit) run.ran;
          unmade = λ e. absurd (true≢false (rw e at run.made_one));
          made_none = λ x. absurd x;
          stopped = λ x. absurd x;
          lacks = tt;
        };
      };
      later = h.later;
      counted = tt;
      untouched = λ x. absurd x;
    }
