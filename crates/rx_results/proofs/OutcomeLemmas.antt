-- The outcome that comes of a reading is that of its result, and it is proper.
use Rattle.std.proofs.Common.{◌≡◌, ◌≢◌, ◌∙◌, ℕ, zero, suc, List, [], ◌∷◌, Option, None, Some, ℤ, pos, ap, arith, length, map, refl}
use Rattle.std.specs.Prelude.{negsuc}
use Rattle.std.proofs.lemmas.Bool.{ne_eqb}
use Rattle.std.proofs.lemmas.List.{length-map}
use Rattle.rx_messages.specs.declared.outputs.OutputFile.{OutputFile}
use Rattle.rx_messages.specs.declared.results.ActionResult.{ActionResult}
use Rattle.rx_world.specs.declared.commands.Command.{Command}
use Rattle.rx_world.specs.declared.outcomes.FileOut.{FileOut}
use Rattle.rx_world.specs.declared.outcomes.Outcome.{Outcome}
use Rattle.rx_world.specs.Outcomes.{IsProper}
use Rattle.rx_results.specs.declared.readings.Reading.{Reading}
use Rattle.rx_results.specs.declared.slots.Slot.{Slot}
use Rattle.rx_results.specs.Outcomes.{body_of, filled, files_with, is_executable, outcome_of, texts_after}
use Rattle.rx_results.specs.ResultOutputs.{files_in, is_marked, output_at, result_file_if, slot_at}
use Rattle.rx_results.specs.Readings.{reading_of, IsReading}
use Rattle.rx_results.specs.Results.{counted, file_for, file_slots, outputs_at, slot_of}
use Rattle.rx_results.specs.Slots.{wanted}
use Rattle.rx_results.proofs.ReadingLemmas.{slots_shown}

-- ---- a reading's outcome

abbrev pub outcome_in : Reading → List (List ℕ) → Outcome
outcome_in reading texts =
    let after_stdout : List (List ℕ) = texts_after (wanted reading.stdout) texts in
    let after_stderr : List (List ℕ) = texts_after (wanted reading.stderr) after_stdout in
    record {
      exit = record {
        code = reading.code;
        stdout = body_of (wanted reading.stdout) reading.stdout.inline texts;
        stderr = body_of (wanted reading.stderr) reading.stderr.inline after_stdout;
      };
      files = files_in reading.outputs (filled (map slot_at reading.outputs) after_stderr);
    }

mark_is : (file : Option OutputFile) → is_marked (result_file_if file) ≡ is_executable file
mark_is None = refl
mark_is (Some file) = refl

-- at another code no output counts
pub none_counted : (command : Command) (code : ℤ) → code ≢ pos 0 → outputs_at command code ≡ []
none_counted command (pos zero) differs = absurd (differs refl)
none_counted command (pos (suc n)) differs = rw (ne_eqb (suc n) 0 (λ e. omega arith)) refl
none_counted command (negsuc n) differs = refl

pub filled-length : (slots : List Slot) (texts : List (List ℕ)) →
    length (filled slots texts) ≡ length slots
filled-length [] texts = refl
filled-length (slot ∷ slots) texts = let rest = filled-length slots
    (texts_after (wanted slot) texts) in omega arith

module _ (command : Command) (result : ActionResult) where
  files_shown : (outputs bodies : List (List ℕ)) →
      files_in (map (output_at command result) outputs) bodies ≡ files_with command result outputs
      bodies
  files_shown [] bodies = refl
  files_shown (output ∷ outputs) [] = refl
  files_shown (output ∷ outputs) (body ∷ bodies) =
      rw (mark_is (file_for command result output), files_shown outputs bodies) refl

  read_outcome : (texts : List (List ℕ)) →
      outcome_in (reading_of command result) texts ≡ outcome_of command result texts
  unfolding reading_of
  read_outcome texts =
      rw (
        slots_shown command result (counted command result),
        files_shown (counted command result),
      ) refl

  pub outcome-is : (reading : Reading) (texts : List (List ℕ)) →
      IsReading command result reading →
      outcome_in reading texts ≡ outcome_of command result texts
  outcome-is reading texts h = ap (λ (r : Reading). outcome_in r texts) h.is ∙ read_outcome texts

  -- ---- its files are those of the outputs that count

  paths_are : (outputs bodies : List (List ℕ)) → length bodies ≡ length outputs →
      map (λ (file : FileOut). file.path) (files_with command result outputs bodies) ≡ outputs
  paths_are [] bodies long = refl
  paths_are (output ∷ outputs) [] long = absurd (omega arith)
  paths_are (output ∷ outputs) (body ∷ bodies) long =
      ap (λ (rest : List (List ℕ)). output ∷ rest) (paths_are outputs bodies (omega arith))

  pub outcome-proper : (texts : List (List ℕ)) →
      IsProper command (outcome_of command result texts)
  outcome-proper texts =
      let left : List (List ℕ) = texts_after (wanted (record
      { inline = result.stderr_raw; digest = result.stderr_digest }))
      (texts_after (wanted (record { inline = result.stdout_raw; digest = result.stdout_digest }))
      texts) in
      let bodies : List (List ℕ) = filled (file_slots command result) left in
      let long : length bodies ≡ length (counted command result) =
      filled-length (file_slots command result) left
      ∙ length-map (counted command result) (λ output. slot_of (file_for command result output)) in
      let paths = paths_are (counted command result) bodies long in
      record {
        whole = λ zero. paths ∙ ap (outputs_at command) zero;
        none = λ differs. ap (λ (outputs : List (List ℕ)). files_with command result outputs
            bodies) (none_counted command result.exit_code differs);
      }
