-- The outcome that a farm's result gives, with the texts that were fetched for it.
use Rattle.std.specs.Prelude.{◌≤◌, ℕ, Bool, false, List, [], ◌∷◌, Option, None, Some, All, length, map, sum}
use Rattle.rx_base.specs.declared.digests.Digest.{Digest}
use Rattle.rx_messages.specs.declared.outputs.OutputFile.{OutputFile}
use Rattle.rx_messages.specs.declared.results.ActionResult.{ActionResult}
use Rattle.rx_world.specs.declared.commands.Command.{Command}
use Rattle.rx_world.specs.declared.outcomes.FileOut.{FileOut}
use Rattle.rx_world.specs.declared.outcomes.Outcome.{Outcome}
use Rattle.rx_results.specs.declared.slots.Slot.{Slot}
use Rattle.rx_results.specs.Results.{counted, file_for, most_file_bytes, most_files_bytes, most_text_bytes, slots_of}
use Rattle.rx_results.specs.Slots.{wanted}

-- ---- the bytes of slots

-- the bytes of a slot: those in the result, or else the next fetched text
abbrev pub body_of : Option Digest → List ℕ → List (List ℕ) → List ℕ
body_of None inline texts = inline
body_of (Some digest) inline [] = []
body_of (Some digest) inline (text ∷ texts) = text

-- the texts that are left for the slots behind
abbrev pub texts_after : Option Digest → List (List ℕ) → List (List ℕ)
texts_after None texts = texts
texts_after (Some digest) [] = []
texts_after (Some digest) (text ∷ texts) = texts

-- the bytes of each slot
abbrev pub filled : List Slot → List (List ℕ) → List (List ℕ)
filled [] texts = []
filled (slot ∷ slots) texts =
    body_of (wanted slot) slot.inline texts ∷ filled slots (texts_after (wanted slot) texts)

-- ---- the outcome

-- whether a file is there that may be executed
abbrev pub is_executable : Option OutputFile → Bool
is_executable None = false
is_executable (Some file) = file.is_executable

-- a file at each of these outputs, with these bytes
abbrev pub files_with : Command → ActionResult → List (List ℕ) → List (List ℕ) → List FileOut
files_with command result [] bodies = []
files_with command result (output ∷ outputs) [] = []
files_with command result (output ∷ outputs) (body ∷ bodies) =
    record {
      path = output;
      bytes = body;
      executable = is_executable (file_for command result output);
    } ∷ files_with command result outputs bodies

-- the outcome with these bytes of the slots
abbrev pub outcome_with : Command → ActionResult → List (List ℕ) → Outcome
outcome_with command result (stdout ∷ stderr ∷ bodies) = record {
  exit = record { code = result.exit_code; stdout = stdout; stderr = stderr };
  files = files_with command result (counted command result) bodies;
}
outcome_with command result bodies = record {
  exit = record { code = result.exit_code; stdout = []; stderr = [] };
  files = [];
}

-- the outcome that a result and the fetched texts give
abbrev pub outcome_of : Command → ActionResult → List (List ℕ) → Outcome
outcome_of command result texts =
    outcome_with command result (filled (slots_of command result) texts)

-- no file, not all files together, and no text has more bytes than it may have
pub record IsWithinLimits (outcome : Outcome) : Type 0 where
  pub each_file : All (λ (file : FileOut). length file.bytes ≤ most_file_bytes) outcome.files
  pub all_files :
      sum (map (λ (file : FileOut). length file.bytes) outcome.files) ≤ most_files_bytes
  pub stdout : length outcome.exit.stdout ≤ most_text_bytes
  pub stderr : length outcome.exit.stderr ≤ most_text_bytes
