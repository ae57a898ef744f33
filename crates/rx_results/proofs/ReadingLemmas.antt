-- What a reading has of its result: the slots, and the digests that have to be fetched.
use Rattle.std.proofs.Common.{◌≡◌, ◌∙◌, ℕ, List, [], ◌∷◌, Option, None, Some, ap, map, refl}
use Rattle.std.specs.List.{filter_map}
use Rattle.rx_messages.specs.declared.outputs.OutputFile.{OutputFile}
use Rattle.rx_messages.specs.declared.results.ActionResult.{ActionResult}
use Rattle.rx_world.specs.declared.commands.Command.{Command}
use Rattle.rx_results.specs.declared.readings.Reading.{Reading}
use Rattle.rx_results.specs.ResultOutputs.{output_at, result_file_if, slot_at, slot_in}
use Rattle.rx_results.specs.Readings.{reading_of, slots_in, IsReading}
use Rattle.rx_results.specs.Results.{counted, file_for, file_slots, first_of, slot_of, slots_of, spoiled_of, wanted_for, wanted_of}
use Rattle.rx_results.specs.Slots.{mismatch_of}

-- a file and its slot
slot_shown : (file : Option OutputFile) → slot_in (result_file_if file) ≡ slot_of file
slot_shown None = refl
slot_shown (Some file) = refl

pub slots_shown : (command : Command) (result : ActionResult) (outputs : List (List ℕ)) →
    map slot_at (map (output_at command result) outputs) ≡ map
    (λ output. slot_of (file_for command result output)) outputs
slots_shown command result [] = refl
slots_shown command result (output ∷ outputs) = rw (
  slot_shown (file_for command result output),
  slots_shown command result outputs,
) refl

module _ (command : Command) (result : ActionResult) (reading : Reading)
    (h : IsReading command result reading) where
  pub outputs-are : reading.outputs ≡ map (output_at command result) (counted command result)
  unfolding reading_of
  outputs-are = ap (λ (r : Reading). r.outputs) h.is

  pub files-are : map slot_at reading.outputs ≡ file_slots command result
  files-are = ap (map slot_at) outputs-are ∙ slots_shown command result (counted command result)

  pub slots-are : slots_in reading ≡ slots_of command result
  unfolding reading_of
  slots-are = ap slots_in h.is ∙ rw (slots_shown command result (counted command result)) refl

  pub wanted-is : wanted_for (slots_in reading) ≡ wanted_of command result
  wanted-is = ap wanted_for slots-are

  pub spoiled-is : first_of (filter_map mismatch_of (map slot_at reading.outputs)) ≡ spoiled_of
      command result
  spoiled-is = ap (λ slots. first_of (filter_map mismatch_of slots)) files-are
