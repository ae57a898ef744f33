-- What a farm's result says of a command's outputs and texts, and what is wrong with it
-- (remote_execution.proto, ActionResult).
use Rattle.std.specs.Prelude.{ℕ, ℤ, pos, negsuc, ◌+◌, ◌==◌, ◌||◌, Bool, false, List, [], ◌∷◌, Option, None, Some, Result, Ok, Err, if◌then◌else◌, filter, is_none, length, map, nat_lt, option_to_list, sum}
use Rattle.std.specs.List.{filter_map, flat_map, list_any}
use Rattle.std.specs.Str.{bytes_eq}
use Rattle.rx_base.specs.Paths.{join_of}
use Rattle.rx_base.specs.declared.digests.Digest.{Digest}
use Rattle.rx_base.specs.declared.path_fault.PathFault.{PathFault}
use Rattle.rx_messages.specs.declared.outputs.OutputDirectory.{OutputDirectory}
use Rattle.rx_messages.specs.declared.outputs.OutputFile.{OutputFile}
use Rattle.rx_messages.specs.declared.outputs.OutputSymlink.{OutputSymlink}
use Rattle.rx_messages.specs.declared.results.ActionResult.{ActionResult}
use Rattle.rx_world.specs.declared.commands.Command.{Command}
use Rattle.rx_world.specs.declared.remote_causes.ResultFault.{ResultFault}
use Rattle.rx_world.specs.declared.remote_causes.ResultFault.TheVariants.{NoDigest, OutputAbsent, PathTwice, TooLarge}
use Rattle.rx_results.specs.declared.slots.DigestMismatch.{DigestMismatch}
use Rattle.rx_results.specs.declared.slots.Slot.{Slot}
use Rattle.rx_results.specs.Slots.{file_size, mismatch_of, text_size, wanted}

-- ---- what a result has at an output

-- the outputs that count: all at code 0, else none
abbrev pub outputs_at : Command → ℤ → List (List ℕ)
outputs_at command (pos code) = if code == 0 then command.outputs else []
outputs_at command (negsuc code) = []

-- the outputs that count for a result, by its code
abbrev pub counted : Command → ActionResult → List (List ℕ)
counted command result = outputs_at command result.exit_code

-- whether a path is this output; a path that is refused is none
abbrev pub is_output : List ℕ → Result (List ℕ) PathFault → Bool
is_output output (Ok path) = bytes_eq path output
is_output output (Err fault) = false

-- whether a result's path, read on from the working directory, is this output
abbrev pub reads_as : Command → List ℕ → List ℕ → Bool
reads_as command output text = is_output output (join_of command.working_directory text)

-- which of these files, directories and links are at an output
abbrev pub files_among : Command → List ℕ → List OutputFile → List OutputFile
files_among command output files =
    filter (λ (file : OutputFile). reads_as command output file.path) files

abbrev pub directories_among : Command → List ℕ → List OutputDirectory → List OutputDirectory
directories_among command output directories =
    filter (λ (directory : OutputDirectory). reads_as command output directory.path) directories

abbrev pub links_among : Command → List ℕ → List OutputSymlink → List OutputSymlink
links_among command output links =
    filter (λ (link : OutputSymlink). reads_as command output link.path) links

-- how many files, directories and links are at an output
abbrev pub times_among :
    Command → List ℕ → List OutputFile → List OutputDirectory → List OutputSymlink → ℕ
times_among command output files directories links =
    length (files_among command output files)
    + (length (directories_among command output directories)
    + length (links_among command output links))

-- how often the result has something at an output
abbrev pub times_at : Command → ActionResult → List ℕ → ℕ
times_at command result output =
    times_among command output result.output_files result.output_directories result.output_symlinks

abbrev pub first_of : {A : Type 0} → List A → Option A
first_of [] = None
first_of (x ∷ xs) = Some x

-- the file that the result has at an output, the first of them
abbrev pub file_for : Command → ActionResult → List ℕ → Option OutputFile
file_for command result output = first_of (files_among command output result.output_files)

-- ---- where bytes come from

-- standard output
abbrev pub stdout_slot : ActionResult → Slot
stdout_slot result = record { inline = result.stdout_raw; digest = result.stdout_digest }

-- standard error
abbrev pub stderr_slot : ActionResult → Slot
stderr_slot result = record { inline = result.stderr_raw; digest = result.stderr_digest }

-- a file; without one there are no bytes
abbrev pub slot_of : Option OutputFile → Slot
slot_of None = record { inline = []; digest = None }
slot_of (Some file) = record { inline = file.contents; digest = file.digest }

-- the files at the outputs that count
abbrev pub file_slots : Command → ActionResult → List Slot
file_slots command result =
    map (λ output. slot_of (file_for command result output)) (counted command result)

-- standard output, standard error, and the outputs that count
abbrev pub slots_of : Command → ActionResult → List Slot
slots_of command result = stdout_slot result ∷ stderr_slot result ∷ file_slots command result

-- the digests that have to be fetched for these
abbrev pub wanted_for : List Slot → List Digest
wanted_for slots = flat_map (λ slot. option_to_list (wanted slot)) slots

-- The digests that have to be fetched, in this order. One that stands there twice is asked for
-- twice.
abbrev pub wanted_of : Command → ActionResult → List Digest
wanted_of command result = wanted_for (slots_of command result)

-- of the first output whose contents in the result haven't its digest: both digests
abbrev pub spoiled_of : Command → ActionResult → Option DigestMismatch
spoiled_of command result = first_of (filter_map mismatch_of (file_slots command result))

-- ---- limits

-- the most bytes of the file at an output
abbrev pub most_file_bytes : ℕ
most_file_bytes = 67108864

-- the most bytes of the files at all outputs together
abbrev pub most_files_bytes : ℕ
most_files_bytes = 268435456

-- the most bytes of standard output, and of standard error
abbrev pub most_text_bytes : ℕ
most_text_bytes = 16777216

-- whether a file is too large, or all files together are
abbrev pub are_files_too_large : List Slot → Bool
are_files_too_large files =
    list_any (λ file. nat_lt most_file_bytes (file_size file)) files
    || nat_lt most_files_bytes (sum (map file_size files))

-- whether a text is too large
abbrev pub is_text_too_large : Slot → Bool
is_text_too_large text = nat_lt most_text_bytes (text_size text)

-- whether something of a result is too large
abbrev pub is_too_large : Command → ActionResult → Bool
is_too_large command result =
    are_files_too_large (file_slots command result)
    || (is_text_too_large (stdout_slot result) || is_text_too_large (stderr_slot result))

-- ---- what is wrong with a result

-- whether a file is there without a digest
abbrev pub is_unnamed : Option OutputFile → Bool
is_unnamed None = false
is_unnamed (Some file) = is_none file.digest

-- whether an output that counts passes a test
abbrev pub any_output : Command → ActionResult → (List ℕ → Bool) → Bool
any_output command result test = list_any test (counted command result)

-- The first of these. At another code than 0 the outputs don't count, only the texts do.
unfoldable pub fault_of : Command → ActionResult → Option ResultFault
fault_of command result =
    if any_output command result (λ output. nat_lt 1 (times_at command result output))
    then Some PathTwice
    else if any_output command result (λ output. is_none (file_for command result output))
    then Some OutputAbsent
    else if any_output command result (λ output. is_unnamed (file_for command result output))
    then Some NoDigest
    else if is_too_large command result then Some TooLarge
    else None
