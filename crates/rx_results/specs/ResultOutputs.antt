-- What a result has at each output of its command, and what a path of it adds there.
use Rattle.std.specs.Prelude.{◌≡◌, ℕ, ◌+◌, ◌==◌, Bool, true, false, List, [], ◌∷◌, Option, None, Some, if◌then◌else◌, is_none, length, map}
use Rattle.rx_messages.specs.declared.outputs.OutputDirectory.{OutputDirectory}
use Rattle.rx_messages.specs.declared.outputs.OutputFile.{OutputFile}
use Rattle.rx_messages.specs.declared.outputs.OutputSymlink.{OutputSymlink}
use Rattle.rx_messages.specs.declared.results.ActionResult.{ActionResult}
use Rattle.rx_world.specs.declared.commands.Command.{Command}
use Rattle.rx_world.specs.declared.outcomes.FileOut.{FileOut}
use Rattle.rx_results.specs.declared.result_outputs.ResultOutput.{ResultOutput}
use Rattle.rx_results.specs.declared.result_outputs.ResultFile.{ResultFile}
use Rattle.rx_results.specs.declared.result_outputs.Times.{Times}
use Rattle.rx_results.specs.declared.result_outputs.Times.TheVariants.{Again, Never, Once}
use Rattle.rx_results.specs.declared.slots.Slot.{Slot}
use Rattle.rx_results.specs.Results.{directories_among, files_among, first_of, links_among, reads_as, times_among}

-- ---- what a result has at an output

-- a number of times, as far as it is told
abbrev pub times_of : ℕ → Times
times_of count = if count == 0 then Never else if count == 1 then Once else Again

-- a file without its path
abbrev pub result_file : OutputFile → ResultFile
result_file file = record {
  source = record { inline = file.contents; digest = file.digest };
  executable = file.is_executable;
}

abbrev pub result_file_if : Option OutputFile → Option ResultFile
result_file_if None = None
result_file_if (Some file) = Some (result_file file)

-- an output with what these files, directories and links have there
abbrev pub output_among :
    Command → List OutputFile → List OutputDirectory → List OutputSymlink → List ℕ → ResultOutput
output_among command files directories links output = record {
  path = output;
  times = times_of (times_among command output files directories links);
  file = result_file_if (first_of (files_among command output files));
}

-- an output with what the result has there
abbrev pub output_at : Command → ActionResult → List ℕ → ResultOutput
output_at command result output =
    output_among command result.output_files result.output_directories result.output_symlinks
    output

-- ---- questions about an output

-- whether it is more than once
abbrev pub is_again : Times → Bool
is_again Never = false
is_again Once = false
is_again Again = true

-- whether the result has more than one thing here
abbrev pub is_repeated : ResultOutput → Bool
is_repeated output = is_again output.times

-- whether the result has no file here
abbrev pub is_absent : ResultOutput → Bool
is_absent output = is_none output.file

abbrev pub slot_in : Option ResultFile → Slot
slot_in None = record { inline = []; digest = None }
slot_in (Some file) = file.source

-- where the bytes of the file here come from; without a file there are none
abbrev pub slot_at : ResultOutput → Slot
slot_at output = slot_in output.file

abbrev pub is_nameless : Option ResultFile → Bool
is_nameless None = false
is_nameless (Some file) = is_none file.source.digest

-- whether the result has a file here and names no digest of it
abbrev pub has_no_digest : ResultOutput → Bool
has_no_digest output = is_nameless output.file

-- ---- the files that come of outputs

abbrev pub is_marked : Option ResultFile → Bool
is_marked None = false
is_marked (Some file) = file.executable

-- the file that comes of an output with these bytes
abbrev pub file_with : ResultOutput → List ℕ → FileOut
file_with output body = record {
  path = output.path;
  bytes = body;
  executable = is_marked output.file;
}

-- the files that come of outputs with the bytes of each
abbrev pub files_in : List ResultOutput → List (List ℕ) → List FileOut
files_in [] bodies = []
files_in (output ∷ outputs) [] = []
files_in (output ∷ outputs) (body ∷ bodies) = file_with output body ∷ files_in outputs bodies

-- ---- one thing after the other

-- a number of times, and so many more
abbrev pub times_after : Times → ℕ → Times
times_after Never count = times_of count
times_after Once count = times_of (count + 1)
times_after Again count = Again

-- the first file, where there is one, or else the other
abbrev pub first_file : Option ResultFile → Option ResultFile → Option ResultFile
first_file None file = file
first_file (Some file) other = Some file

-- an output with one more thing there; of files the first stays
abbrev pub with_one_more : Option ResultFile → ResultOutput → ResultOutput
with_one_more file output = record {
  path = output.path;
  times = times_after output.times 1;
  file = first_file output.file file;
}

-- an output with what of these files is there too
abbrev pub with_files : Command → List OutputFile → ResultOutput → ResultOutput
with_files command files output = record {
  path = output.path;
  times = times_after output.times (length (files_among command output.path files));
  file = first_file output.file (result_file_if (first_of (files_among command output.path files)));
}

-- an output with so many more things there, none of which is a file
abbrev pub with_others : ℕ → ResultOutput → ResultOutput
with_others count output = record {
  path = output.path;
  times = times_after output.times count;
  file = output.file;
}

-- an output with what of these directories is there too
abbrev pub with_directories : Command → List OutputDirectory → ResultOutput → ResultOutput
with_directories command directories output =
    with_others (length (directories_among command output.path directories)) output

-- an output with what of these links is there too
abbrev pub with_links : Command → List OutputSymlink → ResultOutput → ResultOutput
with_links command links output =
    with_others (length (links_among command output.path links)) output

-- an output with what a path of the result has there
abbrev pub with_path : Command → List ℕ → Option ResultFile → ResultOutput → ResultOutput
with_path command text file output =
    if reads_as command output.path text then with_one_more file output else output

-- an output with nothing there
abbrev pub nothing_at : List ℕ → ResultOutput
nothing_at output = record { path = output; times = Never; file = None }

-- the outputs are those of the command, in order
pub record AreOutputsOf (command : Command) (outputs : List ResultOutput) : Type 0 where
  pub paths : map (λ (output : ResultOutput). output.path) outputs ≡ command.outputs
