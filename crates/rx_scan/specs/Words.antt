-- What the words of a command say: where its includes are sought, its system roots, more outputs, what keeps it on this machine.
use Rattle.std.specs.Prelude.{ℕ, ◌++◌, List, [], Option, None, Some}
use Rattle.rx_base.specs.SortedPaths.{sorted_paths}
use Rattle.rx_cppflags.specs.declared.readings.Reading.{Reading}
use Rattle.rx_cppflags.specs.declared.readings.Reading.TheVariants as reading
use Rattle.rx_cppflags.specs.Readings.{reading_of}
use Rattle.rx_world.specs.declared.commands.Command.{Command}
use Rattle.rx_world.specs.declared.commands.Kind.{Kind}
use Rattle.rx_world.specs.declared.commands.Kind.TheVariants.{Compile, Tool}
use Rattle.rx_reach.specs.declared.searches.Search.{Search}
use Rattle.rx_scan.specs.declared.words.WordMeaning.{WordMeaning}

-- how the words are read; those of a tool aren't
abbrev pub reading_for : Kind → Command → List (List ℕ) → Option Reading
reading_for Tool command inputs = None
reading_for Compile command inputs = Some (reading_of command inputs)

-- where the includes are sought, of a command whose includes can be followed
abbrev pub search_in : Command → Reading → Option Search
search_in command (reading.Compile source quote_dirs dirs forced walked sysroots outputs is_c) = Some (record {
  working_directory = command.working_directory;
  source = source;
  quote_dirs = quote_dirs;
  dirs = dirs;
  forced = forced;
  walked = walked;
  is_c = is_c;
})
search_in command (reading.LocalOnly word outputs) = None

abbrev pub search_for : Command → Option Reading → Option Search
search_for command None = None
search_for command (Some read) = search_in command read

-- the system roots, whose files are declared inputs too
abbrev pub roots_in : Reading → List (List ℕ)
roots_in (reading.Compile source quote_dirs dirs forced walked sysroots outputs is_c) = sysroots
roots_in (reading.LocalOnly word outputs) = []

abbrev pub roots_for : Option Reading → List (List ℕ)
roots_for None = []
roots_for (Some read) = roots_in read

-- the outputs that the words name
abbrev pub outputs_in : Reading → List (List ℕ)
outputs_in (reading.Compile source quote_dirs dirs forced walked sysroots outputs is_c) = outputs
outputs_in (reading.LocalOnly word outputs) = outputs

abbrev pub outputs_for : Option Reading → List (List ℕ)
outputs_for None = []
outputs_for (Some read) = outputs_in read

-- the word that keeps the command on this machine
abbrev pub word_in : Reading → Option (List ℕ)
word_in (reading.Compile source quote_dirs dirs forced walked sysroots outputs is_c) = None
word_in (reading.LocalOnly word outputs) = Some word

abbrev pub word_for : Option Reading → Option (List ℕ)
word_for None = None
word_for (Some read) = word_in read

-- all that the words say
abbrev pub meaning_of : Command → Option Reading → WordMeaning
meaning_of command read = record { search = search_for command read; roots = roots_for read; outputs = outputs_for read; word = word_for read }

-- the command with these outputs besides its own, in order
abbrev pub with_outputs : Command → List (List ℕ) → Command
with_outputs command outputs = record {
  words = command.words;
  environment = command.environment;
  working_directory = command.working_directory;
  outputs = sorted_paths (command.outputs ++ outputs);
  platform = command.platform;
  timeout_seconds = command.timeout_seconds;
}
