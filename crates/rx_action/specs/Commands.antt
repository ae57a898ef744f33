-- The Command message of a command (remote_execution.proto, Command, Platform).
use Rattle.std.specs.Prelude.{ℕ, List, [], ◌∷◌, map, Option, Some, None, Result}
use Rattle.rx_messages.specs.Commands.{command_fields, command_from, command_parts}
use Rattle.rx_codec.specs.Decoding.{any_form, decoded}
use Rattle.rx_codec.specs.FieldBytes.{fields_bytes}
use Rattle.rx_messages.specs.declared.commands.EnvironmentVariable.{EnvironmentVariable}
use Rattle.rx_messages.specs.declared.commands.Platform.{Platform}
use Rattle.rx_messages.specs.declared.commands.Property.{Property}
use Rattle.rx_messages.specs.declared.commands.Command.{Command as Message}
use Rattle.rx_codec.specs.declared.faults.MessageFault.{MessageFault}
use Rattle.rx_world.specs.declared.commands.Command.{Command}
use Rattle.rx_world.specs.declared.commands.Pair.{Pair}
use Rattle.rx_world.specs.declared.versions.Dialect.{Dialect}
use Rattle.rx_world.specs.declared.versions.Dialect.TheVariants.{New, Old}
use Rattle.rx_action.specs.OutputPaths.{output_paths}
use Rattle.rx_action.specs.Pairs.{sorted_pairs}

abbrev pub variable_of : Pair → EnvironmentVariable
variable_of pair = record { name = pair.name; value = pair.value }

abbrev pub property_of : Pair → Property
property_of pair = record { name = pair.name; value = pair.value }

-- a platform, where there is a property
abbrev pub platform_of : List Pair → Option Platform
platform_of [] = None
platform_of (pair ∷ pairs) = Some (record { properties = map property_of (sorted_pairs (pair ∷ pairs)) })

-- the Command that some bytes are
abbrev pub read_command : List ℕ → Result Message MessageFault
read_command bytes = decoded command_parts command_from any_form bytes

-- the outputs that a farm of this dialect reads in output_paths
abbrev pub in_output_paths : Dialect → List (List ℕ) → List (List ℕ)
in_output_paths New paths = paths
in_output_paths Old paths = []

-- those that it reads in output_files
abbrev pub in_output_files : Dialect → List (List ℕ) → List (List ℕ)
in_output_files New paths = []
in_output_files Old paths = paths

-- The outputs are told in one field alone, that of the dialect.
abbrev pub command_message : Command → Dialect → Message
command_message command dialect = record {
  arguments = command.words;
  environment_variables = map variable_of (sorted_pairs command.environment);
  output_files = in_output_files dialect (output_paths command.working_directory command.outputs);
  output_directories = [];
  platform = platform_of command.platform;
  working_directory = command.working_directory;
  output_paths = in_output_paths dialect (output_paths command.working_directory command.outputs);
}

abbrev pub command_bytes : Command → Dialect → List ℕ
command_bytes command dialect = fields_bytes (command_fields (command_message command dialect))
