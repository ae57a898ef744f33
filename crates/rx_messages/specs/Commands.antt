-- What is run (remote_execution.proto, Command, Platform).
use Rattle.std.specs.Prelude.{ℕ, ◌==◌, List, ◌++◌, Result, Ok, if◌then◌else◌}
use Rattle.rx_base.specs.Results.{◌>>=◌}
use Rattle.rx_wire.specs.Values.{Field}
use Rattle.rx_codec.specs.Contents.{each_in, each_put, one_in, one_put, text_in, text_put, texts_in, texts_put}
use Rattle.rx_codec.specs.FieldBytes.{contents, numbered}
use Rattle.rx_codec.specs.Parts.{Part, anything, message, text}
use Rattle.rx_codec.specs.declared.faults.MessageFault.{MessageFault}
use Rattle.rx_messages.specs.declared.commands.EnvironmentVariable.{EnvironmentVariable}
use Rattle.rx_messages.specs.declared.commands.Property.{Property}
use Rattle.rx_messages.specs.declared.commands.Platform.{Platform}
use Rattle.rx_messages.specs.declared.commands.Command.{Command}

-- ---- EnvironmentVariable: name 1, value 2

abbrev pub environment_variable_parts : ℕ → Part
environment_variable_parts number = if number == 1 then text else if number == 2 then text else anything

unfoldable pub environment_variable_fields : EnvironmentVariable → List Field
environment_variable_fields x = numbered 1 (text_put x.name) ++ numbered 2 (text_put x.value)

unfoldable pub environment_variable_from : List Field → Result EnvironmentVariable MessageFault
environment_variable_from fields = Ok (record { name = text_in (contents 1 fields); value = text_in (contents 2 fields) })

abbrev pub environment_variable_is_readable : EnvironmentVariable → Type 0
environment_variable_is_readable x = Unit {0}

-- ---- Property: name 1, value 2

abbrev pub property_parts : ℕ → Part
property_parts number = if number == 1 then text else if number == 2 then text else anything

unfoldable pub property_fields : Property → List Field
property_fields x = numbered 1 (text_put x.name) ++ numbered 2 (text_put x.value)

unfoldable pub property_from : List Field → Result Property MessageFault
property_from fields = Ok (record { name = text_in (contents 1 fields); value = text_in (contents 2 fields) })

abbrev pub property_is_readable : Property → Type 0
property_is_readable x = Unit {0}

-- ---- Platform: properties 1

abbrev pub platform_parts : ℕ → Part
platform_parts number = if number == 1 then message property_parts else anything

unfoldable pub platform_fields : Platform → List Field
platform_fields x = numbered 1 (each_put property_fields x.properties)

unfoldable pub platform_from : List Field → Result Platform MessageFault
platform_from fields = do
  properties ← each_in property_from (contents 1 fields)
  Ok (record { properties = properties })

abbrev pub platform_is_readable : Platform → Type 0
platform_is_readable x = Unit {0}

-- ---- Command: arguments 1, environment_variables 2, output_files 3, output_directories 4, platform 5, working_directory 6, output_paths 7

abbrev pub command_parts : ℕ → Part
command_parts number =
    if number == 1 then text
    else if number == 2 then message environment_variable_parts
    else if number == 3 then text
    else if number == 4 then text
    else if number == 5 then message platform_parts
    else if number == 6 then text
    else if number == 7 then text
    else anything

unfoldable pub command_fields : Command → List Field
command_fields x =
    numbered 1 (texts_put x.arguments)
    ++ numbered 2 (each_put environment_variable_fields x.environment_variables)
    ++ numbered 3 (texts_put x.output_files)
    ++ numbered 4 (texts_put x.output_directories)
    ++ numbered 5 (one_put platform_fields x.platform)
    ++ numbered 6 (text_put x.working_directory)
    ++ numbered 7 (texts_put x.output_paths)

unfoldable pub command_from : List Field → Result Command MessageFault
command_from fields = do
  environment_variables ← each_in environment_variable_from (contents 2 fields)
  platform ← one_in platform_from (contents 5 fields)
  Ok (record { arguments = texts_in (contents 1 fields); environment_variables = environment_variables; output_files = texts_in (contents 3 fields); output_directories = texts_in (contents 4 fields); platform = platform; working_directory = text_in (contents 6 fields); output_paths = texts_in (contents 7 fields) })

abbrev pub command_is_readable : Command → Type 0
command_is_readable x = Unit {0}
