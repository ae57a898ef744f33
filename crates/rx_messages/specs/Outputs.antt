-- What a command left (remote_execution.proto, OutputFile, OutputDirectory, OutputSymlink).
use Rattle.std.specs.Prelude.{ℕ, ◌==◌, List, ◌++◌, Result, Ok, IfSome, if◌then◌else◌}
use Rattle.rx_base.specs.Results.{◌>>=◌}
use Rattle.rx_wire.specs.Values.{Field}
use Rattle.rx_codec.specs.Contents.{one_in, one_put, text_in, text_put, truth_in, truth_put}
use Rattle.rx_codec.specs.FieldBytes.{contents, numbered}
use Rattle.rx_codec.specs.Parts.{Part, anything, message, text}
use Rattle.rx_codec.specs.declared.faults.MessageFault.{MessageFault}
use Rattle.rx_codec.specs.Digests.{digest_fields, digest_from, digest_is_readable, digest_parts}
use Rattle.rx_messages.specs.declared.outputs.OutputFile.{OutputFile}
use Rattle.rx_messages.specs.declared.outputs.OutputDirectory.{OutputDirectory}
use Rattle.rx_messages.specs.declared.outputs.OutputSymlink.{OutputSymlink}

-- ---- OutputFile: path 1, digest 2, is_executable 4, contents 5

abbrev pub output_file_parts : ℕ → Part
output_file_parts number = if number == 1 then text else if number == 2 then message digest_parts else anything

unfoldable pub output_file_fields : OutputFile → List Field
output_file_fields x =
    numbered 1 (text_put x.path)
    ++ numbered 2 (one_put digest_fields x.digest)
    ++ numbered 4 (truth_put x.is_executable)
    ++ numbered 5 (text_put x.contents)

unfoldable pub output_file_from : List Field → Result OutputFile MessageFault
output_file_from fields = do
  digest ← one_in digest_from (contents 2 fields)
  Ok (record { path = text_in (contents 1 fields); digest = digest; is_executable = truth_in (contents 4 fields); contents = text_in (contents 5 fields) })

-- each size is below 2^63
abbrev pub output_file_is_readable : OutputFile → Type 0
output_file_is_readable x = IfSome x.digest digest_is_readable

-- ---- OutputDirectory: path 1, tree_digest 3

abbrev pub output_directory_parts : ℕ → Part
output_directory_parts number = if number == 1 then text else if number == 3 then message digest_parts else anything

unfoldable pub output_directory_fields : OutputDirectory → List Field
output_directory_fields x = numbered 1 (text_put x.path) ++ numbered 3 (one_put digest_fields x.tree_digest)

unfoldable pub output_directory_from : List Field → Result OutputDirectory MessageFault
output_directory_from fields = do
  tree_digest ← one_in digest_from (contents 3 fields)
  Ok (record { path = text_in (contents 1 fields); tree_digest = tree_digest })

-- each size is below 2^63
abbrev pub output_directory_is_readable : OutputDirectory → Type 0
output_directory_is_readable x = IfSome x.tree_digest digest_is_readable

-- ---- OutputSymlink: path 1, target 2

abbrev pub output_symlink_parts : ℕ → Part
output_symlink_parts number = if number == 1 then text else if number == 2 then text else anything

unfoldable pub output_symlink_fields : OutputSymlink → List Field
output_symlink_fields x = numbered 1 (text_put x.path) ++ numbered 2 (text_put x.target)

unfoldable pub output_symlink_from : List Field → Result OutputSymlink MessageFault
output_symlink_from fields = Ok (record { path = text_in (contents 1 fields); target = text_in (contents 2 fields) })

abbrev pub output_symlink_is_readable : OutputSymlink → Type 0
output_symlink_is_readable x = Unit {0}
