-- How a command ended (remote_execution.proto, ActionResult).
use Rattle.std.specs.Prelude.{ℕ, ◌==◌, List, ◌++◌, Result, Ok, IfSome, if◌then◌else◌}
use Rattle.std.specs.List.{AllByRecursion}
use Rattle.rx_base.specs.Results.{◌>>=◌}
use Rattle.rx_wire.specs.Values.{Field}
use Rattle.rx_codec.specs.Contents.{each_in, each_put, int32_in, int32_put, joined_in, one_in, one_put, text_in, text_put}
use Rattle.rx_codec.specs.FieldBytes.{contents, numbered}
use Rattle.rx_codec.specs.Parts.{Part, anything, message}
use Rattle.rx_codec.specs.declared.faults.MessageFault.{MessageFault}
use Rattle.rx_codec.specs.Digests.{digest_fields, digest_from, digest_is_readable, digest_parts}
use Rattle.rx_messages.specs.Outputs.{output_directory_fields, output_directory_from, output_directory_is_readable, output_directory_parts, output_file_fields, output_file_from, output_file_is_readable, output_file_parts, output_symlink_fields, output_symlink_from, output_symlink_parts}
use Rattle.rx_messages.specs.declared.results.ActionResult.{ActionResult}

-- ---- ActionResult: output_files 2, output_directories 3, exit_code 4, stdout_raw 5, stdout_digest 6, stderr_raw 7, stderr_digest 8, execution_metadata 9, output_symlinks 12

abbrev pub action_result_parts : ℕ → Part
action_result_parts number =
    if number == 2 then message output_file_parts
    else if number == 3 then message output_directory_parts
    else if number == 6 then message digest_parts
    else if number == 8 then message digest_parts
    else if number == 12 then message output_symlink_parts
    else anything

unfoldable pub action_result_fields : ActionResult → List Field
action_result_fields x =
    numbered 2 (each_put output_file_fields x.output_files)
    ++ numbered 3 (each_put output_directory_fields x.output_directories)
    ++ numbered 4 (int32_put x.exit_code)
    ++ numbered 5 (text_put x.stdout_raw)
    ++ numbered 6 (one_put digest_fields x.stdout_digest)
    ++ numbered 7 (text_put x.stderr_raw)
    ++ numbered 8 (one_put digest_fields x.stderr_digest)
    ++ numbered 9 (text_put x.execution_metadata)
    ++ numbered 12 (each_put output_symlink_fields x.output_symlinks)

unfoldable pub action_result_from : List Field → Result ActionResult MessageFault
action_result_from fields = do
  output_files ← each_in output_file_from (contents 2 fields)
  output_directories ← each_in output_directory_from (contents 3 fields)
  stdout_digest ← one_in digest_from (contents 6 fields)
  stderr_digest ← one_in digest_from (contents 8 fields)
  output_symlinks ← each_in output_symlink_from (contents 12 fields)
  Ok (record { output_files = output_files; output_directories = output_directories; exit_code = int32_in (contents 4 fields); stdout_raw = text_in (contents 5 fields); stdout_digest = stdout_digest; stderr_raw = text_in (contents 7 fields); stderr_digest = stderr_digest; execution_metadata = joined_in (contents 9 fields); output_symlinks = output_symlinks })

-- each size is below 2^63
abbrev pub action_result_is_readable : ActionResult → Type 0
action_result_is_readable x = AllByRecursion output_file_is_readable x.output_files × AllByRecursion output_directory_is_readable x.output_directories × IfSome x.stdout_digest digest_is_readable × IfSome x.stderr_digest digest_is_readable
