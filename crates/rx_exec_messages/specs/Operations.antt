-- A call that goes on (google/longrunning/operations.proto, Operation).
use Rattle.std.specs.Prelude.{ℕ, ◌==◌, List, ◌++◌, Result, Ok, if◌then◌else◌}
use Rattle.rx_base.specs.Results.{◌>>=◌}
use Rattle.rx_wire.specs.Values.{Field}
use Rattle.rx_codec.specs.Contents.{one_in, one_put, text_in, text_put, truth_in, truth_put}
use Rattle.rx_codec.specs.FieldBytes.{contents, numbered}
use Rattle.rx_codec.specs.Parts.{Part, anything, message, text}
use Rattle.rx_codec.specs.declared.faults.MessageFault.{MessageFault}
use Rattle.rx_messages.specs.Statuses.{any_fields, any_from, any_parts, status_fields, status_from}
use Rattle.rx_messages.specs.Statuses.{status_parts}
use Rattle.rx_exec_messages.specs.declared.operations.OperationMessage.{OperationMessage}

-- ---- OperationMessage: name 1, metadata 2, done 3, error 4, response 5

abbrev pub operation_message_parts : ℕ → Part
operation_message_parts number =
    if number == 1 then text
    else if number == 2 then message any_parts
    else if number == 4 then message status_parts
    else if number == 5 then message any_parts
    else anything

unfoldable pub operation_message_fields : OperationMessage → List Field
operation_message_fields x =
    numbered 1 (text_put x.name)
    ++ numbered 2 (one_put any_fields x.metadata)
    ++ numbered 3 (truth_put x.done)
    ++ numbered 4 (one_put status_fields x.error)
    ++ numbered 5 (one_put any_fields x.response)

unfoldable pub operation_message_from : List Field → Result OperationMessage MessageFault
operation_message_from fields = do
  metadata ← one_in any_from (contents 2 fields)
  error ← one_in status_from (contents 4 fields)
  response ← one_in any_from (contents 5 fields)
  Ok (record {
    name = text_in (contents 1 fields);
    metadata = metadata;
    done = truth_in (contents 3 fields);
    error = error;
    response = response;
  })

abbrev pub operation_message_is_readable : OperationMessage → Type 0
operation_message_is_readable x = Unit {0}
