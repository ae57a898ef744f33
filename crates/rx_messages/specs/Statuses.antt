-- How a call on one blob ended (google/rpc/status.proto, google/protobuf/any.proto).
use Rattle.std.specs.Prelude.{ℕ, ◌==◌, List, ◌++◌, Result, Ok, if◌then◌else◌}
use Rattle.rx_base.specs.Results.{◌>>=◌}
use Rattle.rx_wire.specs.Values.{Field}
use Rattle.rx_codec.specs.Contents.{each_in, each_put, int32_in, int32_put, text_in, text_put}
use Rattle.rx_codec.specs.FieldBytes.{contents, numbered}
use Rattle.rx_codec.specs.Parts.{Part, anything, message, text}
use Rattle.rx_codec.specs.declared.faults.MessageFault.{MessageFault}
use Rattle.rx_messages.specs.declared.statuses.Any.{Any}
use Rattle.rx_messages.specs.declared.statuses.Status.{Status}

-- ---- Any: type_url 1, value 2

abbrev pub any_parts : ℕ → Part
any_parts number = if number == 1 then text else anything

unfoldable pub any_fields : Any → List Field
any_fields x = numbered 1 (text_put x.type_url) ++ numbered 2 (text_put x.value)

unfoldable pub any_from : List Field → Result Any MessageFault
any_from fields = Ok (record { type_url = text_in (contents 1 fields); value = text_in (contents 2 fields) })

abbrev pub any_is_readable : Any → Type 0
any_is_readable x = Unit {0}

-- ---- Status: code 1, message 2, details 3

abbrev pub status_parts : ℕ → Part
status_parts number = if number == 2 then text else if number == 3 then message any_parts else anything

unfoldable pub status_fields : Status → List Field
status_fields x = numbered 1 (int32_put x.code) ++ numbered 2 (text_put x.message) ++ numbered 3 (each_put any_fields x.details)

unfoldable pub status_from : List Field → Result Status MessageFault
status_from fields = do
  details ← each_in any_from (contents 3 fields)
  Ok (record { code = int32_in (contents 1 fields); message = text_in (contents 2 fields); details = details })

abbrev pub status_is_readable : Status → Type 0
status_is_readable x = Unit {0}
