-- When a server wants to be asked again (google/rpc/error_details.proto, RetryInfo; google/protobuf/duration.proto).
use Rattle.std.specs.Prelude.{ℕ, ◌==◌, List, ◌++◌, Result, Ok, if◌then◌else◌}
use Rattle.rx_base.specs.Results.{◌>>=◌}
use Rattle.rx_wire.specs.Values.{Field}
use Rattle.rx_codec.specs.Contents.{int32_in, int32_put, int64_in, int64_put, one_in, one_put}
use Rattle.rx_codec.specs.FieldBytes.{contents, numbered}
use Rattle.rx_codec.specs.Parts.{Part, anything, message}
use Rattle.rx_codec.specs.declared.faults.MessageFault.{MessageFault}
use Rattle.rx_grpc.specs.declared.retry_info.Delay.{Delay}
use Rattle.rx_grpc.specs.declared.retry_info.RetryInfo.{RetryInfo}

-- ---- Delay (Duration): seconds 1, nanos 2

abbrev pub delay_parts : ℕ → Part
delay_parts number = anything

unfoldable pub delay_fields : Delay → List Field
delay_fields x = numbered 1 (int64_put x.seconds) ++ numbered 2 (int32_put x.nanos)

unfoldable pub delay_from : List Field → Result Delay MessageFault
delay_from fields = Ok (record { seconds = int64_in (contents 1 fields); nanos = int32_in (contents 2 fields) })

abbrev pub delay_is_readable : Delay → Type 0
delay_is_readable x = Unit {0}

-- ---- RetryInfo: retry_delay 1

abbrev pub retry_info_parts : ℕ → Part
retry_info_parts number = if number == 1 then message delay_parts else anything

unfoldable pub retry_info_fields : RetryInfo → List Field
retry_info_fields x = numbered 1 (one_put delay_fields x.retry_delay)

unfoldable pub retry_info_from : List Field → Result RetryInfo MessageFault
retry_info_from fields = do
  retry_delay ← one_in delay_from (contents 1 fields)
  Ok (record { retry_delay = retry_delay })

abbrev pub retry_info_is_readable : RetryInfo → Type 0
retry_info_is_readable x = Unit {0}
