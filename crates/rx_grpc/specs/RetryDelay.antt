-- How long a server asks to wait, by the details that came with a status (PROTOCOL-HTTP2.md of gRPC, "Custom-Metadata" and
-- "Binary-Header"; the richer error model of gRPC; RFC 4648 4; google/rpc/status.proto).
use Rattle.std.specs.Prelude.{ℕ, ℤ, pos, negsuc, ◌+◌, ◌*◌, ◌^◌, ◌-◌, min, ◌==◌, Bool, List, take, Option, None, Some, Result, Ok, Err, codes, nat_eq}
use Rattle.std.specs.List.{ends_with, find, position}
use Rattle.std.specs.Int.{div_ceil}
use Rattle.base64.specs.Engines.{standard_pad_indifferent}
use Rattle.base64.specs.GeneralPurpose.{decode_of}
use Rattle.base64.specs.declared.decode.DecodeError.{DecodeError}
use Rattle.rx_codec.specs.Decoding.{any_form, decoded}
use Rattle.rx_codec.specs.declared.faults.MessageFault.{MessageFault}
use Rattle.rx_messages.specs.Statuses.{status_from, status_parts}
use Rattle.rx_messages.specs.declared.statuses.Any.{Any}
use Rattle.rx_messages.specs.declared.statuses.Status.{Status}
use Rattle.rx_grpc.specs.RetryInfo.{retry_info_from, retry_info_parts}
use Rattle.rx_grpc.specs.declared.retry_info.Delay.{Delay}
use Rattle.rx_grpc.specs.declared.retry_info.RetryInfo.{RetryInfo}

-- ---- the milliseconds of a span: nanoseconds are rounded up, a negative span is 0, and there are at most 2^64 - 1

abbrev pub milliseconds_by : ℤ → ℤ → ℕ
milliseconds_by (pos seconds) (pos nanos) = min (min (seconds * 1000) (2 ^ 64 - 1) + div_ceil nanos 1000000) (2 ^ 64 - 1)
milliseconds_by (pos seconds) (negsuc n) = 0
milliseconds_by (negsuc n) nanos = 0

abbrev pub milliseconds : Delay → ℕ
milliseconds delay = milliseconds_by delay.seconds delay.nanos

-- ---- the first RetryInfo among the details of a status

-- The type of an Any is what follows the last `/` of its URL (google/protobuf/any.proto). It is a RetryInfo where the URL ends so,
-- since this name has no `/`.
abbrev pub retry_ending : List ℕ
retry_ending = codes "/google.rpc.RetryInfo"

abbrev pub is_retry_info : Any → Bool
is_retry_info any = ends_with nat_eq any.type_url retry_ending

abbrev pub delay_by : Option Delay → Option ℕ
delay_by None = None
delay_by (Some delay) = Some (milliseconds delay)

-- what can't be read asks for nothing
abbrev pub info_delay : Result RetryInfo MessageFault → Option ℕ
info_delay (Ok info) = delay_by info.retry_delay
info_delay (Err fault) = None

abbrev pub any_delay : Option Any → Option ℕ
any_delay None = None
any_delay (Some any) = info_delay (decoded retry_info_parts retry_info_from any_form any.value)

abbrev pub status_delay : Result Status MessageFault → Option ℕ
status_delay (Ok status) = any_delay (find is_retry_info status.details)
status_delay (Err fault) = None

-- ---- the bytes of the details: base64, with or without padding

-- several values of one name may be joined by commas: the first one counts
abbrev pub front_by : Option ℕ → List ℕ → List ℕ
front_by None text = text
front_by (Some at) text = take at text

abbrev pub first_value : List ℕ → List ℕ
first_value text = front_by (position (λ b. b == 44) text) text

abbrev pub bytes_delay : Result (List ℕ) DecodeError → Option ℕ
bytes_delay (Ok bytes) = status_delay (decoded status_parts status_from any_form bytes)
bytes_delay (Err error) = None

-- how many milliseconds the details ask to wait
abbrev pub retry_delay_of : Option (List ℕ) → Option ℕ
retry_delay_of None = None
retry_delay_of (Some details) = bytes_delay (decode_of standard_pad_indifferent (first_value details))
