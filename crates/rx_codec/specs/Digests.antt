-- A Digest as a message: hash 1, size_bytes 2 (remote_execution.proto, Digest).
use Rattle.std.specs.Prelude.{ℕ, ◌<◌, ◌^◌, ◌==◌, ◌&&◌, List, [], ◌++◌, length, Result, Ok, Err, nat_lt, if◌then◌else◌}
use Rattle.std.specs.List.{list_all}
use Rattle.std.specs.Result.{result_unwrap_or}
use Rattle.hex.specs.Hex.{encode_lower, decode_sized}
use Rattle.rx_base.specs.declared.digests.Digest.{Digest}
use Rattle.rx_base.specs.HashText.{is_lower_digit}
use Rattle.rx_wire.specs.Values.{Field}
use Rattle.rx_codec.specs.Contents.{text_put, text_in, number_put, number_in}
use Rattle.rx_codec.specs.FieldBytes.{contents, numbered}
use Rattle.rx_codec.specs.Parts.{Part, anything, text}
use Rattle.rx_codec.specs.declared.faults.MessageFault.{MessageFault}
use Rattle.rx_codec.specs.declared.faults.MessageFault.TheVariants.{BadValue}

abbrev pub digest_parts : ℕ → Part
digest_parts number = if number == 1 then text else anything

unfoldable pub digest_fields : Digest → List Field
digest_fields digest = numbered 1 (text_put (encode_lower digest.hash)) ++ numbered 2 (number_put digest.size)

-- the digest of a hash as 64 digits and a size that, as an int64, isn't negative
unfoldable pub digest_of_parts : List ℕ → ℕ → Result Digest MessageFault
digest_of_parts hash size =
    if length hash == 64 && list_all is_lower_digit hash then
    if nat_lt size (2 ^ 63) then Ok (record { hash = result_unwrap_or (decode_sized hash 32) []; size = size })
    else Err (BadValue 2)
    else Err (BadValue 1)

unfoldable pub digest_from : List Field → Result Digest MessageFault
digest_from fields = digest_of_parts (text_in (contents 1 fields)) (number_in (contents 2 fields))

-- the size is below 2^63, as an int64 holds it
abbrev pub digest_is_readable : Digest → Type 0
digest_is_readable digest = digest.size < 2 ^ 63
