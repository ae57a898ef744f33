-- Blobs that are written as streams (google/bytestream/bytestream.proto, Write).
use Rattle.std.specs.Prelude.{ℕ, zero, suc, ◌+◌, ◌-◌, ◌*◌, ◌/◌, not, nat_lt, pos, List, [], ◌∷◌, ◌++◌, length, take, drop, Result, Ok, Err, if◌then◌else◌}
use Rattle.rx_base.specs.Results.{◌>>=◌}
use Rattle.rx_codec.specs.Decoding.{any_form, decoded}
use Rattle.rx_codec.specs.FieldBytes.{fields_bytes}
use Rattle.rx_exec_messages.specs.Dialects.{is_number}
use Rattle.rx_exec_messages.specs.Streams.{write_request_fields, write_response_from, write_response_parts}
use Rattle.rx_exec_messages.specs.declared.streams.WriteRequest.{WriteRequest}
use Rattle.rx_world.specs.declared.call_faults.CallFault.{CallFault}
use Rattle.rx_world.specs.declared.call_faults.CallFault.TheVariants.{BadMessage}
use Rattle.rx_grpc.specs.Replies.{Heard, reply}

-- the message that carries the piece from an offset on, of at most 65,536 bytes; the last one finishes the write
abbrev pub write_of : List ℕ → List ℕ → ℕ → WriteRequest
write_of name bytes at = record {
  resource_name = name;
  write_offset = pos at;
  finish_write = not (nat_lt 65536 (length (drop at bytes)));
  body = take 65536 (drop at bytes);
}

abbrev pub piece_message : List ℕ → List ℕ → ℕ → List ℕ
piece_message name bytes at = fields_bytes (write_request_fields (write_of name bytes at))

-- where so many pieces begin
abbrev pub pieces : ℕ → List ℕ
pieces zero = []
pieces (suc count) = pieces count ++ count * 65536 ∷ []

-- those of so many bytes: without bytes there is one
abbrev pub offsets_of : ℕ → List ℕ
offsets_of size = pieces ((size - 1) / 65536 + 1)

-- the farm has to have all of the bytes
abbrev pub written_by : ℕ → Heard → Result (Unit {0}) CallFault
written_by size heard = do
  x ← reply (decoded write_response_parts write_response_from any_form) heard
  if is_number size x.committed_size then Ok tt else Err (BadMessage 0)
