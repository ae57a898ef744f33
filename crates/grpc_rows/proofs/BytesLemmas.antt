-- What the recorded bytes tell, by computation.
use Rattle.std.proofs.Common.{◌≡◌, ℕ, Bool, true, false, cond, List, [], ◌∷◌, refl, None, Some, Ok, codes}
use Rattle.std.specs.Prelude.{◌==◌}
use Rattle.std.specs.Str.{chars, is_utf8}
use lib.Utf8.{encode}
use Rattle.rx_hpack.specs.Decoder.{applied, block_from, block_of}
use Rattle.rx_hpack.specs.Representation.{representation_at, literal_at, name_at}
use Rattle.rx_hpack.specs.Index.{field_at}
use Rattle.rx_hpack.specs.HeaderList.{kept}
use Rattle.rx_hpack.specs.StaticTable.{static_fields}
use Rattle.rx_hpack.specs.Integer.{integer_at}
use Rattle.rx_h2frame.specs.Kind.{kind_of}
use Rattle.rx_h2frame.specs.Frame.{next, payload_of}
use Rattle.rx_h2conn.specs.Incoming.{incoming, byte_in, rest_in, nothing as no_bytes}
use Rattle.rx_h2conn.specs.Part.{part}
use Rattle.rx_h2conn.specs.Session.{Event, Headers, Bytes}
use Rattle.rx_grpc.specs.declared.head.Head.TheVariants.{Success}
use Rattle.rx_grpc.specs.Framing.{next_message, sized}
use Rattle.rx_grpc.specs.Heard.{heard, nothing, byte, settled, step}
use Rattle.rx_grpc.specs.Texts.{three_digits, failure_of}
use Rattle.rx_codec.specs.Contents.{chunks, each_in, int32_in, joined_in, number_in, numbers, one_in, text_in, truth_in}
use Rattle.rx_codec.specs.Decoding.{decoded}
use Rattle.rx_codec.specs.FieldBytes.{fields_from, fields_in}
use Rattle.rx_codec.specs.Parts.{fields_checked, part_checked, parts_checked, text_checked}
use Rattle.rx_exec_messages.specs.Executions.{execute_response_from}
use Rattle.rx_exec_messages.specs.Operations.{operation_message_from}
use Rattle.rx_exec_messages.specs.declared.answers.Operation.{Operation}
use Rattle.rx_messages.specs.Results.{action_result_from}
use Rattle.rx_messages.specs.Statuses.{any_from, status_from}
use Rattle.rx_wire.specs.Fields.{field_at as wire_field_at, tagged_at, value_at}
use Rattle.rx_wire.specs.Values.{kind_of as kind_in}
use Rattle.rx_wire.specs.Varints.{varint_at, varint_in}
use Rattle.rx_grpc.specs.Operations.{operation_by, operation_of}
use Rattle.grpc_rows.specs.Recorded.{empty_result, message, recorded}

abbrev pub told : List Event
told =
    Headers 1 (record { name = codes ":status"; value = codes "200" } ∷ []) false
    ∷ Bytes 1 (0 ∷ 0 ∷ 0 ∷ 0 ∷ 77 ∷ message) false ∷ []

pub events_are : (incoming no_bytes recorded).events ≡ told
unfolding byte_in rest_in next payload_of applied block_from block_of representation_at literal_at name_at field_at kept static_fields kind_of integer_at
events_are = refl

pub part_by : (b : Bool) (id : ℕ) → (1 == id) ≡ b → (part id told).events ≡ cond b told []
part_by true id e = rw e refl
part_by false id e = rw e refl

pub heard_told : heard nothing told ≡ record nothing { head = Success; messages = message ∷ [] }
unfolding byte settled step next_message sized three_digits failure_of
heard_told = refl

abbrev pub done_state : Operation
done_state = record { name = []; done = Some (record { result = Some empty_result; cached_result = false; status = None; message = [] }) }

pub state_told : operation_by message ≡ Ok done_state
unfolding decoded parts_checked fields_checked part_checked text_checked fields_in fields_from wire_field_at tagged_at value_at varint_at varint_in kind_in chunks numbers text_in number_in truth_in int32_in one_in each_in joined_in operation_message_from any_from status_from execute_response_from action_result_from operation_of is_utf8 chars encode
state_told = refl
