-- Bytes that are sent and fetched (google/bytestream/bytestream.proto, Write and Read).
use Rattle.std.specs.Prelude.{ℕ, ◌==◌, List, ◌++◌, Result, Ok, if◌then◌else◌}
use Rattle.rx_wire.specs.Values.{Field}
use Rattle.rx_codec.specs.Contents.{int64_in, int64_put, text_in, text_put, truth_in, truth_put}
use Rattle.rx_codec.specs.FieldBytes.{contents, numbered}
use Rattle.rx_codec.specs.Parts.{Part, anything, text}
use Rattle.rx_codec.specs.declared.faults.MessageFault.{MessageFault}
use Rattle.rx_exec_messages.specs.declared.streams.WriteRequest.{WriteRequest}
use Rattle.rx_exec_messages.specs.declared.streams.WriteResponse.{WriteResponse}
use Rattle.rx_exec_messages.specs.declared.streams.ReadRequest.{ReadRequest}
use Rattle.rx_exec_messages.specs.declared.streams.ReadResponse.{ReadResponse}

-- ---- WriteRequest: resource_name 1, write_offset 2, finish_write 3, data 10

abbrev pub write_request_parts : ℕ → Part
write_request_parts number = if number == 1 then text else anything

unfoldable pub write_request_fields : WriteRequest → List Field
write_request_fields x =
    numbered 1 (text_put x.resource_name)
    ++ numbered 2 (int64_put x.write_offset)
    ++ numbered 3 (truth_put x.finish_write)
    ++ numbered 10 (text_put x.body)

unfoldable pub write_request_from : List Field → Result WriteRequest MessageFault
write_request_from fields =
    Ok (record {
      resource_name = text_in (contents 1 fields);
      write_offset = int64_in (contents 2 fields);
      finish_write = truth_in (contents 3 fields);
      body = text_in (contents 10 fields);
    })

abbrev pub write_request_is_readable : WriteRequest → Type 0
write_request_is_readable x = Unit {0}

-- ---- WriteResponse: committed_size 1

abbrev pub write_response_parts : ℕ → Part
write_response_parts number = anything

unfoldable pub write_response_fields : WriteResponse → List Field
write_response_fields x = numbered 1 (int64_put x.committed_size)

unfoldable pub write_response_from : List Field → Result WriteResponse MessageFault
write_response_from fields = Ok (record { committed_size = int64_in (contents 1 fields) })

abbrev pub write_response_is_readable : WriteResponse → Type 0
write_response_is_readable x = Unit {0}

-- ---- ReadRequest: resource_name 1, read_offset 2, read_limit 3

abbrev pub read_request_parts : ℕ → Part
read_request_parts number = if number == 1 then text else anything

unfoldable pub read_request_fields : ReadRequest → List Field
read_request_fields x =
    numbered 1 (text_put x.resource_name)
    ++ numbered 2 (int64_put x.read_offset)
    ++ numbered 3 (int64_put x.read_limit)

unfoldable pub read_request_from : List Field → Result ReadRequest MessageFault
read_request_from fields =
    Ok (record {
      resource_name = text_in (contents 1 fields);
      read_offset = int64_in (contents 2 fields);
      read_limit = int64_in (contents 3 fields);
    })

abbrev pub read_request_is_readable : ReadRequest → Type 0
read_request_is_readable x = Unit {0}

-- ---- ReadResponse: data 10

abbrev pub read_response_parts : ℕ → Part
read_response_parts number = anything

unfoldable pub read_response_fields : ReadResponse → List Field
read_response_fields x = numbered 10 (text_put x.body)

unfoldable pub read_response_from : List Field → Result ReadResponse MessageFault
read_response_from fields = Ok (record { body = text_in (contents 10 fields) })

abbrev pub read_response_is_readable : ReadResponse → Type 0
read_response_is_readable x = Unit {0}
