-- The Request message by its fields: which fields are written for it, and which message fields mean.
use Rattle.std.specs.Prelude.{ℕ, ◌==◌, List, ◌++◌, map, Result, Ok, if◌then◌else◌}
use Rattle.rx_base.specs.Results.{◌>>=◌}
use Rattle.rx_wire.specs.Values.{Content, Field}
use Rattle.rx_codec.specs.Contents.{each_in, each_put, number_in, number_put, text_in, text_put, texts_in, texts_put}
use Rattle.rx_codec.specs.Decoding.{any_form, decoded}
use Rattle.rx_codec.specs.FieldBytes.{contents, numbered}
use Rattle.rx_codec.specs.Parts.{Part, anything, message, text}
use Rattle.rx_codec.specs.declared.faults.MessageFault.{MessageFault}
use Rattle.rx_world.specs.declared.commands.Pair.{Pair}
use Rattle.rx_session.specs.declared.pair_message.PairMessage.{PairMessage}
use Rattle.rx_session.specs.declared.raw_request.RawRequest.{RawRequest}

-- ---- a name with its value: name 1, value 2

abbrev pub pair_in : PairMessage → Pair
pair_in x = x.pair

abbrev pub pair_message : Pair → PairMessage
pair_message pair = record { pair = pair }

abbrev pub pair_message_parts : ℕ → Part
pair_message_parts number = if number == 1 then text else if number == 2 then text else anything

unfoldable pub pair_message_fields : PairMessage → List Field
pair_message_fields x = numbered 1 (text_put x.pair.name) ++ numbered 2 (text_put x.pair.value)

unfoldable pub pair_message_from : List Field → Result PairMessage MessageFault
pair_message_from fields = Ok (pair_message (record { name = text_in (contents 1 fields); value = text_in (contents 2 fields) }))

abbrev pub pair_message_is_readable : PairMessage → Type 0
pair_message_is_readable x = Unit {0}

-- ---- Request: version 1, root 2, words 3, environment 4, working_directory 5, strategy 6, kind 7, inputs 8, toolchain_inputs 9, outputs 10,
-- platform 11, accept_cached 12, watch 13, timeout_seconds 14, in_place 16

abbrev pub raw_request_parts : ℕ → Part
raw_request_parts number =
    if number == 2 then text
    else if number == 3 then text
    else if number == 4 then message pair_message_parts
    else if number == 5 then text
    else if number == 8 then text
    else if number == 9 then text
    else if number == 10 then text
    else if number == 11 then message pair_message_parts
    else anything

abbrev pub pairs_put : List Pair → List Content
pairs_put pairs = each_put pair_message_fields (map pair_message pairs)

-- the fields from 12 on
abbrev pub last_request_fields : RawRequest → List Field
last_request_fields x =
    numbered 12 (number_put x.accept_cached)
    ++ numbered 13 (number_put x.watch)
    ++ numbered 14 (number_put x.timeout_seconds)
    ++ numbered 16 (number_put x.in_place)

unfoldable pub raw_request_fields : RawRequest → List Field
raw_request_fields x =
    numbered 1 (number_put x.version)
    ++ numbered 2 (text_put x.root)
    ++ numbered 3 (texts_put x.words)
    ++ numbered 4 (pairs_put x.environment)
    ++ numbered 5 (text_put x.working_directory)
    ++ numbered 6 (number_put x.strategy)
    ++ numbered 7 (number_put x.kind)
    ++ numbered 8 (texts_put x.inputs)
    ++ numbered 9 (texts_put x.toolchain_inputs)
    ++ numbered 10 (texts_put x.outputs)
    ++ numbered 11 (pairs_put x.platform)
    ++ last_request_fields x

-- the message of fields, whose pairs are these messages
abbrev pub raw_request_with : List Field → List PairMessage → List PairMessage → RawRequest
raw_request_with fields environment platform = record {
  version = number_in (contents 1 fields);
  root = text_in (contents 2 fields);
  words = texts_in (contents 3 fields);
  environment = map pair_in environment;
  working_directory = text_in (contents 5 fields);
  strategy = number_in (contents 6 fields);
  kind = number_in (contents 7 fields);
  inputs = texts_in (contents 8 fields);
  toolchain_inputs = texts_in (contents 9 fields);
  outputs = texts_in (contents 10 fields);
  platform = map pair_in platform;
  accept_cached = number_in (contents 12 fields);
  watch = number_in (contents 13 fields);
  timeout_seconds = number_in (contents 14 fields);
  in_place = number_in (contents 16 fields);
}

unfoldable pub raw_request_from : List Field → Result RawRequest MessageFault
raw_request_from fields = do
  environment ← each_in pair_message_from (contents 4 fields)
  platform ← each_in pair_message_from (contents 11 fields)
  Ok (raw_request_with fields environment platform)

abbrev pub raw_request_is_readable : RawRequest → Type 0
raw_request_is_readable x = Unit {0}

-- the message of a payload, or the first refusal in it, by place
unfoldable pub raw_request_of : List ℕ → Result RawRequest MessageFault
raw_request_of payload = decoded raw_request_parts raw_request_from any_form payload
