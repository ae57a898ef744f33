-- Each frame is that of its request, and the text of the input is its path.
use Rattle.std.proofs.Common.{◌≡◌, refl}
use Rattle.std.specs.Prelude.{Ok, codes}
use Rattle.std.specs.Str.{chars, is_utf8}
use lib.Utf8.{encode}
use Rattle.rx_base.specs.Paths.{read_of, path_of, checked, with_text, with_parts, with_part}
use Rattle.rx_codec.specs.Contents.{chunks, each_in, number_in, numbers, text_in, texts_in}
use Rattle.rx_codec.specs.Decoding.{decoded}
use Rattle.rx_codec.specs.FieldBytes.{fields_from, fields_in}
use Rattle.rx_codec.specs.Parts.{fields_checked, part_checked, parts_checked, text_checked}
use Rattle.rx_wire.specs.Fields.{field_at, tagged_at, value_at}
use Rattle.rx_wire.specs.Values.{kind_of}
use Rattle.rx_wire.specs.Varints.{varint_at, varint_in}
use Rattle.rx_session.specs.Frames.{IsRequest, head_in, incoming_of, payload_request, request_within}
use Rattle.rx_session.specs.Messages.{raw_request_from, raw_request_of}
use Rattle.rx_session.specs.Rules.{bad_field, bad_last_field, directory_holds, environment_holds, outputs_hold, outputs_stand, paths_hold, platform_holds, request_by, some_above, words_hold}
use Rattle.witness_rows.specs.Single.{single_frame, single_request}
use Rattle.witness_rows.specs.Trivial.{trivial_frame, trivial_request, trivial_root}

pub trivial_decoded : IsRequest trivial_root trivial_frame trivial_request
unfolding incoming_of head_in request_within payload_request raw_request_of decoded parts_checked fields_checked part_checked text_checked field_at tagged_at value_at is_utf8 chars encode varint_at varint_in kind_of fields_in fields_from raw_request_from each_in number_in numbers text_in texts_in chunks request_by bad_field bad_last_field words_hold environment_holds directory_holds paths_hold outputs_hold outputs_stand some_above platform_holds read_of path_of checked with_text with_parts with_part
trivial_decoded = refl

pub single_decoded : IsRequest trivial_root single_frame single_request
unfolding incoming_of head_in request_within payload_request raw_request_of decoded parts_checked fields_checked part_checked text_checked field_at tagged_at value_at is_utf8 chars encode varint_at varint_in kind_of fields_in fields_from raw_request_from each_in number_in numbers text_in texts_in chunks request_by bad_field bad_last_field words_hold environment_holds directory_holds paths_hold outputs_hold outputs_stand some_above platform_holds read_of path_of checked with_text with_parts with_part
single_decoded = refl

pub input_read : read_of (codes "a") ≡ Ok (codes "a")
unfolding read_of path_of checked with_text with_parts with_part
input_read = refl
