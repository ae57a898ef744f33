-- The Reply message and the messages within it by their fields: which fields are written for a message, and which message fields mean.
use Rattle.std.specs.Prelude.{ℕ, ◌==◌, List, ◌++◌, Result, Ok, IfSome, if◌then◌else◌}
use Rattle.std.specs.List.{AllByRecursion}
use Rattle.rx_base.specs.Results.{◌>>=◌}
use Rattle.rx_wire.specs.Values.{Field}
use Rattle.rx_codec.specs.Contents.{each_in, each_put, int32_in, int32_put, joined_in, number_in, number_put, one_in, one_put, text_in, text_put}
use Rattle.rx_codec.specs.Digests.{digest_fields, digest_from, digest_is_readable, digest_parts}
use Rattle.rx_codec.specs.FieldBytes.{contents, numbered}
use Rattle.rx_codec.specs.Parts.{Part, anything, message, text}
use Rattle.rx_codec.specs.declared.faults.MessageFault.{MessageFault}
use Rattle.rx_session.specs.declared.end_message.EndMessage.{EndMessage}
use Rattle.rx_session.specs.declared.reply_message.ReplyMessage.{ReplyMessage}
use Rattle.rx_session.specs.declared.seen_message.SeenMessage.{SeenMessage}

-- ---- Seen: kind 1, size 2, the mark's upper half 3 and its lower half 4, digest 5, executable 6

abbrev pub seen_message_parts : ℕ → Part
seen_message_parts number = if number == 5 then message digest_parts else anything

unfoldable pub seen_message_fields : SeenMessage → List Field
seen_message_fields x =
    numbered 1 (number_put x.kind)
    ++ numbered 2 (number_put x.size)
    ++ numbered 3 (number_put x.mark_high)
    ++ numbered 4 (number_put x.mark_low)
    ++ numbered 5 (one_put digest_fields x.digest)
    ++ numbered 6 (number_put x.executable)

unfoldable pub seen_message_from : List Field → Result SeenMessage MessageFault
seen_message_from fields = do
  digest ← one_in digest_from (contents 5 fields)
  Ok (record {
    kind = number_in (contents 1 fields);
    size = number_in (contents 2 fields);
    mark_high = number_in (contents 3 fields);
    mark_low = number_in (contents 4 fields);
    digest = digest;
    executable = number_in (contents 6 fields);
  })

-- the digest's size is below 2^63
abbrev pub seen_message_is_readable : SeenMessage → Type 0
seen_message_is_readable x = IfSome x.digest digest_is_readable

-- ---- End: attempt 1, cause 2, value 3, path 4, first 5, second 6, faults 7 (packed), n 8

abbrev pub end_message_parts : ℕ → Part
end_message_parts number =
    if number == 4 then text
    else if number == 5 then message seen_message_parts
    else if number == 6 then message seen_message_parts
    else anything

unfoldable pub end_message_fields : EndMessage → List Field
end_message_fields x =
    numbered 1 (number_put x.attempt)
    ++ numbered 2 (number_put x.cause)
    ++ numbered 3 (number_put x.value)
    ++ numbered 4 (text_put x.path)
    ++ numbered 5 (one_put seen_message_fields x.first)
    ++ numbered 6 (one_put seen_message_fields x.second)
    ++ numbered 7 (text_put x.faults)
    ++ numbered 8 (number_put x.n)

unfoldable pub end_message_from : List Field → Result EndMessage MessageFault
end_message_from fields = do
  first ← one_in seen_message_from (contents 5 fields)
  second ← one_in seen_message_from (contents 6 fields)
  Ok (record {
    attempt = number_in (contents 1 fields);
    cause = number_in (contents 2 fields);
    value = number_in (contents 3 fields);
    path = text_in (contents 4 fields);
    first = first;
    second = second;
    faults = joined_in (contents 7 fields);
    n = number_in (contents 8 fields);
  })

-- each size of a digest is below 2^63
abbrev pub end_message_is_readable : EndMessage → Type 0
end_message_is_readable x = IfSome x.first seen_message_is_readable × IfSome x.second seen_message_is_readable

-- ---- Reply: kind 1, exit 2, stdout 3, stderr 4, origin 5, receipt 6, placed 7, reason 8, value 9, path 10, first 11, second 12, ends 13

abbrev pub reply_message_parts : ℕ → Part
reply_message_parts number =
    if number == 10 then text
    else if number == 11 then message seen_message_parts
    else if number == 12 then message seen_message_parts
    else if number == 13 then message end_message_parts
    else anything

unfoldable pub reply_message_fields : ReplyMessage → List Field
reply_message_fields x =
    numbered 1 (number_put x.kind)
    ++ numbered 2 (int32_put x.exit)
    ++ numbered 3 (text_put x.stdout)
    ++ numbered 4 (text_put x.stderr)
    ++ numbered 5 (number_put x.origin)
    ++ numbered 6 (number_put x.receipt)
    ++ numbered 7 (number_put x.placed)
    ++ numbered 8 (number_put x.reason)
    ++ numbered 9 (number_put x.value)
    ++ numbered 10 (text_put x.path)
    ++ numbered 11 (one_put seen_message_fields x.first)
    ++ numbered 12 (one_put seen_message_fields x.second)
    ++ numbered 13 (each_put end_message_fields x.ends)

unfoldable pub reply_message_from : List Field → Result ReplyMessage MessageFault
reply_message_from fields = do
  first ← one_in seen_message_from (contents 11 fields)
  second ← one_in seen_message_from (contents 12 fields)
  ends ← each_in end_message_from (contents 13 fields)
  Ok (record {
    kind = number_in (contents 1 fields);
    exit = int32_in (contents 2 fields);
    stdout = text_in (contents 3 fields);
    stderr = text_in (contents 4 fields);
    origin = number_in (contents 5 fields);
    receipt = number_in (contents 6 fields);
    placed = number_in (contents 7 fields);
    reason = number_in (contents 8 fields);
    value = number_in (contents 9 fields);
    path = text_in (contents 10 fields);
    first = first;
    second = second;
    ends = ends;
  })

-- each size of a digest is below 2^63
abbrev pub reply_message_is_readable : ReplyMessage → Type 0
reply_message_is_readable x =
    IfSome x.first seen_message_is_readable × IfSome x.second seen_message_is_readable × AllByRecursion end_message_is_readable x.ends
