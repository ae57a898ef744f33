-- What was seen at a path, and its message.
use Rattle.std.specs.Prelude.{◌≡◌, ◌≢◌, ◌⊎◌, ℕ, ◌+◌, ◌*◌, ◌/◌, ◌%◌, ◌^◌, ◌==◌, ◌&&◌, Bool, not, nat_lt, List, Option, None, Some, is_some, IsSome, IsNone, Result, Ok, if◌then◌else◌}
use Rattle.rx_base.specs.Results.{◌>>=◌}
use Rattle.rx_codec.specs.Contents.{number_of_truth}
use Rattle.rx_world.specs.declared.looks.ChangedInput.{ChangedInput}
use Rattle.rx_world.specs.declared.looks.Look.{Look}
use Rattle.rx_world.specs.declared.looks.Look.TheVariants as looks
use Rattle.rx_world.specs.declared.looks.Seen.{Seen}
use Rattle.rx_session.specs.declared.reply_fault.ReplyFault.{ReplyFault}
use Rattle.rx_session.specs.declared.seen_message.SeenMessage.{SeenMessage}
use Rattle.rx_session.specs.PathTexts.{own_path}
use Rattle.rx_session.specs.ReplyFaults.{bad_reply}

-- ---- written

-- nothing, and no digest
abbrev pub nothing_seen : SeenMessage
nothing_seen = record { kind = 0; size = 0; mark_high = 0; mark_low = 0; digest = None; executable = 0 }

-- 1 a file with its size, its mark in two halves of 64 bits, and whether it may be executed; 2 a directory, 3 anything else
abbrev pub look_message : Look → SeenMessage
look_message looks.Absent = nothing_seen
look_message (looks.File stamp executable) =
    record { kind = 1; size = stamp.size; mark_high = stamp.mark / 2 ^ 64; mark_low = stamp.mark % 2 ^ 64; digest = None; executable = number_of_truth executable }
look_message looks.Dir = record nothing_seen { kind = 2 }
look_message looks.Other = record nothing_seen { kind = 3 }

abbrev pub seen_message : Seen → SeenMessage
seen_message seen = record (look_message seen.look) { digest = seen.digest }

-- ---- read

-- no field of a file is set
unfoldable pub is_no_file : SeenMessage → Bool
is_no_file x = x.size == 0 && (x.mark_high == 0 && (x.mark_low == 0 && x.executable == 0))

-- the file of a message, where executable is 0 or 1
unfoldable pub file_of : SeenMessage → Result Look ReplyFault
file_of x =
    if nat_lt 1 x.executable then bad_reply
    else Ok (looks.File (record { size = x.size; mark = x.mark_high * 2 ^ 64 + x.mark_low }) (x.executable == 1))

-- the look of a message; only a file has a size, a mark and a bit to be executed
unfoldable pub look_of : SeenMessage → Result Look ReplyFault
look_of x =
    if x.kind == 1 then file_of x
    else if not (is_no_file x) then bad_reply
    else if x.kind == 0 then Ok looks.Absent
    else if x.kind == 2 then Ok looks.Dir
    else if x.kind == 3 then Ok looks.Other
    else bad_reply

unfoldable pub seen_of : SeenMessage → Result Seen ReplyFault
seen_of x = do
  look ← look_of x
  Ok (record { look = look; digest = x.digest })

-- ---- an input that changed

-- the looks of two messages are equal: all but the digests
unfoldable pub same_look : SeenMessage → SeenMessage → Bool
same_look x y =
    x.kind == y.kind && (x.size == y.size && (x.mark_high == y.mark_high && (x.mark_low == y.mark_low && x.executable == y.executable)))

-- both have digests where their looks are equal, and neither where they differ
unfoldable pub digests_fit : SeenMessage → SeenMessage → Bool
digests_fit x y =
    if same_look x y then is_some x.digest && is_some y.digest
    else not (is_some x.digest) && not (is_some y.digest)

-- the input of a path and two messages, each of which has to be there
unfoldable pub changed_of : List ℕ → Option SeenMessage → Option SeenMessage → Result ChangedInput ReplyFault
changed_of text (Some x) (Some y) = do
  path ← own_path text
  first ← seen_of x
  second ← seen_of y
  if digests_fit x y then Ok (record { path = path; first = first; second = second }) else bad_reply
changed_of text None second = bad_reply
changed_of text (Some x) None = bad_reply

-- The two values of an input that changed have digests where their looks are equal, and none where they differ.
abbrev pub DigestsFit : ChangedInput → Type 0
DigestsFit input =
    ((input.first.look ≡ input.second.look) × IsSome input.first.digest × IsSome input.second.digest)
    ⊎ ((input.first.look ≢ input.second.look) × IsNone input.first.digest × IsNone input.second.digest)
