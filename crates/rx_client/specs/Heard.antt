-- What the bytes of a connection's input begin with.
use Rattle.std.specs.Prelude.{◌≡◌, ℕ, ◌+◌, ◌==◌, not, List, [], ◌++◌, Bool, length, take, drop, nat_lt, Option, Some, None, Result, Ok, Err, if◌then◌else◌, slice_index}
use Rattle.std.specs.Option.{option_and_then}
use Rattle.std.specs.Result.{result_ok}
use Rattle.std.specs.Str.{bytes_eq}
use Rattle.rx_session.specs.Frames.{length_in, shutdown_done}
use Rattle.rx_session.specs.ReplyReading.{reply_of}
use Rattle.rx_session.specs.declared.replies.Reply.{Reply}
use Rattle.rx_client.specs.declared.hear_fault.HearFault.{HearFault}
use Rattle.rx_client.specs.declared.hear_fault.HearFault.TheVariants.{Lost, NoFrame, NoMemory}

-- ---- the bytes that an input gives

-- those that are left, where told
abbrev pub rest_of : Option (List ℕ) → List ℕ
rest_of None = []
rest_of (Some rest) = rest

-- those that were read, and those that are left
abbrev pub given_by : List ℕ → Option (List ℕ) → List ℕ
given_by read left = read ++ rest_of left

-- ---- a Reply's frame

-- the most bytes of a Reply's payload
abbrev pub longest_reply : ℕ
longest_reply = 67108864

-- the length of the payload, where bytes begin with the header of a Reply's frame
unfoldable pub reply_len : List ℕ → Option ℕ
reply_len text =
    if nat_lt (length text) 5 then None
    else if not (slice_index text 0 == 2) then None
    else if nat_lt longest_reply (length_in text) then None
    else Some (length_in text)

-- the Reply in a frame whose payload has so many bytes
unfoldable pub reply_within : List ℕ → ℕ → Option Reply
reply_within text len =
    if nat_lt (length text) (5 + len) then None
    else result_ok (reply_of (take len (drop 5 text)))

-- The Reply whose frame bytes begin with; None where they begin with none. Bytes whose payload is refused are no frame of a Reply.
unfoldable pub first_reply : List ℕ → Option Reply
first_reply text = option_and_then (reply_within text) (reply_len text)

-- bytes begin with the frame that answers a Shutdown
unfoldable pub is_shutdown_done : List ℕ → Bool
is_shutdown_done text = bytes_eq (take 5 text) shutdown_done

-- ---- what a call heard

-- What was answered is what the bytes begin with, unless the input was lost or memory ran out.
abbrev pub Hears : {T : Type 0} → Result T HearFault → Option T → Type 0
Hears (Ok heard) first = first ≡ Some heard
Hears (Err NoFrame) first = first ≡ None
Hears (Err Lost) first = Unit {0}
Hears (Err NoMemory) first = Unit {0}
