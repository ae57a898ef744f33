-- The lines that a client writes to its standard error.
use Rattle.std.specs.Prelude.{ℕ, List, [], ◌∷◌, ◌++◌, Option, None, Some, codes}
use Rattle.std.specs.Fmt.{decimal}
use Rattle.rx_session.specs.Bad.{reason_number}
use Rattle.rx_session.specs.Replies.{limit_number}
use Rattle.rx_session.specs.declared.cancels.CancelReason.{CancelReason}
use Rattle.rx_session.specs.declared.cancels.CancelReason.TheVariants as cancels
use Rattle.rx_session.specs.declared.in_place.InPlaceCause.{InPlaceCause}
use Rattle.rx_session.specs.declared.in_place.InPlaceCause.TheVariants as in_places
use Rattle.rx_session.specs.declared.replies.Reply.{Reply}
use Rattle.rx_session.specs.declared.replies.Reply.TheVariants as replies
use Rattle.rx_world.specs.declared.refusals.Limit.{Limit}
use Rattle.rx_world.specs.declared.refusals.LocalCause.{LocalCause}
use Rattle.rx_world.specs.declared.refusals.LocalCause.TheVariants as locals
use Rattle.rx_client.specs.FailureTexts.{failures_text}
use Rattle.rx_client.specs.declared.whys.Why.{Why}
use Rattle.rx_client.specs.declared.whys.Why.TheVariants as whys

-- a line feed behind a text
abbrev pub line : List ℕ → List ℕ
line text = text ++ 10 ∷ []

abbrev pub bad_flag_line : List ℕ → List ℕ
bad_flag_line word = line (codes "rewrapper: bad flag " ++ word)

abbrev pub no_config_line : List ℕ
no_config_line = codes "rewrapper: no config" ++ 10 ∷ []

abbrev pub no_proxy_line : List ℕ
no_proxy_line = codes "rewrapper: no proxy" ++ 10 ∷ []

abbrev pub bad_reply_line : List ℕ
bad_reply_line = codes "rewrapper: bad reply" ++ 10 ∷ []

-- ---- a refusal

-- the number of a reply
abbrev pub number_of : Reply → ℕ
number_of (replies.Done exit stdout stderr origin receipt placed) = 0
number_of (replies.BadRequest bad) = 1
number_of (replies.NotRemotable cause) = 2
number_of (replies.InputMissing path) = 3
number_of (replies.InputChanged input) = 4
number_of (replies.SourceFault path) = 5
number_of (replies.TooLarge limit n path) = 6
number_of (replies.AllFailed failures) = 7
number_of (replies.Cancelled reason) = 8
number_of (replies.PlaceFault receipt placed) = 9
number_of replies.JournalFull = 10
number_of replies.NoMemory = 11
number_of (replies.Blocked path) = 12
number_of (replies.InPlace cause) = 13

-- a space and a text
abbrev pub behind : List ℕ → List ℕ
behind text = 32 ∷ text

abbrev pub cause_text : LocalCause → List ℕ
cause_text (locals.Word word) = word
cause_text (locals.Path path) = path

-- the path, or the number of the limit
abbrev pub limit_text : Limit → Option (List ℕ) → List ℕ
limit_text limit None = decimal (limit_number limit)
limit_text limit (Some path) = path

-- why the command is to run in place: the word or the path, or the limit in words
abbrev pub in_place_text : InPlaceCause → List ℕ
in_place_text (in_places.Kept cause) = cause_text cause
in_place_text (in_places.TooLarge limit) = codes "limit " ++ decimal (limit_number limit)

-- why the session was cancelled, in words
abbrev pub cancel_text : CancelReason → List ℕ
cancel_text cancels.Asked = codes "cancelled: asked to"
cancel_text cancels.Ended = codes "cancelled: the connection was closed"
cancel_text cancels.OtherBytes = codes "cancelled: unexpected bytes"
cancel_text cancels.Lost = codes "cancelled: the connection failed"

-- the path or the text that a reply has, else its reason, behind a space
abbrev pub detail_of : Reply → List ℕ
detail_of (replies.Done exit stdout stderr origin receipt placed) = []
detail_of (replies.BadRequest bad) = behind (decimal (reason_number bad.reason))
detail_of (replies.NotRemotable cause) = behind (cause_text cause)
detail_of (replies.InputMissing path) = behind path
detail_of (replies.InputChanged input) = behind input.path
detail_of (replies.SourceFault path) = behind path
detail_of (replies.TooLarge limit n path) = behind (limit_text limit path)
detail_of (replies.AllFailed failures) = behind (failures_text failures)
detail_of (replies.Cancelled reason) = behind (cancel_text reason)
detail_of (replies.PlaceFault receipt placed) = []
detail_of replies.JournalFull = []
detail_of replies.NoMemory = []
detail_of (replies.Blocked path) = behind path
detail_of (replies.InPlace cause) = behind (in_place_text cause)

abbrev pub refusal_line : Reply → List ℕ
refusal_line reply = line (codes "rewrapper: refused " ++ decimal (number_of reply) ++ detail_of reply)

-- ---- a command that runs in place

abbrev pub why_text : Why → List ℕ
why_text (whys.Told cause) = in_place_text cause
why_text whys.Outside = codes "outside of exec_root"
why_text whys.NoProxy = codes "no proxy"

abbrev pub why_line : Why → List ℕ
why_line why = line (codes "rewrapper: in place: " ++ why_text why)
