-- What the server allows the client to send, and how much of it is left (RFC 9113 5.2, 6.9).
use Rattle.std.specs.Prelude.{◌≡◌, ℕ, ◌+◌, ◌-◌, false, List, [], ◌∷◌, length, if◌then◌else◌, ◌==◌, Option, None, Some, Result, Ok, Err}
use Rattle.rx_h2frame.specs.declared.frame.FrameFault.{FrameFault}
use Rattle.rx_h2frame.specs.declared.kind.Kind.{Kind}
use Rattle.rx_h2frame.specs.declared.kind.Kind.TheVariants.{WindowUpdate}
use Rattle.rx_h2frame.specs.Frame.{Whole, Seen, Complete, Lacks, next}
use Rattle.rx_h2conn.specs.declared.fault.ConnFault.{ConnFault}
use Rattle.rx_h2conn.specs.Session.{Session, Reading}
use Rattle.rx_h2conn.specs.Streams.{number_31, IsHeld}
use Rattle.rx_h2conn.specs.Steps.{took, more, byte}
use Rattle.rx_h2conn.specs.Emitted.{has_fault}
use Rattle.rx_h2conn.specs.History.{Call, Feeds, Starves, Hands, Takes, Opens, Sends, Resets, after, run, all_emitted}
use Rattle.rx_h2conn.specs.Carried.{bytes_on}

-- how many bytes more a frame allows on a stream, or with 0 on the connection, unless it breaks a rule
abbrev pub grant_of : ℕ → Kind → Whole → ℕ
grant_of id WindowUpdate f = if f.stream == id then number_31 f.body else 0
grant_of id _ f = 0

abbrev pub took_grant : Session → ℕ → Whole → ℕ
took_grant s id f = if has_fault (took s f).fault then 0 else grant_of id f.kind f

abbrev pub judged_grant : Reading → ℕ → Result Seen FrameFault → ℕ
judged_grant r id (Err e) = 0
judged_grant r id (Ok (Lacks n)) = 0
judged_grant r id (Ok (Complete f)) = took_grant r.state id f

unfoldable pub settled_grant : Reading → ℕ → ℕ
settled_grant r id = judged_grant r id (next 16384 r.rest)

abbrev pub grant_unless : Option ConnFault → ℕ → ℕ
grant_unless None n = n
grant_unless (Some e) n = 0

unfoldable pub byte_grant : Reading → ℕ → ℕ → ℕ
byte_grant r id b = grant_unless r.state.fault (settled_grant (more r (b ∷ [])) id)

abbrev pub fed_grant : Reading → ℕ → List ℕ → ℕ
fed_grant r id [] = 0
fed_grant r id (b ∷ bytes) = byte_grant r id b + fed_grant (byte r b) id bytes

abbrev pub granted_by : Reading → ℕ → Call → ℕ
granted_by r id (Feeds piece) = fed_grant r id piece
granted_by r id Starves = 0
granted_by r id Hands = 0
granted_by r id Takes = 0
granted_by r id (Opens fields last) = 0
granted_by r id (Sends i piece last) = 0
granted_by r id (Resets i code) = 0

-- all that WINDOW_UPDATE frames allowed on a stream, or with 0 on the connection
abbrev pub all_granted : Reading → ℕ → List Call → ℕ
all_granted r id [] = 0
all_granted r id (c ∷ cs) = granted_by r id c + all_granted (after r c) id cs

-- What a stream's window still lets through: as much as a new stream's by the server's settings so far, and what the
-- server allowed more, without what was written. Where the settings took it below 0 it lets nothing through (6.9.2).
abbrev pub window_left : Reading → ℕ → List Call → ℕ
window_left r id cs = (run r cs).state.initial + all_granted r id cs - length (bytes_on id (all_emitted r cs))

-- a call that may be made: `send` is called on a stream that is held
abbrev pub SendsHeld : Reading → Call → Type 0
SendsHeld r (Feeds piece) = Unit {0}
SendsHeld r Starves = Unit {0}
SendsHeld r Hands = Unit {0}
SendsHeld r Takes = Unit {0}
SendsHeld r (Opens fields last) = Unit {0}
SendsHeld r (Sends id piece last) = r.state.fault ≡ None → IsHeld r.state id false
SendsHeld r (Resets id code) = Unit {0}

abbrev pub AllSendHeld : Reading → List Call → Type 0
AllSendHeld r [] = Unit {0}
AllSendHeld r (c ∷ cs) = SendsHeld r c × AllSendHeld (after r c) cs
