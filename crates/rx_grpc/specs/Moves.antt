-- Runs of calls on a connection, and the link that carries what they give and are fed.
use Rattle.std.specs.Prelude.{◌≡◌, ◌≤◌, ℕ, ◌+◌, Bool, true, false, ◌||◌, List, [], ◌∷◌, ◌++◌, length, Option}
use Rattle.std.specs.List.{list_all}
use Rattle.rx_h2conn.specs.Session.{Event, Headers, Bytes, Reset, Gone, Session, Reading}
use Rattle.rx_h2conn.specs.Output.{emptied}
use Rattle.rx_h2conn.specs.History.{Call, Feeds, Starves, Hands, Takes, Opens, Sends, Resets, after, run, all_given}
use Rattle.rx_h2conn.specs.Granted.{AllSendHeld}
use Rattle.rx_h2conn.specs.Heard.{all_fed, all_handed}
use Rattle.rx_h2conn.specs.Part.{is_on, leaves_out}
use Rattle.rx_world.specs.Links.{Wire, Goes}

-- Every event was handed out and the output was taken: taking it again would change nothing.
pub record IsDrained (s : Session) : Type 0 where
  pub events : s.events ≡ []
  pub output : emptied s ≡ s

-- Bytes are fed only then, and at most 8,192 at once. So the windows that the client told are never passed, however the bytes
-- of the link are cut.
abbrev pub IsPacedCall : Reading → Call → Type 0
IsPacedCall r (Feeds piece) = (length piece ≤ 8192) × IsDrained r.state
IsPacedCall r Starves = Unit {0}
IsPacedCall r Hands = Unit {0}
IsPacedCall r Takes = Unit {0}
IsPacedCall r (Opens fields last) = Unit {0}
IsPacedCall r (Sends id piece last) = Unit {0}
IsPacedCall r (Resets id code) = Unit {0}

abbrev pub IsPaced : Reading → List Call → Type 0
IsPaced r [] = Unit {0}
IsPaced r (c ∷ calls) = IsPacedCall r c × IsPaced (after r c) calls

-- Some such calls lead from the one state to the other, with this output and input, and with these events. They send only on
-- streams that are held.
pub record Moves (old new : Reading) (given fed : List ℕ) (handed : List Event) : Type 0 where
  pub calls : List Call
  pub run_is : run old calls ≡ new
  pub given_is : all_given old calls ≡ given
  pub fed_is : all_fed calls ≡ fed
  pub handed_is : all_handed old calls ≡ handed
  pub paced : IsPaced old calls
  pub sends : AllSendHeld old calls

abbrev pub carried : List ℕ → List ℕ → Wire → Wire
carried given fed wire = record { sent = wire.sent ++ given; received = wire.received ++ fed }

-- a call that leaves what was sent of each stream: it opens none, sends nothing on one and gives none up
abbrev pub is_quiet : Call → Bool
is_quiet (Feeds piece) = true
is_quiet Starves = false
is_quiet Hands = true
is_quiet Takes = true
is_quiet (Opens fields last) = false
is_quiet (Sends id piece last) = false
is_quiet (Resets id code) = false

-- The link carried just what the connection gave and was fed, and there is less room by what was fed.
pub record Exchange (before now : Option Wire) (old new : Reading) (room left : ℕ) : Type 0 where
  pub given : List ℕ
  pub fed : List ℕ
  pub moves : Moves old new given fed []
  pub quiet : list_all is_quiet moves.calls ≡ true
  pub carries : Goes before now (carried given fed)
  pub count : length fed + left ≡ room

-- the events that are for a stream
abbrev pub is_for : ℕ → Event → Bool
is_for id event = is_on id event || leaves_out id event

-- the server takes no more streams (RFC 9113 6.8)
abbrev pub is_away : Event → Bool
is_away (Gone last) = true
is_away (Headers stream list last) = false
is_away (Bytes stream bytes last) = false
is_away (Reset stream code) = false

-- The link carried just what the connection gave and was fed, which leaves so much less room.
pub record Carries (before now : Option Wire) (old new : Reading) (room left : ℕ) : Type 0 where
  pub given : List ℕ
  pub fed : List ℕ
  pub handed : List Event
  pub moves : Moves old new given fed handed
  pub carries : Goes before now (carried given fed)
  pub count : length fed + left ≡ room
