-- What a run of calls was fed, and what it told of it.
use Rattle.std.specs.Prelude.{◌≡◌, ℕ, false, true, List, [], ◌∷◌, ◌++◌, filter, map, Option, None, Some}
use Rattle.rx_h2conn.specs.declared.fault.ConnFault.TheVariants.{NoMemory}
use Rattle.rx_h2conn.specs.Session.{Event, Reading, Queued}
use Rattle.rx_h2conn.specs.Streams.{is_open, stream_at}
use Rattle.rx_h2conn.specs.State.{Extends}
use Rattle.rx_h2conn.specs.Carried.{bytes_unless}
use Rattle.rx_h2conn.specs.Steps.{first, byte}
use Rattle.rx_h2conn.specs.History.{Call, Feeds, Starves, Hands, Takes, Opens, Sends, Resets, after, run}
use Rattle.rx_h2conn.specs.Part.{is_on, part}
use Rattle.rx_h2conn.specs.Incoming.{nothing, incoming}

abbrev pub fed_by : Call → List ℕ
fed_by (Feeds piece) = piece
fed_by Starves = []
fed_by Hands = []
fed_by Takes = []
fed_by (Opens fields last) = []
fed_by (Sends id piece last) = []
fed_by (Resets id code) = []

abbrev pub all_fed : List Call → List ℕ
all_fed [] = []
all_fed (c ∷ cs) = fed_by c ++ all_fed cs

-- the bytes of a piece before the one with which the server broke a rule: all of them where it broke none
abbrev pub lawful_in : Reading → List ℕ → List ℕ
lawful_in r [] = []
lawful_in r (b ∷ bytes) = bytes_unless (byte r b).state.fault (b ∷ lawful_in (byte r b) bytes)

abbrev pub lawful_by : Reading → Call → List ℕ
lawful_by r (Feeds piece) = lawful_in r piece
lawful_by r Starves = []
lawful_by r Hands = []
lawful_by r Takes = []
lawful_by r (Opens fields last) = []
lawful_by r (Sends id piece last) = []
lawful_by r (Resets id code) = []

abbrev pub all_lawful : Reading → List Call → List ℕ
all_lawful r [] = []
all_lawful r (c ∷ cs) = lawful_by r c ++ all_lawful (after r c) cs

abbrev pub as_list : Option Event → List Event
as_list None = []
as_list (Some event) = event ∷ []

abbrev pub handed_by : Reading → Call → List Event
handed_by r (Feeds piece) = []
handed_by r Starves = []
handed_by r Hands = as_list (first r.state.events)
handed_by r Takes = []
handed_by r (Opens fields last) = []
handed_by r (Sends id piece last) = []
handed_by r (Resets id code) = []

abbrev pub all_handed : Reading → List Call → List Event
all_handed r [] = []
all_handed r (c ∷ cs) = handed_by r c ++ all_handed (after r c) cs

abbrev pub events_of : List Queued → List Event
events_of queued = map (λ q. q.event) queued

-- the events that were handed out, and those that wait
abbrev pub all_told : Reading → List Call → List Event
all_told conn calls = all_handed conn calls ++ events_of (run conn calls).state.events

-- What was told of each stream that the client opened and didn't reset is its part of the lawful bytes: of all that were
-- fed, unless the server broke a rule.
pub record HearsLawful (conn : Reading) (calls : List Call) : Type 0 where
  pub front : Extends (all_lawful conn calls) (all_fed calls)
  pub part : (id : ℕ) → is_open (run conn calls).state id ≡ true → (stream_at (run conn calls).state id).client_reset ≡ false → part id (all_told conn calls) ≡ part id (incoming nothing (all_lawful conn calls)).events
  -- nothing was told of a stream that wasn't opened
  pub silent : (id : ℕ) → is_open (run conn calls).state id ≡ false → filter (is_on id) (all_told conn calls) ≡ []
  pub all : (run conn calls).state.fault ≡ None → all_lawful conn calls ≡ all_fed calls
  pub unbroken : (run conn calls).state.fault ≡ None → (incoming nothing (all_fed calls)).broken ≡ false

-- want of memory may have lost what was fed
abbrev pub Hears : Reading → List Call → Type 0
Hears conn calls = ((run conn calls).state.fault ≡ Some NoMemory → ⊥) → HearsLawful conn calls
