-- Whole runs of calls on a connection.
use Rattle.std.specs.Prelude.{◌≡◌, ℕ, Bool, List, [], ◌∷◌, ◌++◌, length, Option, None, Some, Result, Ok, Err}
use Rattle.rx_hpack.specs.Header.{Field}
use Rattle.rx_h2frame.specs.Write.{Out}
use Rattle.rx_h2conn.specs.declared.fault.ConnFault.{ConnFault}
use Rattle.rx_h2conn.specs.Session.{Session, Reading, Event}
use Rattle.rx_h2conn.specs.Steps.{fed, unless_failed, broken, first, after_event}
use Rattle.rx_h2conn.specs.Emitted.{fed_outs, outs_unless}
use Rattle.rx_h2conn.specs.Open.{refusal, next_id, opened, header_frames}
use Rattle.rx_h2conn.specs.Output.{allowed, sent, send_frames, reset, reset_frame, all_credits, output, emptied}

-- A call of a run; Starves is a call of feed that was refused for memory. The others that were change nothing, and are left
-- out.
pub data Call : Type 0 where
  Feeds : List ℕ → Call
  Starves : Call
  Hands : Call
  Takes : Call
  Opens : List Field → Bool → Call
  Sends : ℕ → List ℕ → Bool → Call
  Resets : ℕ → ℕ → Call

-- what a call answers; what `feed` answers is the fault that it leaves
pub data Told : Type 0 where
  Handed : Option Event → Told
  Output : List ℕ → Told
  Opened : Result ℕ ConnFault → Told
  Taken : Result ℕ ConnFault → Told
  GivenUp : Result (Unit {0}) ConnFault → Told

-- nothing changes after a fault
abbrev pub unless : Option ConnFault → Session → Session → Session
unless None s new = new
unless (Some fault) s new = s

abbrev pub answer : {A : Type 0} → Option ConnFault → A → Result A ConnFault
answer None value = Ok value
answer (Some fault) value = Err fault

abbrev pub after : Reading → Call → Reading
after r (Feeds piece) = fed r piece
after r Starves = unless_failed r.state.fault r (broken r)
after r Hands = after_event r
after r Takes = record r { state = emptied r.state }
after r (Opens fields last) = record r { state = unless (refusal r.state) r.state (opened r.state fields last) }
after r (Sends id piece last) = record r { state = unless r.state.fault r.state (sent r.state id piece last) }
after r (Resets id code) = record r { state = unless r.state.fault r.state (reset r.state id code) }

abbrev pub tells : Reading → Call → List Told
tells r (Feeds piece) = []
tells r Starves = []
tells r Hands = Handed (first r.state.events) ∷ []
tells r Takes = Output (output r.state) ∷ []
tells r (Opens fields last) = Opened (answer (refusal r.state) (next_id r.state)) ∷ []
tells r (Sends id piece last) = Taken (answer r.state.fault (allowed r.state id (length piece))) ∷ []
tells r (Resets id code) = GivenUp (answer r.state.fault tt) ∷ []

abbrev pub run : Reading → List Call → Reading
run r [] = r
run r (c ∷ cs) = run (after r c) cs

abbrev pub answers : Reading → List Call → List Told
answers r [] = []
answers r (c ∷ cs) = tells r c ++ answers (after r c) cs

-- each byte as a piece of its own
abbrev pub single : List ℕ → List Call → List Call
single [] cs = cs
single (b ∷ piece) cs = Feeds (b ∷ []) ∷ single piece cs

abbrev pub singles : Call → List Call → List Call
singles (Feeds piece) cs = single piece cs
singles Starves cs = Starves ∷ cs
singles Hands cs = Hands ∷ cs
singles Takes cs = Takes ∷ cs
singles (Opens fields last) cs = Opens fields last ∷ cs
singles (Sends id piece last) cs = Sends id piece last ∷ cs
singles (Resets id code) cs = Resets id code ∷ cs

-- two runs with one such list differ in the cutting alone
abbrev pub bytewise : List Call → List Call
bytewise [] = []
bytewise (c ∷ cs) = singles c (bytewise cs)

-- two runs answer the same and leave the same
pub record SameRuns (r : Reading) (a b : List Call) : Type 0 where
  pub answers : answers r a ≡ answers r b
  pub after : run r a ≡ run r b

-- the frames that a call adds to the output
abbrev pub emitted : Reading → Call → List Out
emitted r (Feeds piece) = fed_outs r piece
emitted r Starves = []
emitted r Hands = []
emitted r Takes = all_credits r.state
emitted r (Opens fields last) = outs_unless (refusal r.state) (header_frames r.state fields last)
emitted r (Sends id piece last) = outs_unless r.state.fault (send_frames r.state id piece last)
emitted r (Resets id code) = outs_unless r.state.fault (reset_frame id code ∷ [])

abbrev pub all_emitted : Reading → List Call → List Out
all_emitted r [] = []
all_emitted r (c ∷ cs) = emitted r c ++ all_emitted (after r c) cs

-- what `take_output` answers
abbrev pub given : Reading → Call → List ℕ
given r (Feeds piece) = []
given r Starves = []
given r Hands = []
given r Takes = output r.state
given r (Opens fields last) = []
given r (Sends id piece last) = []
given r (Resets id code) = []

abbrev pub all_given : Reading → List Call → List ℕ
all_given r [] = []
all_given r (c ∷ cs) = given r c ++ all_given (after r c) cs
