-- What a connection does with each frame and each byte.
use Rattle.std.specs.Prelude.{◌≡◌, ℕ, List, [], ◌∷◌, ◌++◌, Option, None, Some, Result, Ok, Err}
use Rattle.rx_h2frame.specs.declared.frame.FrameFault.{FrameFault}
use Rattle.rx_h2frame.specs.declared.frame.FrameFault.TheVariants.{FrameSize, BadPadding, BadStreamId}
use Rattle.rx_h2frame.specs.declared.kind.Kind.{Kind}
use Rattle.rx_h2frame.specs.declared.kind.Kind.TheVariants.{Data, Headers, Priority, ResetStream, Settings, PushPromise, Ping, GoAway, WindowUpdate, Continuation, Unknown}
use Rattle.rx_h2frame.specs.Frame.{Whole, Seen, Complete, Lacks, next}
use Rattle.rx_h2conn.specs.declared.fault.ConnFault.{ConnFault}
use Rattle.rx_h2conn.specs.declared.fault.ConnFault.TheVariants.{NoMemory}
use Rattle.rx_h2conn.specs.declared.settings.SizeUpdate.TheVariants.{NotAsked}
use Rattle.rx_h2conn.specs.Session.{Session, Reading, Queued, Event}
use Rattle.rx_h2conn.specs.Streams.{failed, passed}
use Rattle.rx_h2conn.specs.Data.{on_data, owe}
use Rattle.rx_hpack.specs.Decoder.{State, Ready}
use Rattle.rx_h2conn.specs.Headers.{on_headers, on_continuation}
use Rattle.rx_h2conn.specs.Ping.{on_ping}
use Rattle.rx_h2conn.specs.Settings.{on_settings}
use Rattle.rx_h2conn.specs.Ends.{on_reset, on_go_away}
use Rattle.rx_h2conn.specs.Updates.{on_window_update}

abbrev pub took_by : Kind → Session → Whole → Session
took_by Data s f = on_data s f
took_by Headers s f = on_headers s f
took_by Priority s f = passed s
took_by ResetStream s f = on_reset s f
took_by Settings s f = on_settings s f
took_by PushPromise s f = failed s 1
took_by Ping s f = on_ping s f
took_by GoAway s f = on_go_away s f
took_by WindowUpdate s f = on_window_update s f
took_by Continuation s f = on_continuation s f
took_by (Unknown byte) s f = passed s

abbrev pub took : Session → Whole → Session
took s f = took_by f.kind s f

-- the codes of frames that are refused by their header or their padding (RFC 9113 7)
abbrev pub code_of : FrameFault → ℕ
code_of FrameSize = 6
code_of BadPadding = 1
code_of BadStreamId = 1

abbrev pub judged : Reading → Result Seen FrameFault → Reading
judged r (Err e) = record { state = failed r.state (code_of e); rest = [] }
judged r (Ok (Lacks n)) = r
judged r (Ok (Complete f)) = record { state = took r.state f; rest = [] }

-- a whole frame is taken, and what is none is a broken rule
unfoldable pub settled : Reading → Reading
settled r = judged r (next 16384 r.rest)

abbrev pub more : Reading → List ℕ → Reading
more r bytes = record r { rest = r.rest ++ bytes }

abbrev pub unless_failed : Option ConnFault → Reading → Reading → Reading
unless_failed None r new = new
unless_failed (Some e) r new = r

-- one byte more: nothing counts after a fault
unfoldable pub byte : Reading → ℕ → Reading
byte r b = unless_failed r.state.fault r (settled (more r (b ∷ [])))

-- the bytes that the server sends, one after another
abbrev pub fed : Reading → List ℕ → Reading
fed r [] = r
fed r (b ∷ bytes) = fed (byte r b) bytes

-- a decoder with an empty dynamic table
abbrev pub blank_decoder : State
blank_decoder = Ready (record { entries = []; largest = 4096 })

-- A piece that was refused for memory counts as not fed: what was told and queued before it stays, and nothing else.
abbrev pub broken : Reading → Reading
broken r = record {
  state = record { fault = Some NoMemory; streams = []; send = 0; initial = 0; receive = 0; owed = 0; acks = 0; gone = None; size_update = NotAsked; decoder = blank_decoder; sequence = None; events = r.state.events; queued = r.state.queued };
  rest = [];
}

-- what `feed` leaves and answers, by the fault that the connection had
abbrev pub FeedsAt : Option ConnFault → Reading → List ℕ → Reading → Result (Unit {0}) ConnFault → Type 0
FeedsAt (Some e) old piece new r = (new ≡ old) × (r ≡ Err e)
FeedsAt None old piece new (Ok _) = (new ≡ fed old piece) × (new.state.fault ≡ None)
FeedsAt None old piece new (Err NoMemory) = new ≡ broken old
FeedsAt None old piece new (Err e) = (new ≡ fed old piece) × (new.state.fault ≡ Some e)

abbrev pub Feeds : Reading → List ℕ → Reading → Result (Unit {0}) ConnFault → Type 0
Feeds old piece new r = FeedsAt old.state.fault old piece new r

-- what `next_event` hands out and leaves
abbrev pub first : List Queued → Option Event
first [] = None
first (q ∷ qs) = Some q.event

abbrev pub handed : Session → List Queued → Session
handed s [] = s
handed s (q ∷ qs) = owe (record s { events = qs }) q.stream q.credit

abbrev pub after_event : Reading → Reading
after_event r = record r { state = handed r.state r.state.events }
