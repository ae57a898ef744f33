-- What a connection and its link told each other, and what a call has heard of it.
use Rattle.std.specs.Prelude.{◌≡◌, ℕ, Bool, true, false, ◌||◌, ◌&&◌, not, List, [], filter, length, Option, None, Some}
use Rattle.std.specs.List.{list_all, list_any}
use Rattle.rx_h2conn.specs.Session.{Event, Reading}
use Rattle.rx_h2conn.specs.Conn.{started}
use Rattle.rx_h2conn.specs.Streams.{IsHeld, KeepsHeld}
use Rattle.rx_world.specs.Links.{Wire, Meets}
use Rattle.rx_grpc.specs.declared.call.Call.{Call}
use Rattle.rx_grpc.specs.declared.open_call.OpenCall.{OpenCall}
use Rattle.rx_grpc.specs.Came.{CameBy, is_piece}
use Rattle.rx_grpc.specs.Heard.{nothing, heard}
use Rattle.rx_grpc.specs.Uses.{front}
use Rattle.rx_grpc.specs.Moves.{Moves, is_away, is_for, is_quiet}

-- where the link tells its bytes, they are these
abbrev pub Tells : Option Wire → List ℕ → List ℕ → Type 0
Tells None sent received = Unit {0}
Tells (Some wire) sent received = wire ≡ record { sent = sent; received = received }

-- From a new connection some calls led to this one: their output is what the link sent, and their input what it received.
pub record Conversation (wire : Option Wire) (rule : List ℕ → List ℕ → Type 0) (conn : Reading) : Type 0 where
  pub sent : List ℕ
  pub received : List ℕ
  pub handed : List Event
  pub moves : Moves started conn sent received handed
  pub tells : Tells wire sent received
  pub meets : rule sent received

-- A call has heard the events of its stream among all that were handed out, and has handed out so many messages of these.
pub record CallHears (wire : Option Wire) (rule : List ℕ → List ℕ → Type 0) (conn : Reading) (call : Call) : Type 0 where
  pub talk : Conversation wire rule conn
  pub given : List (List ℕ)
  pub count : length given ≡ call.place
  pub heard_is : front given call.answers ≡ heard nothing (filter (is_for call.id) talk.handed)
  pub away_is : call.away ≡ list_any is_away talk.handed

-- A call is open. What came last, and whether all of its request was sent, tells how the link and the connection stand.
pub record IsOpen (wire : Option Wire) (rule : List ℕ → List ℕ → Type 0) (ended : Bool) (conn : Reading) (o : OpenCall) : Type 0 where
  pub hears : CallHears wire rule conn o.call
  pub held : IsHeld conn.state o.call.id o.request.done
  pub empty : conn.state.events ≡ []
  pub met : Meets wire rule
  pub came : CameBy o.came false ended conn

-- all events that waited were handed out, those of the stream to its reader
pub record Drains (old new : Reading) (before now : Call) : Type 0 where
  pub out : List Event
  pub moves : Moves old new [] [] out
  pub quiet : list_all is_quiet moves.calls ≡ true
  pub id : now.id ≡ before.id
  pub place : now.place ≡ before.place
  pub heard_is : now.answers ≡ heard before.answers (filter (is_for before.id) out)
  pub away_is : now.away ≡ (before.away || list_any is_away out)
  pub fault : new.state.fault ≡ old.state.fault
  pub held : KeepsHeld old.state new.state

-- its link and its connection can take another call
abbrev pub alive_of : OpenCall → Bool
alive_of o = is_piece o.came && not o.call.away

-- a part of the request was given, and nothing else changed
pub record Gives (old new : OpenCall) : Type 0 where
  pub id : new.call.id ≡ old.call.id
  pub answers : new.call.answers ≡ old.call.answers
  pub place : new.call.place ≡ old.call.place
  pub away : new.call.away ≡ old.call.away
  pub room : new.room ≡ old.room
  pub came : new.came ≡ old.came
