-- A link with its connection, and a channel over a dial, as their users see them.
use Rattle.std.specs.Prelude.{◌≡◌, ℕ, Bool, false, ◌&&◌, List, [], ◌∷◌, ◌++◌, filter, Option, None, Some, is_none}
use Rattle.std.specs.List.{list_any}
use Rattle.rx_hpack.specs.Header.{Field}
use Rattle.rx_h2conn.specs.History.{Call, Opens, run}
use Rattle.rx_h2conn.specs.Session.{Reading}
use Rattle.rx_h2conn.specs.Streams.{IsHeld}
use Rattle.rx_h2conn.specs.Open.{refusal, next_id}
use Rattle.rx_world.specs.Links.{Wire, Meets}
use Rattle.rx_grpc.specs.declared.open_call.OpenCall.{OpenCall}
use Rattle.rx_grpc.specs.Moves.{Moves, is_away, is_for}
use Rattle.rx_grpc.specs.Conversation.{Conversation, IsOpen}
use Rattle.rx_grpc.specs.Shown.{IsKept, IsOpenAt}

-- A streamed answer that is open: its stream, how many of its messages were handed out, and how many bytes it may take yet.
pub record Opened : Type 0 where
  pub id : ℕ
  pub place : ℕ
  pub room : ℕ

abbrev pub opened_by : OpenCall → Opened
opened_by o = record { id = o.call.id; place = o.call.place; room = o.room }

abbrev pub opened_of : Option OpenCall → Option Opened
opened_of None = None
opened_of (Some o) = Some (opened_by o)

pub record TransportOf (L : Type 0) : Type 0 where
  pub link : L
  pub conn : Reading
  pub alive : Bool  -- another call can be made on it
  pub opened : Option Opened
  pub call : Option OpenCall  -- the same, with all that it keeps
  pub text : List ℕ  -- that came with the status of the last answer, as far as that was heard
  pub details : Option (List ℕ)  -- and the details that came with it, as they were sent

-- a stream can be opened
abbrev pub takes : {L : Type 0} → TransportOf L → Bool
takes t = t.alive && is_none (refusal t.conn.state)

-- another call can be made, and the stream of the last one can be given up
pub record IsReady (wire : Option Wire) (rule : List ℕ → List ℕ → Type 0) (ended : Bool) (conn : Reading) (unfinished : Option ℕ) : Type 0 where
  pub kept : IsKept wire rule ended conn
  pub left : IsOpenAt unfinished conn.state

-- a streamed answer is open, or none
abbrev pub IsOpenOr : Option Wire → (List ℕ → List ℕ → Type 0) → Bool → Reading → Option OpenCall → Type 0
IsOpenOr wire rule ended conn None = Unit {0}
IsOpenOr wire rule ended conn (Some o) = IsOpen wire rule ended conn o

-- A stream was opened on a connection that broke no rule, and nothing was told of it.
pub record IsStarted (wire : Option Wire) (rule : List ℕ → List ℕ → Type 0) (ended : Bool) (conn : Reading) (id : ℕ) : Type 0 where
  pub fault : conn.state.fault ≡ None
  pub empty : conn.state.events ≡ []
  pub going : ended ≡ false
  pub held : IsHeld conn.state id false
  pub met : Meets wire rule
  pub talk : Conversation wire rule conn
  pub silent : filter (is_for id) talk.handed ≡ []
  pub stays : list_any is_away talk.handed ≡ false

-- a stream was given up, where one was open
pub record GivesUp (old new : Reading) : Type 0 where
  pub moves : Moves old new [] [] []
  pub fault : new.state.fault ≡ None
  pub events : new.state.events ≡ old.state.events
  pub refusal : refusal new.state ≡ refusal old.state
  pub next : next_id new.state ≡ next_id old.state

-- the next stream was opened by these fields, after some other calls
pub record OpensStream (old new : Reading) (fields : List Field) (id : ℕ) : Type 0 where
  pub moves : Moves old new [] [] []
  pub before : List Call
  pub calls_are : moves.calls ≡ before ++ Opens fields false ∷ []
  pub free : refusal (run old before).state ≡ None
  pub stream : id ≡ next_id (run old before).state
  pub fault : new.state.fault ≡ None
  pub events : new.state.events ≡ old.state.events
  pub held : IsHeld new.state id false
  pub next : id ≡ next_id old.state
