-- What received bytes show of a call, and how it ends.
use Rattle.std.specs.Prelude.{◌≡◌, ℕ, Bool, true, false, ◌&&◌, not, List, [], Option, None, Some, is_none}
use Rattle.std.specs.List.{list_any}
use Rattle.rx_h2conn.specs.declared.fault.ConnFault.TheVariants.{Protocol}
use Rattle.rx_h2conn.specs.Session.{Session, Reading}
use Rattle.rx_h2conn.specs.Streams.{is_open, stream_at}
use Rattle.rx_h2conn.specs.Conn.{started}
use Rattle.rx_h2conn.specs.Heard.{all_lawful}
use Rattle.rx_world.specs.Links.{Wire, Meets}
use Rattle.rx_grpc.specs.Heard.{Heard, nothing, heard}
use Rattle.rx_grpc.specs.Uses.{events_at}
use Rattle.rx_grpc.specs.Moves.{Carries, is_away}
use Rattle.rx_grpc.specs.Conversation.{Conversation}

-- The answer that bytes show at a stream, or an item of it: look tells what is shown of what was heard, and ended that nothing
-- more comes.
abbrev pub shown : {A : Type 0} → (Bool → Heard → Option A) → Bool → ℕ → List ℕ → Option A
shown look ended id bytes = look ended (heard nothing (events_at id bytes))

-- The bytes that the link received show this answer at the stream. So do those before the one with which the server broke a
-- rule, if it broke one; and where it is the link's end that shows it, it broke none.
pub record Shows {A : Type 0} (look : Bool → Heard → Option A) (wire : Option Wire) (rule : List ℕ → List ℕ → Type 0) (ended : Bool) (conn : Reading) (id : ℕ) (answer : A) : Type 0 where
  pub talk : Conversation wire rule conn
  pub whole : shown look ended id talk.received ≡ Some answer
  pub lawful : shown look ended id (all_lawful started talk.moves.calls) ≡ Some answer
  pub by_end : shown look false id (all_lawful started talk.moves.calls) ≡ None → conn.state.fault ≡ None

-- The bytes before the one with which the server broke a rule show no answer.
pub record Breaks {A : Type 0} (look : Bool → Heard → Option A) (wire : Option Wire) (rule : List ℕ → List ℕ → Type 0) (conn : Reading) (id code : ℕ) : Type 0 where
  pub talk : Conversation wire rule conn
  pub fault : conn.state.fault ≡ Some (Protocol code)
  pub none : shown look false id (all_lawful started talk.moves.calls) ≡ None

-- As many bytes as there was room for broke no rule and show no answer.
pub record Fills {A : Type 0} (look : Bool → Heard → Option A) (room : ℕ) (before now : Option Wire) (rule : List ℕ → List ℕ → Type 0) (conn : Reading) (id : ℕ) : Type 0 where
  pub first : Reading
  pub carries : Carries before now first conn room 0
  pub talk : Conversation now rule conn
  pub fault : conn.state.fault ≡ None
  pub none : shown look false id talk.received ≡ None

-- a connection that can take another call
pub record IsKept (wire : Option Wire) (rule : List ℕ → List ℕ → Type 0) (ended : Bool) (conn : Reading) : Type 0 where
  pub fault : conn.state.fault ≡ None
  pub empty : conn.state.events ≡ []
  pub going : ended ≡ false
  pub met : Meets wire rule
  pub talk : Conversation wire rule conn
  pub stays : list_any is_away talk.handed ≡ false

-- a stream that can be given up
abbrev pub IsOpenAt : Option ℕ → Session → Type 0
IsOpenAt None s = Unit {0}
IsOpenAt (Some id) s = (is_open s id ≡ true) × ((stream_at s id).client_reset ≡ false)

-- An answer is shown. The connection can take another call exactly where it broke no rule and its link hasn't ended, and no
-- GOAWAY was handed out.
pub record IsOver {A : Type 0} (look : Bool → Heard → Option A) (wire : Option Wire) (rule : List ℕ → List ℕ → Type 0) (ended : Bool) (conn : Reading) (id : ℕ) (alive : Bool) (answer : A) : Type 0 where
  pub shows : Shows look wire rule ended conn id answer
  pub kept : alive ≡ true → IsKept wire rule ended conn
  pub opened : IsOpenAt (Some id) conn.state
  pub alive_is : alive ≡ (is_none conn.state.fault && (not ended && not (list_any is_away shows.talk.handed)))
