-- What a connection knows, apart from where it lies in memory.
use Rattle.std.specs.Prelude.{ℕ, Bool, List, Option}
use Rattle.rx_hpack.specs.Header.{Field}
use Rattle.rx_hpack.specs.Decoder.{State}
use Rattle.rx_h2conn.specs.declared.fault.ConnFault.{ConnFault}
use Rattle.rx_h2conn.specs.declared.settings.SizeUpdate.{SizeUpdate}
use Rattle.rx_h2conn.specs.declared.stream.Stream.{Stream}

pub data Event : Type 0 where
  Headers : ℕ → List Field → Bool → Event
  Bytes : ℕ → List ℕ → Bool → Event
  Reset : ℕ → ℕ → Event
  Gone : ℕ → Event

-- an event that wasn't handed out, with the credit that is owed on its stream once it is; 0 is the connection
pub record Queued : Type 0 where
  pub event : Event
  pub stream : ℕ
  pub credit : ℕ

-- the front of a header block, of HEADERS and so many CONTINUATION frames
pub record Block : Type 0 where
  pub stream : ℕ
  pub last : Bool
  pub block : List ℕ
  pub count : ℕ

pub record Session : Type 0 where
  pub fault : Option ConnFault
  pub streams : List Stream  -- the one at k is the stream 2k + 1
  pub send : ℕ  -- what may still be sent on the connection
  pub initial : ℕ  -- the window of a new stream, by the server's settings
  pub receive : ℕ  -- what the server may still send on the connection
  pub owed : ℕ  -- credit that wasn't told yet
  pub acks : ℕ  -- acknowledgements that are queued
  pub gone : Option ℕ  -- the last stream of the first GOAWAY
  pub size_update : SizeUpdate  -- whether the next header block that is sent begins with a size update
  pub decoder : State  -- of the header blocks that come in
  pub sequence : Option Block  -- a header block that hasn't ended
  pub events : List Queued
  pub queued : List ℕ  -- bytes that wait to be sent

-- with the bytes fed since the last whole frame
pub record Reading : Type 0 where
  pub state : Session
  pub rest : List ℕ
