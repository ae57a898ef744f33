-- What the bytes sent carry of a request.
use Rattle.std.specs.Prelude.{◌≡◌, ℕ, Bool, true, false, ◌&&◌, ◌==◌, List, [], ◌∷◌, ◌++◌, filter, length, Option, None, Some}
use Rattle.std.specs.List.{list_any}
use Rattle.rx_hpack.specs.Header.{Field}
use Rattle.rx_h2frame.specs.declared.kind.Kind.{Kind}
use Rattle.rx_h2frame.specs.declared.kind.Kind.TheVariants.{Data, Headers}
use Rattle.rx_h2frame.specs.Flags.{is_set}
use Rattle.rx_h2frame.specs.Write.{Out}
use Rattle.rx_h2conn.specs.Session.{Reading}
use Rattle.rx_h2conn.specs.State.{Extends}
use Rattle.rx_h2conn.specs.Streams.{stream_at}
use Rattle.rx_h2conn.specs.declared.settings.SizeUpdate.{SizeUpdate}
use Rattle.rx_h2conn.specs.Blocks.{block_on}
use Rattle.rx_h2conn.specs.Carried.{bytes_on}
use Rattle.rx_h2conn.specs.Conn.{started}
use Rattle.rx_h2conn.specs.Emitted.{bytes_of}
use Rattle.rx_h2conn.specs.History.{Call, Opens, run, all_emitted}
use Rattle.rx_h2conn.specs.Open.{header_block, next_id, refusal}
use Rattle.rx_world.specs.Links.{Wire}
use Rattle.rx_grpc.specs.declared.open_call.OpenCall.{OpenCall}
use Rattle.rx_grpc.specs.declared.stream_item.StreamItem.{StreamItem}
use Rattle.rx_grpc.specs.declared.stream_item.StreamItem.TheVariants.{Message}
use Rattle.rx_grpc.specs.Item.{is_message, item_behind}
use Rattle.rx_grpc.specs.Framing.{framed}
use Rattle.rx_grpc.specs.Heard.{Heard, nothing, heard}
use Rattle.rx_grpc.specs.Uses.{events_at}
use Rattle.rx_grpc.specs.Moves.{Moves, is_away, is_for}
use Rattle.rx_grpc.specs.Conversation.{CallHears, Conversation, Tells}
use Rattle.rx_grpc.specs.Request.{RequestOf}
use Rattle.rx_grpc.specs.Shown.{shown}
use Rattle.rx_grpc.specs.Transport.{TransportOf}

-- ---- the frames of a call

-- a frame that ends its stream (RFC 9113 6.1, 6.2: END_STREAM)
abbrev pub can_end : Kind → Bool
can_end Data = true
can_end Headers = true
can_end _ = false

abbrev pub ends_stream : ℕ → Out → Bool
ends_stream id o = can_end o.kind && ((o.stream == id) && is_set o.flags 1)

abbrev pub is_ended : ℕ → List Out → Bool
is_ended id outs = list_any (ends_stream id) outs

-- A call as the bytes of a link have it. What was sent, with what waits to be sent, is the preface with the settings, and frames.
-- The header block on the stream is that of the fields, and its DATA is a front of the framed messages: all of them where the
-- stream's end is among the frames. What was received tells the answer. (RFC 9113 3.4, 4.3, 6.1)
pub record IsCall (sent waiting received : List ℕ) (id : ℕ) (fields : List Field) (messages : List (List ℕ)) (answer : Heard) : Type 0 where
  pub outs : List Out
  pub update : SizeUpdate
  pub frames : sent ++ waiting ≡ started.state.queued ++ bytes_of outs
  pub headers : block_on id outs ≡ header_block update fields
  pub body : Extends (bytes_on id outs) (framed messages)
  pub whole : is_ended id outs ≡ true → bytes_on id outs ≡ framed messages
  pub told : answer ≡ heard nothing (events_at id received)

-- The link carried such a call, and what it received shows this answer, or this item of it behind the messages that were given.
pub record IsAnswered {A : Type 0} (look : Bool → Heard → Option A) (wire : Option Wire) (rule : List ℕ → List ℕ → Type 0) (ended : Bool) (conn : Reading) (id : ℕ) (fields : List Field) (messages given : List (List ℕ)) (answer : A) : Type 0 where
  pub talk : Conversation wire rule conn
  pub shows : shown look ended id talk.received ≡ Some answer
  pub front : Extends given (heard nothing (events_at id talk.received)).messages
  pub call : IsCall talk.sent conn.state.queued talk.received id fields messages (heard nothing (events_at id talk.received))

-- ---- a call that goes on

-- These calls opened the stream by the fields, and put into its DATA all of the framed messages but some bytes that are left;
-- the stream's end only behind all of them.
pub record Asks (calls : List Call) (id : ℕ) (fields : List Field) (messages : List (List ℕ)) (left : List ℕ) : Type 0 where
  pub before : List Call
  pub later : List Call
  pub calls_are : calls ≡ before ++ Opens fields false ∷ later
  pub free : refusal (run started before).state ≡ None
  pub stream : id ≡ next_id (run started before).state
  pub body : bytes_on id (all_emitted started calls) ++ left ≡ framed messages
  pub whole : is_ended id (all_emitted started calls) ≡ true → left ≡ []

-- A stream was opened by these fields. Nothing was told of it yet, and nothing sent on it.
pub record IsAsked (wire : Option Wire) (rule : List ℕ → List ℕ → Type 0) (conn : Reading) (id : ℕ) (fields : List Field) : Type 0 where
  pub talk : Conversation wire rule conn
  pub silent : filter (is_for id) talk.handed ≡ []
  pub stays : list_any is_away talk.handed ≡ false
  pub asks : (messages : List (List ℕ)) → Asks talk.moves.calls id fields messages (framed messages)

-- what a request has yet to send are these messages: the rest of the one that is sent now, and those that come
pub record IsToSend (request : RequestOf) (coming messages : List (List ℕ)) : Type 0 where
  pub rest : request.left ++ framed coming ≡ framed messages
  pub last : request.last ≡ true → coming ≡ []

-- An open call has heard what came, and handed out the messages that were given. It has put all that it asks but some bytes into
-- the frames of its stream. Unless the server has reset it, these are what the request has left and the messages that come.
pub record IsAsking (wire : Option Wire) (rule : List ℕ → List ℕ → Type 0) (conn : Reading) (o : OpenCall) (coming : List (List ℕ)) (fields : List Field) (messages given : List (List ℕ)) : Type 0 where
  pub hears : CallHears wire rule conn o.call
  pub given_is : hears.given ≡ given
  pub unsent : List ℕ
  pub asks : Asks hears.talk.moves.calls o.call.id fields messages unsent
  pub rest : (stream_at conn.state o.call.id).server_reset ≡ false → unsent ≡ o.request.left ++ framed coming
  pub last : o.request.last ≡ true → coming ≡ []

-- a message is handed out
abbrev pub given_after : StreamItem → List (List ℕ) → List (List ℕ)
given_after (Message message) given = given ++ message ∷ []
given_after _ given = given

-- each call that went on so before goes on so now
abbrev pub StillAsks :
    Option Wire → Option Wire → (List ℕ → List ℕ → Type 0) → (List ℕ → List ℕ → Type 0) → Reading → Reading → OpenCall → OpenCall
    → List (List ℕ) → List (List ℕ) → Type 0
StillAsks w n r m c d old new coming left =
    (fields : List Field) (messages given : List (List ℕ)) → IsAsking w r c old coming fields messages given → IsAsking n m d new left fields messages given

-- each call that went on so before goes on so behind an item that it handed out
abbrev pub Handing :
    Option Wire → Option Wire → (List ℕ → List ℕ → Type 0) → (List ℕ → List ℕ → Type 0) → Reading → Reading → OpenCall → OpenCall
    → StreamItem → Type 0
Handing w n r m c d old new item =
    (fields : List Field) (messages given : List (List ℕ)) → IsAsking w r c old [] fields messages given → IsAsking n m d new [] fields messages (given_after item given)

-- each call that went on so before has this answer now
abbrev pub Concludes :
    {A : Type 0} → (Bool → Heard → Option A) → Option Wire → Option Wire → (List ℕ → List ℕ → Type 0) → (List ℕ → List ℕ → Type 0)
    → Bool → Reading → Reading → OpenCall → List (List ℕ) → A → Type 0
Concludes look w n r m ended c d old coming answer =
    (fields : List Field) (messages given : List (List ℕ)) → IsAsking w r c old coming fields messages given → IsAnswered look n m ended d old.call.id fields messages given answer

-- What was given of a request: nothing on a stream that the server has reset, and the stream's end only with the last byte.
pub record Pushes (old new : Reading) (id : ℕ) (before now : RequestOf) : Type 0 where
  pub moves : Moves old new [] [] []
  pub left : (stream_at old.state id).server_reset ≡ false → before.left ≡ bytes_on id (all_emitted old moves.calls) ++ now.left
  pub none : (stream_at old.state id).server_reset ≡ true → bytes_on id (all_emitted old moves.calls) ≡ []
  pub over : is_ended id (all_emitted old moves.calls) ≡ true → ((stream_at old.state id).server_reset ≡ false) × ((before.last ≡ true) × (now.left ≡ []))
  pub gone : (stream_at old.state id).server_reset ≡ true → (stream_at new.state id).server_reset ≡ true
  pub last : now.last ≡ before.last

-- ---- on a channel

-- What was sent, with what waits to be sent, is the preface with the settings, and frames whose header block on the stream is
-- that of these fields (RFC 9113 3.4, 4.3).
pub record SendsHeaders (wire : Option Wire) (conn : Reading) (id : ℕ) (fields : List Field) : Type 0 where
  pub sent : List ℕ
  pub received : List ℕ
  pub outs : List Out
  pub update : SizeUpdate
  pub tells : Tells wire sent received
  pub frames : sent ++ conn.state.queued ≡ started.state.queued ++ bytes_of outs
  pub headers : block_on id outs ≡ header_block update fields

abbrev pub AskedOn : {L : Type 0} → (L → Option Wire) → (L → List ℕ → List ℕ → Type 0) → Option (TransportOf L) → List Field → ℕ → Type 0
AskedOn wire rule None fields id = ⊥
AskedOn wire rule (Some t) fields id = IsAsked (wire t.link) (rule t.link) t.conn id fields

abbrev pub SendsOn : {L : Type 0} → (L → Option Wire) → Option (TransportOf L) → ℕ → List Field → Type 0
SendsOn wire None id fields = ⊥
SendsOn wire (Some t) id fields = SendsHeaders (wire t.link) t.conn id fields

abbrev pub AsksBy : Option Wire → (List ℕ → List ℕ → Type 0) → Reading → Option OpenCall → ℕ → List Field → List (List ℕ) → List (List ℕ) → Type 0
AsksBy wire rule conn None id fields messages given = ⊥
AsksBy wire rule conn (Some o) id fields messages given = (o.call.id ≡ id) × IsAsking wire rule conn o [] fields messages given

-- the call that is open on it is this one
abbrev pub AsksOn : {L : Type 0} → (L → Option Wire) → (L → List ℕ → List ℕ → Type 0) → Option (TransportOf L) → ℕ → List Field → List (List ℕ) → List (List ℕ) → Type 0
AsksOn wire rule None id fields messages given = ⊥
AsksOn wire rule (Some t) id fields messages given = AsksBy (wire t.link) (rule t.link) t.conn t.call id fields messages given

-- Each call that was open so was carried with this item behind the messages that were given, and is open so behind a message.
abbrev pub NextAsks : {L : Type 0} → (L → Option Wire) → (L → List ℕ → List ℕ → Type 0) → (L → Bool) → TransportOf L → TransportOf L → StreamItem → Type 0
NextAsks wire rule ended old new item =
    (id : ℕ) (fields : List Field) (messages given : List (List ℕ)) → AsksBy (wire old.link) (rule old.link) old.conn old.call id fields messages given
    → IsAnswered (item_behind (length given)) (wire new.link) (rule new.link) (ended new.link) new.conn id fields messages given item
    × (is_message item ≡ true → AsksBy (wire new.link) (rule new.link) new.conn new.call id fields messages (given_after item given))

abbrev pub NextAsksOn :
    {L : Type 0} → (L → Option Wire) → (L → List ℕ → List ℕ → Type 0) → (L → Bool)
    → Option (TransportOf L) → Option (TransportOf L) → StreamItem → Type 0
NextAsksOn wire rule ended None new item = ⊥
NextAsksOn wire rule ended (Some t) None item = ⊥
NextAsksOn wire rule ended (Some t) (Some u) item = NextAsks wire rule ended t u item

-- its link carried this call with this answer
abbrev pub AnsweredOn :
    {A L : Type 0} → (Bool → Heard → Option A) → (L → Option Wire) → (L → List ℕ → List ℕ → Type 0) → (L → Bool)
    → Option (TransportOf L) → ℕ → List Field → List (List ℕ) → List (List ℕ) → A → Type 0
AnsweredOn look wire rule ended None id fields messages given answer = ⊥
AnsweredOn look wire rule ended (Some t) id fields messages given answer =
    IsAnswered look (wire t.link) (rule t.link) (ended t.link) t.conn id fields messages given answer
