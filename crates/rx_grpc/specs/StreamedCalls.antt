-- Streamed answers of a farm: their items as a client hears them, and what calls make of these (remote_execution.proto, Execute,
-- WaitExecution; google/bytestream/bytestream.proto, Read).
use Rattle.std.specs.Prelude.{◌≡◌, ℕ, true, false, List, [], ◌∷◌, ◌++◌, Option, None, Some, Result, Ok, Err, IfErr, IfOk, OnOk}
use Rattle.std.specs.Option.{option_map_or}
use Rattle.rx_base.specs.Results.{◌>>=◌}
use Rattle.rx_codec.specs.Decoding.{any_form, decoded}
use Rattle.rx_exec_messages.specs.Streams.{read_response_from, read_response_parts}
use Rattle.rx_exec_messages.specs.declared.answers.Operation.{Operation}
use Rattle.rx_exec_messages.specs.declared.state_faults.StateFault.{StateFault}
use Rattle.rx_exec_messages.specs.declared.streams.ReadResponse.{ReadResponse}
use Rattle.rx_world.specs.declared.call_faults.CallFault.{CallFault}
use Rattle.rx_world.specs.declared.call_faults.CallFault.TheVariants as Faults
use Rattle.rx_world.specs.declared.links.Link as links
use Rattle.rx_grpc.specs.declared.stream_item.StreamItem.{StreamItem}
use Rattle.rx_grpc.specs.declared.stream_item.StreamItem.TheVariants as StreamItems
use Rattle.rx_grpc.specs.declared.transfer_fault.TransferFault.{TransferFault}
use Rattle.rx_grpc.specs.Channel.{ChannelOf, HasCauseOn, IsRuled, Keeps, Stops, stream_for}
use Rattle.rx_grpc.specs.Operations.{by_stream, operation_by}
use Rattle.rx_grpc.specs.Questions.{Asked}
use Rattle.rx_grpc.specs.Replies.{failed, read}
use Rattle.rx_grpc.specs.Request.{request_fields}
use Rattle.rx_grpc.specs.Sent.{AsksOn, NextAsksOn}
use Rattle.rx_grpc.specs.Streamed.{Begins, NextCause, NextFailsOn, NextsOn}

-- an item, or why there is none
abbrev pub Came : Type 0
Came = Result StreamItem TransferFault

abbrev pub came_of : List ℕ → Came
came_of message = Ok (StreamItems.Message message)

-- ---- what the channel did

-- The answer that is open went on so, as the bytes of its link show.
pub record GoesOn {D L : Type 0} (dial_rule : D → List ℕ → List ℕ → Type 0) (link : links.Ghosts L) (old new : ChannelOf D L) (came : Came) : Type 0 where
  pub shown : IfOk came (NextsOn link.wire link.rule link.ended old.transport new.transport)
  pub asks : IfOk came (NextAsksOn link.wire link.rule link.ended old.transport new.transport)
  pub fails : IfErr came (NextFailsOn link.wire link.rule old.transport new.transport)
  pub stops : IfErr came (Stops new.transport)
  pub cause : NextCause link.faults old.transport new.transport came
  pub keeps : Keeps dial_rule old new
  pub ruled : IsRuled (dial_rule new.dial) link.rule new.transport

-- several times
abbrev pub GoesOnBy : {D L : Type 0} → (D → List ℕ → List ℕ → Type 0) → links.Ghosts L → ChannelOf D L → ChannelOf D L → List Came → Type 0
GoesOnBy dial_rule link old new [] = new ≡ old
GoesOnBy {D} {L} dial_rule link old new (came ∷ more) = (mid : ChannelOf D L) × GoesOn dial_rule link old mid came × GoesOnBy dial_rule link mid new more

-- A call with a streamed answer was begun, which asks this.
pub record IsBegun {D L : Type 0} (dial_faults : D → ℕ) (dial_rule : D → List ℕ → List ℕ → Type 0) (link : links.Ghosts L) (asked : Asked) (old new : ChannelOf D L) (begun : Result (Unit {0}) TransferFault) : Type 0 where
  pub begins : OnOk begun (Begins link.wire old.transport new.transport)
  pub asks : OnOk begun (AsksOn link.wire link.rule new.transport (stream_for old.transport) (request_fields asked.path old.authority) asked.messages [])
  pub stops : IfErr begun (Stops new.transport)
  pub cause : HasCauseOn (dial_faults old.dial) (dial_faults new.dial) link.faults old.transport new.transport begun
  pub keeps : Keeps dial_rule old new
  pub ruled : OnOk begun (IsRuled (dial_rule new.dial) link.rule new.transport)

-- A call was begun, its answer went on so, and the result is such; where it couldn't be begun nothing came.
pub record HearsItems {D L : Type 0} (dial_faults : D → ℕ) (dial_rule : D → List ℕ → List ℕ → Type 0) (link : links.Ghosts L) (asked : Asked) (old new : ChannelOf D L) (IsSuch : Result (Unit {0}) TransferFault → List Came → Type 0) : Type 0 where
  pub begun : Result (Unit {0}) TransferFault
  pub opened : ChannelOf D L
  pub is_begun : IsBegun dial_faults dial_rule link asked old opened begun
  pub items : List Came
  pub goes_on : GoesOnBy dial_rule link opened new items
  pub is_such : IsSuch begun items

-- the answer that is open went on so, and the result is such
pub record HearsAll {D L : Type 0} (dial_rule : D → List ℕ → List ℕ → Type 0) (link : links.Ghosts L) (old new : ChannelOf D L) (IsSuch : List Came → Type 0) : Type 0 where
  pub items : List Came
  pub goes_on : GoesOnBy dial_rule link old new items
  pub is_such : IsSuch items

-- ---- an execution

-- the next message; an end before the operation is done cuts it
abbrev pub message_of : Came → Result (List ℕ) CallFault
message_of (Ok (StreamItems.Message message)) = Ok message
message_of (Ok (StreamItems.Success cut)) = Err Faults.Cut
message_of (Ok (StreamItems.Status code)) = Err (Faults.Status code)
message_of (Ok StreamItems.Compressed) = Err Faults.Compressed
message_of (Ok StreamItems.TooLarge) = Err Faults.TooLarge
message_of (Ok StreamItems.NoStatus) = Err Faults.NoStatus
message_of (Ok StreamItems.LinkEnd) = Err Faults.Cut
message_of (Err fault) = Err (failed fault)

-- what was heard first of an execution; where nothing came, memory was wanting
abbrev pub first_of : Result (Unit {0}) TransferFault → List Came → Result (List ℕ) CallFault
first_of (Err fault) items = Err (failed fault)
first_of (Ok x) [] = Err Faults.NoMemory
first_of (Ok x) (came ∷ items) = message_of came

-- the next message of an answer that is open
pub record HearsMessage {D L : Type 0} (dial_rule : D → List ℕ → List ℕ → Type 0) (link : links.Ghosts L) (old new : ChannelOf D L) (IsSuch : Came → Type 0) : Type 0 where
  pub came : Came
  pub goes_on : GoesOn dial_rule link old new came
  pub is_such : IsSuch came

abbrev pub kept_of : Result (Unit {0}) TransferFault → List Came → Result (Option (List ℕ)) CallFault
kept_of begun items = first_of begun items >>= (λ message. Ok (Some message))

-- The next state is told by the message that was kept, or by the next one.
abbrev pub HearsState : {D L : Type 0} → (D → List ℕ → List ℕ → Type 0) → links.Ghosts L → Option (List ℕ) → ChannelOf D L → ChannelOf D L → (Result (List ℕ) CallFault → Type 0) → Type 0
HearsState dial_rule link (Some message) old new IsSuch = (new ≡ old) × IsSuch (Ok message)
HearsState dial_rule link None old new IsSuch = HearsMessage dial_rule link old new (λ came. IsSuch (message_of came))

abbrev pub state_of : Result (List ℕ) CallFault → Result Operation StateFault
state_of message = by_stream message >>= operation_by

-- ---- the bytes of a blob

-- a message adds its bytes, and more follows; or the blob is whole
abbrev pub taken : List ℕ → Came → Result (Option (List ℕ)) CallFault
taken text (Ok (StreamItems.Message message)) =
    read (decoded read_response_parts read_response_from any_form message) >>= (λ (x : ReadResponse). Ok (Some (text ++ x.body)))
taken text (Ok (StreamItems.Success false)) = Ok None
taken text (Ok (StreamItems.Success true)) = Err (Faults.BadMessage 0)
taken text (Ok (StreamItems.Status code)) = Err (Faults.Status code)
taken text (Ok StreamItems.Compressed) = Err Faults.Compressed
taken text (Ok StreamItems.TooLarge) = Err Faults.TooLarge
taken text (Ok StreamItems.NoStatus) = Err Faults.NoStatus
taken text (Ok StreamItems.LinkEnd) = Err Faults.NoStatus
taken text (Err fault) = Err (failed fault)

-- item after item; where no end came, memory was wanting
abbrev pub joined : List ℕ → List Came → Result (List ℕ) CallFault
joined text [] = Err Faults.NoMemory
joined text (came ∷ items) = taken text came >>= (λ (next : Option (List ℕ)). option_map_or (λ more. joined more items) next (Ok text))

abbrev pub joined_of : Result (Unit {0}) TransferFault → List Came → Result (List ℕ) CallFault
joined_of (Err fault) items = Err (failed fault)
joined_of (Ok x) items = joined [] items
