-- A streamed answer on a channel: it is begun, and then handed out item by item.
use Rattle.std.specs.Prelude.{◌≡◌, ◌⊎◌, ◌≤◌, ℕ, ◌+◌, Bool, false, List, Option, None, Some, is_some, if◌then◌else◌, Result}
use Rattle.rx_world.specs.Causes.{HasCauseOf}
use Rattle.rx_world.specs.Links.{Wire}
use Rattle.rx_grpc.specs.declared.stream_item.StreamItem.{StreamItem}
use Rattle.rx_grpc.specs.declared.transfer_fault.TransferFault.{TransferFault}
use Rattle.rx_grpc.specs.declared.transfer_fault.TransferFault.TheVariants.{Link, Protocol, NoMemory}
use Rattle.rx_h2conn.specs.Session.{Reading}
use Rattle.rx_grpc.specs.declared.open_call.OpenCall.{OpenCall}
use Rattle.rx_grpc.specs.Conversation.{IsOpen, alive_of}
use Rattle.rx_grpc.specs.Channel.{stream_for, wire_before}
use Rattle.rx_grpc.specs.Item.{item_behind, is_message, place_after}
use Rattle.rx_grpc.specs.Moves.{Carries}
use Rattle.rx_grpc.specs.Shown.{Breaks, Fills, IsOver}
use Rattle.rx_grpc.specs.Transport.{TransportOf, Opened}

-- a streamed answer is open
abbrev pub is_answering : {L : Type 0} → Option (TransportOf L) → Bool
is_answering None = false
is_answering (Some t) = is_some t.opened

-- The answer is open at the stream of the call, and the link has carried nothing of it.
abbrev pub Begins : {L : Type 0} → (L → Option Wire) → Option (TransportOf L) → Option (TransportOf L) → Type 0
Begins wire old None = ⊥
Begins wire old (Some t) = (t.opened ≡ Some (record { id = stream_for old; place = 0; room = 268435456 })) × (wire t.link ≡ wire_before wire old (wire t.link))

-- behind a message the answer stays open, with so much less room
abbrev pub opened_after : StreamItem → Opened → ℕ → Option Opened
opened_after item o room = if is_message item then Some (record { id = o.id; place = o.place + 1; room = room }) else None

-- An item of an open call was handed out, and the call is open behind it.
pub record Hands (before now : Option Wire) (rule : List ℕ → List ℕ → Type 0) (ended : Bool) (first conn : Reading) (old new : OpenCall) (item : StreamItem) : Type 0 where
  pub over : IsOver (item_behind old.call.place) now rule ended conn old.call.id (alive_of new) item
  pub carries : Carries before now first conn old.room new.room
  pub open_still : IsOpen now rule ended conn new
  pub id : new.call.id ≡ old.call.id
  pub place : new.call.place ≡ place_after (Some item) old.call.place

-- The answer's stream shows this item behind those that were handed out.
pub record IsNext {L : Type 0} (wire : L → Option Wire) (rule : L → List ℕ → List ℕ → Type 0) (ended : L → Bool) (o : Opened) (old new : TransportOf L) (item : StreamItem) : Type 0 where
  pub over : IsOver (item_behind o.place) (wire new.link) (rule new.link) (ended new.link) new.conn o.id new.alive item
  pub room : ℕ
  pub carries : Carries (wire old.link) (wire new.link) old.conn new.conn o.room room
  pub rest : new.opened ≡ opened_after item o room

abbrev pub Nexts :
    {L : Type 0} → (L → Option Wire) → (L → List ℕ → List ℕ → Type 0) → (L → Bool)
    → Option Opened → TransportOf L → TransportOf L → StreamItem → Type 0
Nexts wire rule ended None old new item = ⊥
Nexts wire rule ended (Some o) old new item = IsNext wire rule ended o old new item

abbrev pub NextsOn :
    {L : Type 0} → (L → Option Wire) → (L → List ℕ → List ℕ → Type 0) → (L → Bool)
    → Option (TransportOf L) → Option (TransportOf L) → StreamItem → Type 0
NextsOn wire rule ended None new item = ⊥
NextsOn wire rule ended (Some t) None item = ⊥
NextsOn wire rule ended (Some t) (Some u) item = Nexts wire rule ended t.opened t u item

-- As `FaultIs`. Code 11 stands also for as many messages as 268,435,456 bytes can hold: each has five bytes at least.
abbrev pub NextFault : Opened → TransferFault → Option Wire → Option Wire → (List ℕ → List ℕ → Type 0) → Reading → Type 0
NextFault o (Protocol code) before now rule conn =
    Breaks (item_behind o.place) now rule conn o.id code
    ⊎ ((code ≡ 11) × (Fills (item_behind o.place) o.room before now rule conn o.id ⊎ (53687091 ≤ o.place)))
NextFault o Link before now rule conn = Unit {0}
NextFault o NoMemory before now rule conn = Unit {0}

abbrev pub NextFails :
    {L : Type 0} → (L → Option Wire) → (L → List ℕ → List ℕ → Type 0)
    → Option Opened → TransportOf L → TransportOf L → TransferFault → Type 0
NextFails wire rule None old new fault = ⊥
NextFails wire rule (Some o) old new fault = NextFault o fault (wire old.link) (wire new.link) (rule new.link) new.conn

abbrev pub NextFailsOn :
    {L : Type 0} → (L → Option Wire) → (L → List ℕ → List ℕ → Type 0)
    → Option (TransportOf L) → Option (TransportOf L) → TransferFault → Type 0
NextFailsOn wire rule None new fault = ⊥
NextFailsOn wire rule (Some t) None fault = ⊥
NextFailsOn wire rule (Some t) (Some u) fault = NextFails wire rule t.opened t u fault

-- the count of the link rose, where the link failed
abbrev pub NextCause : {L T : Type 0} → (L → ℕ) → Option (TransportOf L) → Option (TransportOf L) → Result T TransferFault → Type 0
NextCause faults None new result = ⊥
NextCause faults (Some t) None result = ⊥
NextCause faults (Some t) (Some u) result = HasCauseOf Link (faults t.link) (faults u.link) result
