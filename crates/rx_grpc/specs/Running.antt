-- An execution that goes on, as it was asked.
use Rattle.std.specs.Prelude.{ℕ, List, [], ◌∷◌, Option, IfSome}
use Rattle.rx_world.specs.declared.links.Link as links
use Rattle.rx_grpc.specs.declared.caller.Begun.{Begun}
use Rattle.rx_grpc.specs.declared.stream_item.StreamItem.TheVariants.{Message}
use Rattle.rx_grpc.specs.Channel.{ChannelOf, IsRuled, Keeps}
use Rattle.rx_grpc.specs.Item.{item_behind}
use Rattle.rx_grpc.specs.Questions.{Asked, AsksBegun}
use Rattle.rx_grpc.specs.Request.{request_fields}
use Rattle.rx_grpc.specs.Sent.{AnsweredOn, AsksOn}

-- The link shows this as the first message of what was asked.
abbrev pub ShowsFirst : {D L : Type 0} → links.Ghosts L → ChannelOf D L → List ℕ → ℕ → Asked → List ℕ → Type 0
ShowsFirst link channel authority id asked message =
    AnsweredOn (item_behind 0) link.wire link.rule link.ended channel.transport id (request_fields asked.path authority) asked.messages [] (Message message)

-- A call that asks this is open behind its first message.
pub record HasBegun {D L : Type 0} (dial_rule : D → List ℕ → List ℕ → Type 0) (link : links.Ghosts L) (asked : Asked) (old new : ChannelOf D L) (message : List ℕ) : Type 0 where
  pub id : ℕ
  pub opened : AsksOn link.wire link.rule new.transport id (request_fields asked.path old.authority) asked.messages (message ∷ [])
  pub shown : ShowsFirst link new old.authority id asked message
  pub keeps : Keeps dial_rule old new
  pub ruled : IsRuled (dial_rule new.dial) link.rule new.transport

-- What was begun was asked, and is open behind the messages that were given. The first one is shown, also where it wasn't read yet.
pub record IsRunning {D L : Type 0} (dial_rule : D → List ℕ → List ℕ → Type 0) (link : links.Ghosts L) (channel : ChannelOf D L) (instance : List ℕ) (begun : Begun) (first : Option (List ℕ)) : Type 0 where
  pub id : ℕ
  pub asked : Asked
  pub given : List (List ℕ)
  pub asks : AsksBegun instance begun asked
  pub opened : AsksOn link.wire link.rule channel.transport id (request_fields asked.path channel.authority) asked.messages given
  pub shown : IfSome first (ShowsFirst link channel channel.authority id asked)
  pub ruled : IsRuled (dial_rule channel.dial) link.rule channel.transport
