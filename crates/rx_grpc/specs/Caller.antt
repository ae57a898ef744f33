-- A farm's client over a channel, and what its calls of one message heard.
use Rattle.std.specs.Prelude.{ℕ, Bool, false, List, [], if◌then◌else◌, Option, None, Some, IfErr, IfOk}
use Rattle.rx_world.specs.declared.links.Link as links
use Rattle.rx_grpc.specs.declared.caller.Begun.{Begun}
use Rattle.rx_grpc.specs.Answer.{unary}
use Rattle.rx_grpc.specs.Channel.{Answers, ChannelOf, Fails, HasCauseOn, IsRuled, Keeps, Stops, rested, stream_for}
use Rattle.rx_grpc.specs.Transport.{TransportOf}
use Rattle.rx_grpc.specs.Questions.{Asked}
use Rattle.rx_grpc.specs.Request.{request_fields}
use Rattle.rx_grpc.specs.Sent.{AnsweredOn}
use Rattle.rx_grpc.specs.Replies.{Heard}

pub record CallerOf (D L : Type 0) : Type 0 where
  pub channel : ChannelOf D L
  pub instance : List ℕ
  pub begun : Begun
  pub first : Option (List ℕ)  -- the first message of an execution that goes on, until it is read
  pub streaming : Bool  -- an execution goes on
  pub faults : ℕ

-- without a connection, and so without an execution that goes on
abbrev pub hung_up : {D L : Type 0} → CallerOf D L → CallerOf D L
hung_up c = record c { channel = record c.channel { transport = None }; first = None; streaming = false }

-- the connection that another client can use: no execution goes on, and another call can be made on it
abbrev pub rested_by : {D L : Type 0} → CallerOf D L → Option (TransportOf L)
rested_by c = if c.streaming then None else rested c.channel.transport

-- on that connection, without an execution that goes on
abbrev pub resumed : {D L : Type 0} → CallerOf D L → TransportOf L → CallerOf D L
resumed c t = record c { channel = record c.channel { transport = Some t }; first = None; streaming = false }

-- This was asked. The channel answered so, as the bytes of its link show, and the result is such.
pub record Hears {D L : Type 0} (dial_faults : D → ℕ) (dial_rule : D → List ℕ → List ℕ → Type 0) (link : links.Ghosts L) (asked : Asked) (old new : ChannelOf D L) (IsSuch : Heard → Type 0) : Type 0 where
  pub heard : Heard
  pub shown : IfOk heard (Answers link.wire link.rule link.ended old.transport new.transport)
  pub asks : IfOk heard (AnsweredOn unary link.wire link.rule link.ended new.transport (stream_for old.transport) (request_fields asked.path old.authority) asked.messages [])
  pub fails : IfErr heard (Fails link.wire link.rule old.transport new.transport)
  pub stops : IfErr heard (Stops new.transport)
  pub cause : HasCauseOn (dial_faults old.dial) (dial_faults new.dial) link.faults old.transport new.transport heard
  pub keeps : Keeps dial_rule old new
  pub ruled : IfOk heard (λ answer. IsRuled (dial_rule new.dial) link.rule new.transport)
  pub is_such : IsSuch heard
