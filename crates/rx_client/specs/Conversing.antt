-- A conversation with the proxy: the frame of an errand goes out, and a frame comes in.
use Rattle.std.specs.Prelude.{◌≡◌, ◌≤◌, ◌⊎◌, ℕ, List, [], ◌∷◌, Bool, true, false, IsTrue, Option, Some, None, Result, Ok, Err, if◌then◌else◌}
use Rattle.std.specs.Io.KnownBytes.{Consumes}
use Rattle.std.specs.Option.{option_and_then}
use Rattle.rx_world.specs.Causes.{Rose}
use Rattle.rx_world.specs.declared.streams.Sink as sink_of
use Rattle.rx_world.specs.declared.streams.Source as source_of
use Rattle.rx_session.specs.Frames.{frame, shutdown}
use Rattle.rx_session.specs.RequestMessages.{request_payload}
use Rattle.rx_session.specs.declared.replies.Reply.{Reply}
use Rattle.rx_session.specs.declared.replies.Reply.TheVariants as replies
use Rattle.rx_wrap.specs.declared.asked.Asked.{Asked}
use Rattle.rx_wrap.specs.declared.asked.Errand.{Errand}
use Rattle.rx_wrap.specs.declared.asked.Errand.TheVariants as errands
use Rattle.rx_client.specs.declared.heard.Heard.{Heard}
use Rattle.rx_client.specs.declared.heard.Heard.TheVariants.{Reply as a_reply, InPlace, ShutDown}
use Rattle.rx_client.specs.declared.talk_fault.TalkFault.{TalkFault}
use Rattle.rx_client.specs.declared.talk_fault.TalkFault.TheVariants.{Conversation, BadReply, NoMemory}
use Rattle.rx_client.specs.Connections.{Connections, Used, Uses}
use Rattle.rx_client.specs.Heard.{first_reply, given_by, is_shutdown_done}
use Rattle.rx_client.specs.Said.{Said, Says, SaysWhole, said}

-- ---- what goes out and comes in

-- the frame of an errand: a Request is kind 1, Shutdown is kind 4 and has no payload
abbrev pub frame_for : Errand → List ℕ
frame_for (errands.Run request) = frame 1 (request_payload request)
frame_for errands.ShutDown = shutdown

-- that a command is to run in place is heard only where the request lets it
abbrev pub heard_of : Bool → Reply → Option Heard
heard_of in_place (replies.InPlace cause) = if in_place then Some (InPlace cause) else None
heard_of in_place reply = Some (a_reply reply)

-- what is heard for an errand where bytes come in: the frame that they begin with
abbrev pub heard_in : Errand → List ℕ → Option Heard
heard_in (errands.Run request) text = option_and_then (heard_of request.in_place) (first_reply text)
heard_in errands.ShutDown text = if is_shutdown_done text then Some ShutDown else None

abbrev pub is_done : Reply → Bool
is_done (replies.Done exit stdout stderr origin receipt placed) = true
is_done reply = false

-- It isn't taken unless the errand's frame went out whole: no proxy says so of a part of a request. A refusal may come early.
abbrev pub needs_all : Heard → Bool
needs_all (a_reply reply) = is_done reply
needs_all (InPlace cause) = true
needs_all ShutDown = true

-- ---- over one connection

-- What was read of an input, and what the bytes that it gives begin with. Of the bytes behind that nothing is said.
pub record HearsFirst {I : Type 0} (m : source_of.Ghosts I) (errand : Errand) (before after : I) (first : Option Heard) : Type 0 where
  pub read : List ℕ
  pub consumed : Consumes (m.left before) (m.left after) read
  pub first_is : heard_in errand (given_by read (m.left after)) ≡ first

abbrev pub Ends : {I : Type 0} → source_of.Ghosts I → Errand → I → I → Said → Result Heard TalkFault → Type 0
Ends m errand before after s (Ok heard) =
    HearsFirst m errand before after (Some heard) × (IsTrue (needs_all heard) → SaysWhole s (frame_for errand))
Ends m errand before after s (Err BadReply) = HearsFirst m errand before after None × SaysWhole s (frame_for errand)
Ends m errand before after s (Err Conversation) =
    Rose (m.faults before) (m.faults after) ⊎ Rose s.faults_before s.faults_after
Ends m errand before after s (Err NoMemory) = Unit {0}

-- the errand's frame, or a front of it, went out, and what came in is the answer
pub record Talks {I : Type 0} (m : source_of.Ghosts I) (errand : Errand) (before after : I) (s : Said)
    (result : Result Heard TalkFault) : Type 0 where
  pub sent : Says s (frame_for errand)
  pub ends : Ends m errand before after s result

abbrev pub TalksOver : {I O : Type 0} → source_of.Ghosts I → sink_of.Ghosts O → Errand → Used I O → Result Heard TalkFault → Type 0
TalksOver i o errand used result =
    Talks i errand used.before.0 used.after.0 (said o used.before.1 used.after.1) result

-- ---- over all connections

-- there was no conversation
abbrev pub IsUntalked : Result Heard TalkFault → Type 0
IsUntalked (Ok heard) = ⊥
IsUntalked (Err BadReply) = ⊥
IsUntalked (Err Conversation) = Unit {0}
IsUntalked (Err NoMemory) = Unit {0}

-- a conversation goes over one connection
abbrev pub TalksOnce : {I O : Type 0} → source_of.Ghosts I → sink_of.Ghosts O → Errand → Result Heard TalkFault → List (Used I O) → Type 0
TalksOnce i o errand result [] = IsUntalked result
TalksOnce i o errand result (first ∷ []) = TalksOver i o errand first result
TalksOnce i o errand result (first ∷ second ∷ more) = ⊥

pub record ConversesOnce {I O : Type 0} (i : source_of.Ghosts I) (o : sink_of.Ghosts O) (old new : Connections I O) (asked : Asked)
    (result : Result Heard TalkFault) : Type 0 where
  pub used : List (Used I O)
  pub uses : Uses old new asked.address 1 used
  pub talks : TalksOnce i o asked.errand result used

-- A conversation goes over one connection. Where the proxy ends, another may follow, on which nothing is said.
abbrev pub TalksBy : {I O : Type 0} → source_of.Ghosts I → sink_of.Ghosts O → Errand → Result Heard TalkFault → List (Used I O) → Type 0
TalksBy i o errand result [] = IsUntalked result
TalksBy i o errand result (first ∷ []) = TalksOver i o errand first result
TalksBy i o errand result (first ∷ second ∷ []) =
    TalksOver i o errand first result × (result ≡ Ok ShutDown) × (second.after ≡ second.before)
TalksBy i o errand result (first ∷ second ∷ third ∷ more) = ⊥

-- So often its address was called: once, and once more where the proxy ends. Without memory it may not be called.
abbrev pub HasCalls : Result Heard TalkFault → ℕ → Type 0
HasCalls (Ok (a_reply reply)) calls = calls ≡ 1
HasCalls (Ok (InPlace cause)) calls = calls ≡ 1
HasCalls (Ok ShutDown) calls = calls ≡ 2
HasCalls (Err BadReply) calls = calls ≡ 1
HasCalls (Err Conversation) calls = calls ≡ 1
HasCalls (Err NoMemory) calls = calls ≤ 1

-- what was asked for was said to the proxy at its address, and this was heard
pub record Converses {I O : Type 0} (i : source_of.Ghosts I) (o : sink_of.Ghosts O) (old new : Connections I O) (asked : Asked)
    (result : Result Heard TalkFault) : Type 0 where
  pub used : List (Used I O)
  pub calls : ℕ
  pub uses : Uses old new asked.address calls used
  pub talks : TalksBy i o asked.errand result used
  pub often : HasCalls result calls
