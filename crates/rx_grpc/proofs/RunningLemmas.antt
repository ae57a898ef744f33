-- An execution that goes on: its states are those that its messages tell.
use Rattle.std.proofs.Common.{◌≡◌, ℕ, List, [], ◌∷◌, ◌++◌, length, refl, sym, ap, subst, Option, None, Some, Result, Ok, Err, IfOk, IfSome}
use Rattle.rx_base.specs.Results.{Gives}
use Rattle.rx_base.specs.declared.digests.Digest.{Digest}
use Rattle.rx_messages.specs.declared.results.ActionResult.{ActionResult}
use Rattle.rx_exec_messages.specs.Calls.{IsNamedFor, ResultAgrees}
use Rattle.rx_exec_messages.specs.Scripts.{ResultIsOf}
use Rattle.rx_exec_messages.specs.declared.answers.Operation.{Operation}
use Rattle.rx_exec_messages.specs.declared.executions.ExecuteResponse.{ExecuteResponse}
use Rattle.rx_exec_messages.specs.declared.state_faults.StateFault.{StateFault}
use Rattle.rx_exec_messages.specs.declared.state_faults.StateFault.TheVariants.{Stream}
use Rattle.rx_world.specs.declared.call_faults.CallFault.{CallFault}
use Rattle.rx_world.specs.declared.call_faults.CallFault.TheVariants.{NoMemory}
use Rattle.rx_world.specs.declared.commands.Command.{Command}
use Rattle.rx_world.specs.declared.links.Link as links
use Rattle.rx_world.specs.declared.outcomes.Outcome.{Outcome}
use Rattle.rx_world.specs.declared.versions.Dialect.{Dialect}
use Rattle.rx_grpc.specs.declared.caller.Begun.{Begun}
use Rattle.rx_grpc.specs.declared.stream_item.StreamItem.TheVariants as StreamItems
use Rattle.rx_grpc.specs.declared.transfer_fault.TransferFault.{TransferFault}
use Rattle.rx_grpc.specs.Begun.{action_of}
use Rattle.rx_grpc.specs.Caller.{CallerOf}
use Rattle.rx_grpc.specs.Channel.{ChannelOf, Keeps, stream_for}
use Rattle.rx_grpc.specs.Heard.{Heard}
use Rattle.rx_grpc.specs.Honest.{Always, AnswersHonestly, HonestName, HonestResponse, IfStates, IsGenuineBy, ResultsAgree, StateAgrees, VouchesBy}
use Rattle.rx_grpc.specs.Item.{item_behind}
use Rattle.rx_grpc.specs.Questions.{Asked, AsksBegun}
use Rattle.rx_grpc.specs.Running.{HasBegun, IsRunning}
use Rattle.rx_grpc.specs.StreamedCalls.{Came, GoesOn, HearsItems, HearsMessage, HearsState, IsBegun, message_of, state_of}
use Rattle.rx_grpc.proofs.CarriedLemmas.{IsCarried, by-always, carried, carried-under, next-on, state-shown}
use Rattle.rx_grpc.proofs.KeepLemmas.{keeps-all, keeps-both, keeps-on}

ok-in : (r : Result (List ℕ) CallFault) (m message : List ℕ) → r ≡ Ok m → r ≡ Ok message → m ≡ message
ok-in r m message is e = cc

message-came : (came : Came) (message : List ℕ) → message_of came ≡ Ok message → came ≡ Ok (StreamItems.Message message)
message-came (Ok (StreamItems.Message m)) message e = ap (λ (x : List ℕ). Ok (StreamItems.Message x)) (ok-in (Ok m) m message refl e)
message-came (Ok (StreamItems.Success cut)) message e = absurd cc
message-came (Ok (StreamItems.Status code)) message e = absurd cc
message-came (Ok StreamItems.Compressed) message e = absurd cc
message-came (Ok StreamItems.TooLarge) message e = absurd cc
message-came (Ok StreamItems.NoStatus) message e = absurd cc
message-came (Ok StreamItems.LinkEnd) message e = absurd cc
message-came (Err fault) message e = absurd cc

-- ---- it was begun

begun-by : {D L : Type 0} (faults : D → ℕ) (rule : D → List ℕ → List ℕ → Type 0) (link : links.Ghosts L) (asked : Asked) (old opened new : ChannelOf D L) (message : List ℕ)
    → IsBegun faults rule link asked old opened (Ok tt) → GoesOn rule link opened new (Ok (StreamItems.Message message)) → HasBegun rule link asked old new message
begun-by faults rule link asked old opened new message is goes =
    let on = next-on link opened.transport new.transport (StreamItems.Message message) (stream_for old.transport) old.authority asked [] goes.asks is.asks in
    record { id = stream_for old.transport; opened = on.1 refl; shown = on.0; keeps = keeps-both rule old opened new is.keeps goes.keeps; ruled = goes.ruled }

pub states-begun : {D L : Type 0} (faults : D → ℕ) (rule : D → List ℕ → List ℕ → Type 0) (link : links.Ghosts L) (asked : Asked) (old opened new : ChannelOf D L) (result : Result (List ℕ) CallFault)
    → IsBegun faults rule link asked old opened (Ok tt) → HearsMessage rule link opened new (λ came. result ≡ message_of came) → IfOk result (HasBegun rule link asked old new)
states-begun faults rule link asked old opened new (Err fault) is h = tt
states-begun faults rule link asked old opened new (Ok message) is h =
    begun-by faults rule link asked old opened new message is (subst (λ (x : Came). GoesOn rule link opened new x) (message-came h.came message (sym h.is_such)) h.goes_on)

pub runs-begun : {D L : Type 0} (rule : D → List ℕ → List ℕ → Type 0) (link : links.Ghosts L) (asked : Asked) (old new : ChannelOf D L) (instance : List ℕ) (begun : Begun) (message : List ℕ)
    → AsksBegun instance begun asked → HasBegun rule link asked old new message → IsRunning rule link new instance begun (Some message)
runs-begun rule link asked old new instance begun message asks h = record {
  id = h.id;
  asked = asked;
  given = message ∷ [];
  asks = asks;
  opened = rw h.keeps.authority h.opened;
  shown = rw h.keeps.authority h.shown;
  ruled = h.ruled;
}

pub items-keep : {D L : Type 0} (faults : D → ℕ) (rule : D → List ℕ → List ℕ → Type 0) (link : links.Ghosts L) (asked : Asked) (old new : ChannelOf D L) (IsSuch : Result (Unit {0}) TransferFault → List Came → Type 0) → HearsItems faults rule link asked old new IsSuch → Keeps rule old new
items-keep faults rule link asked old new IsSuch h = keeps-both rule old h.opened new h.is_begun.keeps (keeps-on rule link h.opened new h.items h.goes_on)

-- ---- its next message

pub record IsShown (rule : List ℕ → List ℕ → Type 0) (authority : List ℕ) (asked : Asked) (message : List ℕ) : Type 0 where
  pub given : List (List ℕ)
  pub shown : IsCarried (item_behind (length given)) rule authority asked given (StreamItems.Message message)

pub record HasNext {D L : Type 0} (rule : D → List ℕ → List ℕ → Type 0) (link : links.Ghosts L) (old new : ChannelOf D L) (instance : List ℕ) (begun : Begun) (IsSuch : Result (List ℕ) CallFault → Type 0) : Type 0 where
  pub message : Result (List ℕ) CallFault
  pub is_such : IsSuch message
  pub keeps : Keeps rule old new
  pub asked : Asked
  pub asks : AsksBegun instance begun asked
  pub shown : IfOk message (IsShown (rule old.dial) old.authority asked)
  pub runs : IfOk message (λ m. IsRunning rule link new instance begun None)

next-kept : {D L : Type 0} (rule : D → List ℕ → List ℕ → Type 0) (link : links.Ghosts L) (channel : ChannelOf D L) (instance : List ℕ) (begun : Begun) (message : List ℕ) (IsSuch : Result (List ℕ) CallFault → Type 0)
    → IsRunning rule link channel instance begun (Some message) → IsSuch (Ok message) → HasNext rule link channel channel instance begun IsSuch
next-kept rule link channel instance begun message IsSuch r such = record {
  message = Ok message;
  is_such = such;
  keeps = keeps-all rule channel;
  asked = r.asked;
  asks = r.asks;
  shown = record { given = []; shown = carried (item_behind 0) rule link channel.dial channel.transport r.id channel.authority r.asked [] (StreamItems.Message message) r.ruled r.shown };
  runs = record { id = r.id; asked = r.asked; given = r.given; asks = r.asks; opened = r.opened; shown = tt; ruled = r.ruled };
}

next-came : {D L : Type 0} (rule : D → List ℕ → List ℕ → Type 0) (link : links.Ghosts L) (old new : ChannelOf D L) (instance : List ℕ) (begun : Begun) (came : Came)
    → (r : IsRunning rule link old instance begun None) → GoesOn rule link old new came
    → IfOk (message_of came) (IsShown (rule old.dial) old.authority r.asked) × IfOk (message_of came) (λ m. IsRunning rule link new instance begun None)
next-came rule link old new instance begun (Ok (StreamItems.Message message)) r goes =
    let on = next-on link old.transport new.transport (StreamItems.Message message) r.id old.authority r.asked r.given goes.asks r.opened in (
      record {
        given = r.given;
        shown =
            carried-under (item_behind (length r.given)) (rule old.dial) (rule new.dial) old.authority r.asked r.given (StreamItems.Message message) goes.keeps.same_rule
            (carried (item_behind (length r.given)) rule link new.dial new.transport r.id old.authority r.asked r.given (StreamItems.Message message) goes.ruled on.0);
      },
      record { id = r.id; asked = r.asked; given = r.given ++ message ∷ []; asks = r.asks; opened = rw goes.keeps.authority (on.1 refl); shown = tt; ruled = goes.ruled },
    )
next-came rule link old new instance begun (Ok (StreamItems.Success cut)) r goes = (tt, tt)
next-came rule link old new instance begun (Ok (StreamItems.Status code)) r goes = (tt, tt)
next-came rule link old new instance begun (Ok StreamItems.Compressed) r goes = (tt, tt)
next-came rule link old new instance begun (Ok StreamItems.TooLarge) r goes = (tt, tt)
next-came rule link old new instance begun (Ok StreamItems.NoStatus) r goes = (tt, tt)
next-came rule link old new instance begun (Ok StreamItems.LinkEnd) r goes = (tt, tt)
next-came rule link old new instance begun (Err fault) r goes = (tt, tt)

pub has-next : {D L : Type 0} (rule : D → List ℕ → List ℕ → Type 0) (link : links.Ghosts L) (old new : ChannelOf D L) (instance : List ℕ) (begun : Begun) (first : Option (List ℕ)) (IsSuch : Result (List ℕ) CallFault → Type 0)
    → IsRunning rule link old instance begun first → HearsState rule link first old new IsSuch → HasNext rule link old new instance begun IsSuch
has-next rule link old new instance begun (Some message) IsSuch r h = subst (λ x. HasNext rule link old x instance begun IsSuch) (sym h.0) (next-kept rule link old instance begun message IsSuch r h.1)
has-next rule link old new instance begun None IsSuch r h =
    let next = next-came rule link old new instance begun h.came r h.goes_on in
    record { message = message_of h.came; is_such = h.is_such; keeps = h.goes_on.keeps; asked = r.asked; asks = r.asks; shown = next.0; runs = next.1 }

still-runs : {D L : Type 0} (rule : D → List ℕ → List ℕ → Type 0) (link : links.Ghosts L) (new : ChannelOf D L) (instance : List ℕ) (begun : Begun) (message : Result (List ℕ) CallFault) (state : Operation)
    → IfOk message (λ m. IsRunning rule link new instance begun None) → state_of message ≡ Ok state → IsRunning rule link new instance begun None
still-runs rule link new instance begun (Ok m) state r e = r
still-runs rule link new instance begun (Err fault) state r e = absurd cc

pub runs-on : {D L : Type 0} (rule : D → List ℕ → List ℕ → Type 0) (link : links.Ghosts L) (old new : ChannelOf D L) (instance : List ℕ) (begun : Begun) (state : Operation) (result : Result Operation StateFault)
    → result ≡ Ok state → HasNext rule link old new instance begun (λ message. Gives (Stream NoMemory) (λ (x : Operation). x) result (state_of message)) → IsRunning rule link new instance begun None
runs-on rule link old new instance begun state result is h = still-runs rule link new instance begun h.message state h.runs (rw is at h.is_such)

-- ---- what it tells

ok-state : {A : Type 0} (P : A → Type 0) (result given : Result A StateFault) → Gives (Stream NoMemory) (λ x. x) result given → IfOk given P → IfOk result P
ok-state P (Ok x) given is p = subst (λ r. IfOk r P) is p
ok-state P (Err e) given is p = tt

state-by : (rule : List ℕ → List ℕ → Type 0) (authority : List ℕ) (asked : Asked) (message : Result (List ℕ) CallFault) (IsSuch : Operation → Type 0) (P : Asked → Heard → Type 0)
    → IfOk message (IsShown rule authority asked) → Always rule authority P → ((heard : Heard) → P asked heard → IfStates IsSuch heard) → IfOk (state_of message) IsSuch
state-by rule authority asked (Ok message) IsSuch P shown all pick =
    state-shown rule authority asked shown.given message IsSuch shown.shown (pick shown.shown.heard_is (by-always (item_behind (length shown.given)) rule authority asked shown.given (StreamItems.Message message) P all shown.shown))
state-by rule authority asked (Err fault) IsSuch P shown all pick = tt

state-is : {D L : Type 0} (rule : D → List ℕ → List ℕ → Type 0) (link : links.Ghosts L) (old new : ChannelOf D L) (instance : List ℕ) (begun : Begun) (result : Result Operation StateFault) (IsSuch : Operation → Type 0) (P : Asked → Heard → Type 0)
    → (h : HasNext rule link old new instance begun (λ message. Gives (Stream NoMemory) (λ (x : Operation). x) result (state_of message)))
    → Always (rule old.dial) old.authority P → ((heard : Heard) → P h.asked heard → IfStates IsSuch heard) → IfOk result IsSuch
state-is rule link old new instance begun result IsSuch P h all pick =
    ok-state IsSuch result (state_of h.message) h.is_such (state-by (rule old.dial) old.authority h.asked h.message IsSuch P h.shown all pick)

each-result : {D L : Type 0} (rule : D → List ℕ → List ℕ → Type 0) (c : CallerOf D L) (result : Option ActionResult)
    → ((blob : Digest → List ℕ) (operation : List ℕ → Digest) (command : Command) (outcome : Outcome) → VouchesBy rule blob operation c (action_of operation c.begun) command outcome → ResultIsOf blob command outcome result)
    → (blob : Digest → List ℕ) (operation : List ℕ → Digest) → ResultAgrees blob (VouchesBy rule blob operation c) (action_of operation c.begun) result
each-result rule c (Some result) each = each
each-result rule c None each = each

each-done : {D L : Type 0} (rule : D → List ℕ → List ℕ → Type 0) (c : CallerOf D L) (done : Option ExecuteResponse)
    → ((blob : Digest → List ℕ) (operation : List ℕ → Digest) (command : Command) (outcome : Outcome) → VouchesBy rule blob operation c (action_of operation c.begun) command outcome → IfSome done (λ (response : ExecuteResponse). ResultIsOf blob command outcome response.result))
    → IfSome done (HonestResponse rule c)
each-done rule c (Some response) each = each-result rule c response.result each
each-done rule c None each = tt

each-state : {D L : Type 0} (rule : D → List ℕ → List ℕ → Type 0) (c : CallerOf D L) (result : Result Operation StateFault)
    → ((blob : Digest → List ℕ) (operation : List ℕ → Digest) (command : Command) (outcome : Outcome) → VouchesBy rule blob operation c (action_of operation c.begun) command outcome → IfOk result (StateAgrees blob command outcome))
    → IfOk result (λ (state : Operation). IfSome state.done (HonestResponse rule c))
each-state rule c (Ok state) each = each-done rule c state.done each
each-state rule c (Err fault) each = tt

pub state-honest : {D L : Type 0} (rule : D → List ℕ → List ℕ → Type 0) (link : links.Ghosts L) (c : CallerOf D L) (new : ChannelOf D L) (result : Result Operation StateFault)
    → HasNext rule link c.channel new c.instance c.begun (λ message. Gives (Stream NoMemory) (λ (x : Operation). x) result (state_of message)) → IfOk result (λ (state : Operation). IfSome state.done (HonestResponse rule c))
state-honest rule link c new result h =
    each-state rule c result (λ blob operation command outcome vouched.
    state-is rule link c.channel new c.instance c.begun result (StateAgrees blob command outcome) (ResultsAgree blob operation c.instance (action_of operation c.begun) command outcome) h vouched (λ heard agree. agree.ran c.begun h.asks refl))

each-name : {D L : Type 0} (rule : D → List ℕ → List ℕ → Type 0) (c : CallerOf D L) (result : Result Operation StateFault)
    → ((blob : Digest → List ℕ) (operation : List ℕ → Digest) (dialect : Dialect) → IsGenuineBy rule blob operation dialect c → IfOk result (λ (state : Operation). IsNamedFor operation (action_of operation c.begun) state.name))
    → IfOk result (λ (state : Operation). HonestName rule c state.name)
each-name rule c (Ok state) each = each
each-name rule c (Err fault) each = tt

pub name-honest : {D L : Type 0} (rule : D → List ℕ → List ℕ → Type 0) (link : links.Ghosts L) (c : CallerOf D L) (new : ChannelOf D L) (result : Result Operation StateFault)
    → HasNext rule link c.channel new c.instance c.begun (λ message. Gives (Stream NoMemory) (λ (x : Operation). x) result (state_of message)) → IfOk result (λ (state : Operation). HonestName rule c state.name)
name-honest rule link c new result h =
    each-name rule c result (λ blob operation dialect genuine.
    state-is rule link c.channel new c.instance c.begun result (λ (state : Operation). IsNamedFor operation (action_of operation c.begun) state.name) (AnswersHonestly blob operation dialect c.instance) h genuine (λ heard honest. honest.names c.begun h.asks))
