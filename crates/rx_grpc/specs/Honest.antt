-- When a farm's client vouches for an outcome, and when it is genuine: by all that its conversations may be. The rule is that of
-- its dial: a conversation is two lists, the bytes sent and the bytes received, that meet it.
use Rattle.std.specs.Prelude.{◌≡◌, ℕ, Bool, false, List, [], ◌∷◌, ◌++◌, map, Some, Result, Ok, IfOk, IfSome}
use Rattle.std.specs.List.{AllByRecursion}
use Rattle.rx_base.specs.declared.digests.Digest.{Digest}
use Rattle.rx_messages.specs.declared.results.ActionResult.{ActionResult}
use Rattle.rx_results.specs.Agreement.{Agrees}
use Rattle.rx_exec_messages.specs.Calls.{AgreesWithAll, AreBlobs, IsNamedFor, ResponseAgrees, Stays}
use Rattle.rx_exec_messages.specs.Dialects.{dialect_of}
use Rattle.rx_exec_messages.specs.Scripts.{ResultIsOf}
use Rattle.rx_exec_messages.specs.declared.answers.Capabilities.{Capabilities}
use Rattle.rx_exec_messages.specs.declared.answers.Operation.{Operation}
use Rattle.rx_exec_messages.specs.declared.executions.ExecuteResponse.{ExecuteResponse}
use Rattle.rx_world.specs.declared.call_faults.CallFault.{CallFault}
use Rattle.rx_world.specs.declared.commands.Command.{Command}
use Rattle.rx_world.specs.declared.outcomes.Outcome.{Outcome}
use Rattle.rx_world.specs.declared.versions.Dialect.{Dialect}
use Rattle.rx_grpc.specs.declared.answer.Answer.{Answer}
use Rattle.rx_grpc.specs.declared.caller.Begun.{Begun}
use Rattle.rx_grpc.specs.declared.end.End.TheVariants as Ends
use Rattle.rx_grpc.specs.declared.stream_item.StreamItem.TheVariants.{Success}
use Rattle.rx_grpc.specs.Answer.{unary}
use Rattle.rx_grpc.specs.Begun.{action_of}
use Rattle.rx_grpc.specs.Caller.{CallerOf}
use Rattle.rx_grpc.specs.Heard.{Heard}
use Rattle.rx_grpc.specs.Operations.{operation_by}
use Rattle.rx_grpc.specs.Questions.{Asked, AsksBegun, asks_blob, asks_capabilities, asks_read, asks_result}
use Rattle.rx_grpc.specs.Replies.{Heard as Replied}
use Rattle.rx_grpc.specs.Request.{request_fields}
use Rattle.rx_grpc.specs.Results.{capabilities_by, found_by, read_by}
use Rattle.rx_grpc.specs.Sent.{IsCall}
use Rattle.rx_grpc.specs.StreamedCalls.{came_of, joined}

-- Each call that such a conversation carries is so: what was asked on its stream, and what the bytes received show there. A part
-- of what was asked may wait to be sent.
abbrev pub Always : (List ℕ → List ℕ → Type 0) → List ℕ → (Asked → Heard → Type 0) → Type 0
Always rule authority IsSuch =
    (sent waiting received : List ℕ) (id : ℕ) (asked : Asked) (heard : Heard) → rule sent received
    → IsCall sent waiting received id (request_fields asked.path authority) asked.messages heard → IsSuch asked heard

-- ---- what was heard

-- the one answer gives such a value, or a fault
abbrev pub IfAnswered : {T : Type 0} → (Replied → Result T CallFault) → (T → Type 0) → Heard → Type 0
IfAnswered value IsSuch heard = (ended : Bool) (answer : Answer) → unary ended heard ≡ Some answer → IfOk (value (Ok answer)) IsSuch

-- each message tells such a state, or a fault
abbrev pub IfStates : (Operation → Type 0) → Heard → Type 0
IfStates IsSuch heard = AllByRecursion (λ message. IfOk (operation_by message) IsSuch) heard.messages

-- where the answer ended well, behind its last message, all messages join to such a text, or to a fault
abbrev pub IfJoined : (List ℕ → Type 0) → Heard → Type 0
IfJoined IsSuch heard = heard.end ≡ Some (Ends.Status 0) → heard.rest ≡ [] → IfOk (joined [] (map came_of heard.messages ++ Ok (Success false) ∷ [])) IsSuch

-- ---- results

-- an execution that is done has a result, which agrees with the outcome
abbrev pub StateAgrees : (Digest → List ℕ) → Command → Outcome → Operation → Type 0
StateAgrees blob command outcome state = IfSome state.done (λ (response : ExecuteResponse). ResultIsOf blob command outcome response.result)

-- Where it was asked for the result of an action, or for an execution that runs it, each result agrees with the outcome.
pub record ResultsAgree (blob : Digest → List ℕ) (operation : List ℕ → Digest) (instance : List ℕ) (digest : Digest) (command : Command) (outcome : Outcome) (asked : Asked) (heard : Heard) : Type 0 where
  pub kept : asked ≡ asks_result instance digest → IfAnswered found_by (λ found. IfSome found (Agrees blob command outcome)) heard
  pub ran : (begun : Begun) → AsksBegun instance begun asked → action_of operation begun ≡ digest → IfStates (StateAgrees blob command outcome) heard

abbrev pub Vouches : (List ℕ → List ℕ → Type 0) → List ℕ → List ℕ → (Digest → List ℕ) → (List ℕ → Digest) → Digest → Command → Outcome → Type 0
Vouches rule authority instance blob operation digest command outcome = Always rule authority (ResultsAgree blob operation instance digest command outcome)

-- ---- all else

-- Versions are those of the dialect, texts are the blobs that were asked for, and the names of states belong to the action that runs.
pub record AnswersHonestly (blob : Digest → List ℕ) (operation : List ℕ → Digest) (dialect : Dialect) (instance : List ℕ) (asked : Asked) (heard : Heard) : Type 0 where
  pub versions : asked ≡ asks_capabilities instance → IfAnswered capabilities_by (λ (told : Capabilities). dialect_of told.low told.high ≡ dialect) heard
  pub batches : (digests : List Digest) → asked ≡ asks_read instance digests → IfAnswered (read_by digests) (AreBlobs blob digests) heard
  pub blobs : (digest : Digest) → asked ≡ asks_blob instance digest → IfJoined (λ text. AreBlobs blob (digest ∷ []) (text ∷ [])) heard
  pub names : (begun : Begun) → AsksBegun instance begun asked → IfStates (λ (state : Operation). IsNamedFor operation (action_of operation begun) state.name) heard

abbrev pub IsGenuine : (List ℕ → List ℕ → Type 0) → List ℕ → List ℕ → (Digest → List ℕ) → (List ℕ → Digest) → Dialect → Type 0
IsGenuine rule authority instance blob operation dialect = Always rule authority (AnswersHonestly blob operation dialect instance)

-- ---- of a client

abbrev pub VouchesBy : {D L : Type 0} → (D → List ℕ → List ℕ → Type 0) → (Digest → List ℕ) → (List ℕ → Digest) → CallerOf D L → Digest → Command → Outcome → Type 0
VouchesBy rule blob operation c = Vouches (rule c.channel.dial) c.channel.authority c.instance blob operation

abbrev pub IsGenuineBy : {D L : Type 0} → (D → List ℕ → List ℕ → Type 0) → (Digest → List ℕ) → (List ℕ → Digest) → Dialect → CallerOf D L → Type 0
IsGenuineBy rule blob operation dialect c = IsGenuine (rule c.channel.dial) c.channel.authority c.instance blob operation dialect

-- ---- what its calls answer, whatever the blobs, the operations and the dialect of the world are

abbrev pub HonestVersions : {D L : Type 0} → (D → List ℕ → List ℕ → Type 0) → CallerOf D L → Capabilities → Type 0
HonestVersions rule c told =
    (blob : Digest → List ℕ) (operation : List ℕ → Digest) (dialect : Dialect) → IsGenuineBy rule blob operation dialect c → dialect_of told.low told.high ≡ dialect

abbrev pub HonestTexts : {D L : Type 0} → (D → List ℕ → List ℕ → Type 0) → CallerOf D L → List Digest → List (List ℕ) → Type 0
HonestTexts rule c digests texts =
    (blob : Digest → List ℕ) (operation : List ℕ → Digest) (dialect : Dialect) → IsGenuineBy rule blob operation dialect c → AreBlobs blob digests texts

abbrev pub HonestName : {D L : Type 0} → (D → List ℕ → List ℕ → Type 0) → CallerOf D L → List ℕ → Type 0
HonestName rule c name =
    (blob : Digest → List ℕ) (operation : List ℕ → Digest) (dialect : Dialect) → IsGenuineBy rule blob operation dialect c → IsNamedFor operation (action_of operation c.begun) name

abbrev pub HonestResult : {D L : Type 0} → (D → List ℕ → List ℕ → Type 0) → CallerOf D L → Digest → ActionResult → Type 0
HonestResult rule c digest result =
    (blob : Digest → List ℕ) (operation : List ℕ → Digest) → AgreesWithAll blob (VouchesBy rule blob operation c) digest result

abbrev pub HonestResponse : {D L : Type 0} → (D → List ℕ → List ℕ → Type 0) → CallerOf D L → ExecuteResponse → Type 0
HonestResponse rule c response =
    (blob : Digest → List ℕ) (operation : List ℕ → Digest) → ResponseAgrees blob (VouchesBy rule blob operation c) (action_of operation c.begun) response

abbrev pub StaysHonest : {D L : Type 0} → (D → List ℕ → List ℕ → Type 0) → CallerOf D L → CallerOf D L → Type 0
StaysHonest rule old new =
    (blob : Digest → List ℕ) (operation : List ℕ → Digest) (dialect : Dialect)
    → Stays (VouchesBy rule blob operation) (IsGenuineBy rule blob operation dialect) (λ c. dialect) old new
