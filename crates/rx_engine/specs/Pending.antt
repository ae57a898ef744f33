-- A session before anything is published: what was read, and what was made of it.
use Rattle.std.specs.Prelude.{◌≡◌, ◌⊎◌, ℕ, List, Option, None, Some, IfSome, is_some}
use Rattle.std.specs.Io.KnownBytes.{Consumes}
use Rattle.rx_board.specs.Board.{State}
use Rattle.rx_session.specs.declared.bad.SessionFault.{SessionFault}
use Rattle.rx_session.specs.declared.bad.SessionFault.TheVariants as faults
use Rattle.rx_session.specs.declared.frames.Incoming.{Incoming}
use Rattle.rx_session.specs.declared.frames.Incoming.TheVariants as incomings
use Rattle.rx_session.specs.declared.requests.Request.{Request}
use Rattle.rx_session.specs.Frames.{shutdown, shutdown_done}
use Rattle.rx_scan.specs.Lists.{Listing, Tells}
use Rattle.rx_world.specs.declared.looks.Look.{Look}
use Rattle.rx_world.specs.declared.places.Place as places
use Rattle.rx_world.specs.declared.sources.Given.{Given}
use Rattle.rx_world.specs.Causes.{Rose}
use Rattle.rx_world.specs.Outcomes.{listing}
use Rattle.rx_engine.specs.declared.answered.Answered.{Answered}
use Rattle.rx_engine.specs.declared.attempts.Attempted.{Attempted}
use Rattle.rx_engine.specs.declared.pending.Pending.{Pending}
use Rattle.rx_engine.specs.declared.pending.Stage.{Stage}
use Rattle.rx_engine.specs.declared.pending.Stage.TheVariants as stages
use Rattle.rx_engine.specs.declared.transcripts.Transcript.{Transcript}
use Rattle.rx_engine.specs.Answered.{IsPlain, IsUnpublished, bad_request, reply_no_memory}
use Rattle.rx_engine.specs.Answers.{Grounds, HasOutputsBelow, HasRun, grounds}
use Rattle.rx_engine.specs.Attempts.{no_tally, winner}
use Rattle.rx_engine.specs.Journal.{JournalsBoard, files_of}
use Rattle.rx_engine.specs.Meanings.{Meanings}
use Rattle.rx_engine.specs.Ready.{AnswersAs, IsReadyAs}
use Rattle.rx_engine.specs.Racing.{is_cancelled}
use Rattle.rx_engine.specs.Session.{AreLater, IsAsked, IsReadTo, IsSession, IsUntouched, WasCancelledBy}

-- The attempts of a request were made on what was gathered for it, and this is what is to be published of them. The race was cancelled where
-- there is a reason.
pub record HasTried {P W B : Type 0} (m : Meanings P W B) (g : Grounds P) (request : Request) (attempted : Attempted) : Type 0 where
  pub run : HasRun m g request attempted.tally
  pub won_is : attempted.won ≡ winner run.gathered.plan run.attempts
  pub cancelled_is : is_some attempted.heard.cancelled ≡ is_cancelled attempted.tally.passes.cancel

-- what was made of a request
abbrev pub IsStageOf : {P W B : Type 0} → Meanings P W B → Grounds P → Request → Stage → Type 0
IsStageOf m g request stages.Lost = ⊥
IsStageOf m g request (stages.ShutDown frame) = ⊥
IsStageOf m g request (stages.Refused answered) = AnswersAs m g request no_tally answered × IfSome answered IsUnpublished
IsStageOf m g request (stages.Attempted attempted) = HasTried m g request attempted

-- Between two states of the parts this was made of a request.
pub record HasAnswered {P W B : Type 0} (m : Meanings P W B) (request : Request) (before after : P) (stage : Stage) : Type 0 where
  pub answers : List Given
  pub lists : List Listing
  pub view : List (List ℕ × Look)
  pub looked : Tells m.world m.tree before after answers lists
  pub stage_is : IsStageOf m (grounds before after answers lists view) request stage

-- what is made of bytes that are no request
abbrev pub IsRefusalOf : SessionFault → Stage → Type 0
IsRefusalOf fault (stages.ShutDown frame) = ⊥
IsRefusalOf (faults.Bad bad) stages.Lost = ⊥
IsRefusalOf (faults.Bad bad) (stages.Refused answered) = IfSome answered (λ a. IsPlain (bad_request bad) a ⊎ IsPlain reply_no_memory a)
IsRefusalOf (faults.Bad bad) (stages.Attempted attempted) = ⊥
IsRefusalOf faults.NoMemory stages.Lost = ⊥
IsRefusalOf faults.NoMemory (stages.Refused answered) = IfSome answered (IsPlain reply_no_memory)
IsRefusalOf faults.NoMemory (stages.Attempted attempted) = ⊥
IsRefusalOf faults.ReadFault stages.Lost = Unit {0}
IsRefusalOf faults.ReadFault (stages.Refused answered) = ⊥
IsRefusalOf faults.ReadFault (stages.Attempted attempted) = ⊥

-- of a request the outputs are below its working directory
abbrev pub HasOutputsIfAsked : Incoming → Type 0
HasOutputsIfAsked (incomings.Request request) = HasOutputsBelow request
HasOutputsIfAsked incomings.Shutdown = Unit {0}

-- what is made of a Shutdown: its answer or, for want of memory, none
abbrev pub IsEndOfRun : Stage → Type 0
IsEndOfRun (stages.ShutDown frame) = frame.items ≡ shutdown_done
IsEndOfRun (stages.Refused answered) = answered ≡ None
IsEndOfRun stages.Lost = ⊥
IsEndOfRun (stages.Attempted attempted) = ⊥

-- there was no memory to serve this request
pub record IsStarved (read : List ℕ) (request : Request) (pending : Pending) : Type 0 where
  pub read_is : pending.read ≡ read
  pub request_is : pending.request ≡ Some request
  pub answered : Option Answered
  pub stage_is : pending.stage ≡ stages.Refused answered
  pub given_up : IfSome answered (IsPlain reply_no_memory)

-- what was made of what was read, by its stage
abbrev pub IsStage : {P W B : Type 0} → Meanings P W B → List ℕ → Grounds P → List ℕ → Option Request → Stage → Type 0
IsStage m root g read request stages.Lost =
    (request ≡ None) × IsUntouched m g no_tally × Rose (m.input.faults g.before) (m.input.faults g.after)
IsStage m root g read request (stages.ShutDown frame) = (read ≡ shutdown) × (request ≡ None) × IsUntouched m g no_tally × (frame.items ≡ shutdown_done)
IsStage m root g read request (stages.Refused answered) = IsReadyAs m root g read request no_tally answered × IfSome answered IsUnpublished
IsStage m root g read request (stages.Attempted attempted) =
    (asked : Request) × IsAsked m root g read request asked × HasTried m g asked attempted
    × IfSome attempted.heard.cancelled (WasCancelledBy m g read)

-- Between two states of the parts a session came to this. Nothing was written.
pub record IsPending {P W B : Type 0} (m : Meanings P W B) (root : List ℕ) (before after : P) (pending : Pending) : Type 0 where
  pub answers : List Given
  pub lists : List Listing
  pub view : List (List ℕ × Look)
  pub read : Consumes (m.input.left before) (m.input.left after) pending.read
  pub reach : IsReadTo pending.read pending.request
  pub looked : Tells m.world m.tree before after answers lists
  pub stage : IsStage m root (grounds before after answers lists view) pending.read pending.request pending.stage
  pub unwritten : m.output.taken after ≡ m.output.taken before
  pub uncounted : m.output.faults after ≡ m.output.faults before
  pub later : AreLater m before after

-- ---- concluded

-- the outcome that is to be published has the files that are listed first among the ends
abbrev pub IsFirstWon : Attempted → Type 0
IsFirstWon attempted = IfSome attempted.won (λ won. files_of attempted.tally.ends ≡ listing won.outcome.files)

-- A session that was pending between whatever states before and these parts is whole, and so is its part of the journal.
pub record IsConcluded {P Q W B : Type 0} (m : Meanings P W B) (p : places.Ghosts Q) (pending : Pending) (old new : P)
    (board_old board_new : State Q) (t : Transcript) : Type 0 where
  pub own : (root : List ℕ) (before : P) → IsPending m root before old pending → IsSession m root before new t
  pub journal : (root : List ℕ) (before : P) → IsPending m root before old pending → JournalsBoard p board_old board_new t
