-- What a session answers to a request.
use Rattle.std.specs.Prelude.{◌≡◌, ◌⊎◌, ℕ, ◌<◌, true, false, List, [], Option, None, Some, All, IfSome, length}
use Rattle.std.specs.List.{flat_map}
use Rattle.rx_action.specs.OutputPaths.{AreBelow}
use Rattle.rx_board.specs.declared.journal.Receipt.{Receipt}
use Rattle.rx_race.specs.declared.events.Verdict.TheVariants.{Won as won_race}
use Rattle.rx_race.specs.declared.slips.Slip.TheVariants.{Told, Unused}
use Rattle.rx_session.specs.declared.in_place.InPlaceCause.{InPlaceCause}
use Rattle.rx_session.specs.declared.in_place.InPlaceCause.TheVariants as in_place
use Rattle.rx_session.specs.declared.replies.Reply.{Reply}
use Rattle.rx_session.specs.declared.replies.Reply.TheVariants as reply
use Rattle.rx_session.specs.declared.requests.Request.{Request}
use Rattle.rx_session.specs.Jobs.{command_of, declared_of}
use Rattle.rx_scan.specs.declared.gather_fault.GatherFault.{GatherFault}
use Rattle.rx_scan.specs.declared.gather_fault.GatherFault.TheVariants as fault
use Rattle.rx_scan.specs.declared.gathering.Gathered.{Gathered}
use Rattle.rx_reach.specs.Explored.{HaveDigests}
use Rattle.rx_scan.specs.Gathering.{Asked, BlamesGather, IsGatheredBy, IsOrderly}
use Rattle.rx_scan.specs.Lists.{Listing, Stretch, stretch}
use Rattle.rx_world.specs.declared.looks.Look.{Look}
use Rattle.rx_world.specs.declared.sources.Given.{Given}
use Rattle.rx_world.specs.Inputs.{IsAsListed}
use Rattle.rx_engine.specs.declared.attempts.Won.{Won}
use Rattle.rx_engine.specs.declared.transcripts.Tally.{Tally}
use Rattle.rx_engine.specs.Attempts.{AreTellable, Attempts, HasAttempts, IsIdle, failure_of, no_tally, tally_of, winner}
use Rattle.rx_engine.specs.Choices.{choice_of, client_runs}
use Rattle.rx_engine.specs.Meanings.{Meanings}
use Rattle.rx_engine.specs.Racing.{is_cancelled}

-- what an answer stands on: the parts before and after, what the source tree that is gathered from answered and listed, and what was seen
pub record Grounds (P : Type 0) : Type 0 where
  pub before : P
  pub after : P
  pub answers : List Given
  pub lists : List Listing
  pub view : List (List ℕ × Look)

abbrev pub grounds : {P : Type 0} → P → P → List Given → List Listing → List (List ℕ × Look) → Grounds P
grounds before after answers lists view = record { before = before; after = after; answers = answers; lists = lists; view = view }

-- of these the gathering
abbrev pub stretch_of : {P W B : Type 0} → Meanings P W B → Grounds P → Stretch
stretch_of m g = stretch [] g.view (m.tree.faults g.before) (m.tree.faults g.after) g.answers g.lists

-- ---- what was gathered

-- what is asked of the gathering
abbrev pub asked_of : Request → Asked
asked_of request = record { command = command_of request; kind = request.kind; inputs = declared_of request; choice = choice_of request }

-- the outputs of its command are below the working directory, as those of each request are that was read
abbrev pub HasOutputsBelow : Request → Type 0
HasOutputsBelow request = AreBelow (command_of request).working_directory (command_of request).outputs

-- What the command of a request runs on, as the source tree told it: in each scene that shows its answers and lists, just the inputs.
-- Whatever it told, these can be staged, and the plan is one of the choice. Where stamps are honest, each file is as the source tree lists
-- it, while that keeps its list.
pub record HasGathered {P W B : Type 0} (m : Meanings P W B) (g : Grounds P) (request : Request) (gathered : Gathered) : Type 0 where
  pub by : IsGatheredBy (asked_of request) gathered (stretch_of m g)
  pub orderly : IsOrderly (asked_of request) gathered
  pub digests : m.world.stamps_honest → HaveDigests m.world.content gathered.files
  pub listed : m.world.stamps_honest → m.tree.keeps g.before →
      IfSome (m.tree.listed g.before) (λ entries. All (IsAsListed entries) gathered.files)

-- no attempt was made
pub record IsUnrun {P W B : Type 0} (m : Meanings P W B) (g : Grounds P) (tally : Tally) : Type 0 where
  pub idle : IsIdle m g.before g.after
  pub tally_is : tally ≡ no_tally

-- nothing was run, since this is why nothing was gathered
pub record IsRefused {P W B : Type 0} (m : Meanings P W B) (g : Grounds P) (request : Request) (receipt : Option Receipt) (tally : Tally)
    (why : GatherFault) : Type 0 where
  pub cause : BlamesGather (asked_of request) why (stretch_of m g)
  pub unrun : IsUnrun m g tally
  pub receipt_is : receipt ≡ None

-- nothing was run, since this is why the step can't be taken, and its client runs it
abbrev pub IsLeftToClient : {P W B : Type 0} → Meanings P W B → Grounds P → Request → Option Receipt → Tally → InPlaceCause → Type 0
IsLeftToClient m g request receipt tally (in_place.Kept cause) =
    (client_runs request ≡ true) × IsRefused m g request receipt tally (fault.NotRemotable cause)
IsLeftToClient m g request receipt tally (in_place.TooLarge limit) =
    (client_runs request ≡ true) × (n : ℕ) × (path : Option (List ℕ)) × IsRefused m g request receipt tally (fault.TooLarge limit n path)

-- nothing was run, since this is why the step can't be taken, and its client doesn't run it
abbrev pub IsLeftUnrun : {P W B : Type 0} → Meanings P W B → Grounds P → Request → Option Receipt → Tally → GatherFault → Type 0
IsLeftUnrun m g request receipt tally why = (client_runs request ≡ false) × IsRefused m g request receipt tally why

-- ---- the attempts

-- The attempts of a request were made on what was gathered for it, and each that was started has its end. Only a client that may cancel used
-- the right to do so.
pub record HasRun {P W B : Type 0} (m : Meanings P W B) (g : Grounds P) (request : Request) (tally : Tally) : Type 0 where
  pub gathered : Gathered
  pub inputs : HasGathered m g request gathered
  pub attempts : Attempts
  pub made : HasAttempts m gathered request.accept_cached g.before g.after attempts
  pub tally_is : tally ≡ tally_of attempts
  pub unwatched : request.watch ≡ false → tally.passes.cancel ≡ Unused

-- the same, and this is the outcome that is to be published
pub record HasWon {P W B : Type 0} (m : Meanings P W B) (g : Grounds P) (request : Request) (tally : Tally) (won : Won) : Type 0 where
  pub run : HasRun m g request tally
  pub won_is : winner run.gathered.plan run.attempts ≡ Some won

-- the same, and none is, though nobody cancelled and no end is want of memory
pub record HasLost {P W B : Type 0} (m : Meanings P W B) (g : Grounds P) (request : Request) (tally : Tally) : Type 0 where
  pub run : HasRun m g request tally
  pub none_won : winner run.gathered.plan run.attempts ≡ None
  pub uncancelled : is_cancelled tally.passes.cancel ≡ false
  pub tellable : AreTellable tally.ends

-- the same, and the race was cancelled by a client that may do so
pub record HasCancelled {P W B : Type 0} (m : Meanings P W B) (g : Grounds P) (request : Request) (tally : Tally) : Type 0 where
  pub run : HasRun m g request tally
  pub cancelled : tally.passes.cancel ≡ Told won_race
  pub watched : request.watch ≡ true

-- the attempts were made or, for want of memory before them, not
abbrev pub MayHaveRun : {P W B : Type 0} → Meanings P W B → Grounds P → Request → Tally → Type 0
MayHaveRun m g request tally = IsUnrun m g tally ⊎ HasRun m g request tally

-- ---- the replies

-- the reply to an outcome that was published whole
abbrev pub done_reply : Won → ℕ → Reply
done_reply won number =
    reply.Done won.outcome.exit.code won.outcome.exit.stdout won.outcome.exit.stderr won.origin number (length won.outcome.files)

-- each reply to a request, and what it says
abbrev pub Answers : {P W B : Type 0} → Meanings P W B → Grounds P → Request → Option Receipt → Tally → Reply → Type 0
Answers m g request receipt tally (reply.Done exit stdout stderr from number placed) =
    (won : Won) × HasWon m g request tally won
    × (reply.Done exit stdout stderr from number placed ≡ done_reply won number) × (receipt ≡ Some (record { number = number }))
Answers m g request receipt tally (reply.PlaceFault number placed) =
    (won : Won) × HasWon m g request tally won
    × (placed < length won.outcome.files) × (receipt ≡ Some (record { number = number }))
Answers m g request receipt tally reply.JournalFull =
    (won : Won) × HasWon m g request tally won × (receipt ≡ None)
Answers m g request receipt tally (reply.AllFailed failures) =
    HasLost m g request tally × (failures ≡ flat_map failure_of tally.ends) × (receipt ≡ None)
Answers m g request receipt tally (reply.Cancelled reason) = HasCancelled m g request tally × (receipt ≡ None)
Answers m g request receipt tally (reply.NotRemotable why) = IsLeftUnrun m g request receipt tally (fault.NotRemotable why)
Answers m g request receipt tally (reply.InputMissing path) = IsRefused m g request receipt tally (fault.InputMissing path)
Answers m g request receipt tally (reply.InputChanged input) = IsRefused m g request receipt tally (fault.InputChanged input)
Answers m g request receipt tally (reply.SourceFault path) = IsRefused m g request receipt tally (fault.SourceFault path)
Answers m g request receipt tally (reply.TooLarge limit n path) = IsLeftUnrun m g request receipt tally (fault.TooLarge limit n path)
Answers m g request receipt tally (reply.Blocked path) = IsRefused m g request receipt tally (fault.Blocked path)
Answers m g request receipt tally (reply.InPlace cause) = IsLeftToClient m g request receipt tally cause
Answers m g request receipt tally (reply.BadRequest bad) = ⊥
Answers m g request receipt tally reply.NoMemory = MayHaveRun m g request tally × (receipt ≡ None)
