-- What a session did, between its desk as it was taken apart and the desk that it hands back. Nothing here speaks of a journal.
use Rattle.std.specs.Prelude.{◌≡◌, ◌⊎◌, ℕ, ◌≤◌, false, List, [], Option, None, Some, Err, IfSome, length, take}
use Rattle.std.specs.Io.KnownBytes.{Appends, Consumes, IsAtEnd}
use Rattle.rx_board.specs.declared.journal.Receipt.{Receipt}
use Rattle.rx_session.specs.declared.bad.BadReason.TheVariants.{CutShort}
use Rattle.rx_session.specs.declared.cancels.CancelReason.{CancelReason}
use Rattle.rx_session.specs.declared.replies.Reply.{Reply}
use Rattle.rx_session.specs.declared.replies.Reply.TheVariants as reply
use Rattle.rx_session.specs.declared.requests.Request.{Request}
use Rattle.rx_session.specs.Cancels.{IsCancelBy, cancel_length}
use Rattle.rx_session.specs.Frames.{IsRequest, behind, incoming_of, reach_of, shutdown, shutdown_done}
use Rattle.rx_session.specs.Replies.{frame_of}
use Rattle.rx_scan.specs.Lists.{Listing, Tells}
use Rattle.rx_world.specs.declared.looks.Look.{Look}
use Rattle.rx_world.specs.declared.sources.Given.{Given}
use Rattle.rx_world.specs.Causes.{Rose}
use Rattle.rx_engine.specs.declared.transcripts.Ending.{Ending}
use Rattle.rx_engine.specs.declared.transcripts.Ending.TheVariants.{NoMemory, Replied, ShutDown, SinkLost, SourceLost}
use Rattle.rx_engine.specs.declared.transcripts.Tally.{Tally}
use Rattle.rx_engine.specs.declared.transcripts.Transcript.{Transcript}
use Rattle.rx_engine.specs.Answers.{Answers, Grounds, IsUnrun, MayHaveRun, grounds}
use Rattle.rx_engine.specs.Attempts.{AreLaterThan}
use Rattle.rx_engine.specs.Meanings.{Meanings}

-- The bytes are this request and, unless its client may cancel, nothing more; then the input was read to its end.
pub record IsAsked {P W B : Type 0} (m : Meanings P W B) (root : List ℕ) (g : Grounds P) (read : List ℕ) (request : Option Request)
    (asked : Request) : Type 0 where
  pub request_is : request ≡ Some asked
  pub decoded : IsRequest root read asked
  pub ended : asked.watch ≡ false → IsAtEnd (m.input.left g.after)

-- how the attempts of a session ended, and what became of the passes of their race
abbrev pub tally_in : Transcript → Tally
tally_in t = record { ends = t.ends; passes = t.passes }

-- the reply is one to a request
abbrev pub RepliesTo : {P W B : Type 0} → Meanings P W B → List ℕ → Grounds P → List ℕ → Option Request → Option Receipt → Tally → Reply → Type 0
RepliesTo m root g read request receipt tally answer =
    (asked : Request) × IsAsked m root g read request asked × Answers m g asked receipt tally answer

-- nothing was asked of the source trees, and no attempt was made
pub record IsUntouched {P W B : Type 0} (m : Meanings P W B) (g : Grounds P) (tally : Tally) : Type 0 where
  pub answers_are : g.answers ≡ []
  pub lists_are : g.lists ≡ []
  pub unrun : IsUnrun m g tally

-- where memory ran out, the attempts of a request may have been made, and each that was started has its end
abbrev pub WasHandled : {P W B : Type 0} → Meanings P W B → Grounds P → Option Request → Tally → Type 0
WasHandled m g None tally = IsUnrun m g tally
WasHandled m g (Some asked) tally = MayHaveRun m g asked tally

-- what was read behind the frame of a request was such a cancel
abbrev pub WasCancelledBy : {P W B : Type 0} → Meanings P W B → Grounds P → List ℕ → CancelReason → Type 0
WasCancelledBy m g read reason =
    IsCancelBy reason (behind read) (m.input.left g.after) (m.input.faults g.before) (m.input.faults g.after)

-- Each reply, and what it says of the bytes that were read.
abbrev pub Replies : {P W B : Type 0} → Meanings P W B → List ℕ → Grounds P → List ℕ → Option Request → Option Receipt → Tally → Reply → Type 0
Replies m root g read request receipt tally (reply.BadRequest bad) =
    (incoming_of root read ≡ Err bad) × (request ≡ None) × IsUntouched m g tally × (receipt ≡ None)
    × (bad.reason ≡ CutShort → IsAtEnd (m.input.left g.after))
Replies m root g read request receipt tally reply.NoMemory =
    IfSome request (IsRequest root read) × WasHandled m g request tally × (receipt ≡ None)
Replies m root g read request receipt tally (reply.Done exit stdout stderr from number placed) =
    RepliesTo m root g read request receipt tally (reply.Done exit stdout stderr from number placed)
Replies m root g read request receipt tally (reply.PlaceFault number placed) =
    RepliesTo m root g read request receipt tally (reply.PlaceFault number placed)
Replies m root g read request receipt tally (reply.NotRemotable why) =
    RepliesTo m root g read request receipt tally (reply.NotRemotable why)
Replies m root g read request receipt tally (reply.InputMissing path) =
    RepliesTo m root g read request receipt tally (reply.InputMissing path)
Replies m root g read request receipt tally (reply.InputChanged input) =
    RepliesTo m root g read request receipt tally (reply.InputChanged input)
Replies m root g read request receipt tally (reply.SourceFault path) =
    RepliesTo m root g read request receipt tally (reply.SourceFault path)
Replies m root g read request receipt tally (reply.TooLarge limit n path) =
    RepliesTo m root g read request receipt tally (reply.TooLarge limit n path)
Replies m root g read request receipt tally (reply.AllFailed failures) =
    RepliesTo m root g read request receipt tally (reply.AllFailed failures)
Replies m root g read request receipt tally (reply.Cancelled reason) =
    RepliesTo m root g read request receipt tally (reply.Cancelled reason) × WasCancelledBy m g read reason
Replies m root g read request receipt tally reply.JournalFull =
    RepliesTo m root g read request receipt tally reply.JournalFull
Replies m root g read request receipt tally (reply.Blocked path) =
    RepliesTo m root g read request receipt tally (reply.Blocked path)
Replies m root g read request receipt tally (reply.InPlace cause) =
    RepliesTo m root g read request receipt tally (reply.InPlace cause)

-- The bytes are a Shutdown, and nothing was done but to answer it.
pub record WasAskedToEnd {P W B : Type 0} (m : Meanings P W B) (g : Grounds P) (t : Transcript) : Type 0 where
  pub read_is : t.read ≡ shutdown
  pub request_is : t.request ≡ None
  pub reply_is : t.reply ≡ None
  pub receipt_is : t.receipt ≡ None
  pub untouched : IsUntouched m g (tally_in t)

-- a front of the reply was written
abbrev pub IsReplyCut : {P W B : Type 0} → Meanings P W B → List ℕ → Grounds P → Transcript → Type 0
IsReplyCut m root g t =
    (answer : Reply) × (t.reply ≡ Some answer) × (count : ℕ) × (t.written ≡ take count (frame_of answer))
    × Replies m root g t.read t.request t.receipt (tally_in t) answer

-- a front of the answer to a Shutdown was written
abbrev pub IsEndCut : {P W B : Type 0} → Meanings P W B → Grounds P → Transcript → Type 0
IsEndCut m g t = (count : ℕ) × (t.written ≡ take count shutdown_done) × WasAskedToEnd m g t

-- what was answered, by how the session ended
abbrev pub IsCourse : {P W B : Type 0} → Meanings P W B → List ℕ → Grounds P → Transcript → Ending → Type 0
IsCourse m root g t Replied =
    (answer : Reply) × (t.reply ≡ Some answer) × (t.written ≡ frame_of answer) × Replies m root g t.read t.request t.receipt (tally_in t) answer
IsCourse m root g t ShutDown = WasAskedToEnd m g t × (t.written ≡ shutdown_done)
IsCourse m root g t SinkLost = IsReplyCut m root g t ⊎ IsEndCut m g t
IsCourse m root g t SourceLost =
    (t.reply ≡ None) × (t.request ≡ None) × (t.written ≡ []) × (t.receipt ≡ None) × IsUntouched m g (tally_in t)
IsCourse m root g t NoMemory =
    (t.reply ≡ None) × (t.written ≡ []) × (t.receipt ≡ None)
    × IfSome t.request (IsRequest root t.read) × WasHandled m g t.request (tally_in t)

-- the counts of no part fell
pub record AreLater {P W B : Type 0} (m : Meanings P W B) (before after : P) : Type 0 where
  pub input : m.input.faults before ≤ m.input.faults after
  pub output : m.output.faults before ≤ m.output.faults after
  pub tree : m.tree.faults before ≤ m.tree.faults after
  pub attempts : AreLaterThan m before after

-- No more was read than tells what the bytes are and, behind a request, than a client can cancel by.
abbrev pub IsReadTo : List ℕ → Option Request → Type 0
IsReadTo read None = length read ≤ reach_of read
IsReadTo read (Some asked) = length (behind read) ≤ cancel_length

-- The session's own part of a transcript.
pub record IsSession {P W B : Type 0} (m : Meanings P W B) (root : List ℕ) (before after : P) (t : Transcript) : Type 0 where
  pub answers : List Given
  pub lists : List Listing
  pub view : List (List ℕ × Look)
  pub read : Consumes (m.input.left before) (m.input.left after) t.read
  pub reach : IsReadTo t.read t.request
  pub written : Appends (m.output.taken before) (m.output.taken after) t.written
  pub looked : Tells m.world m.tree before after answers lists
  pub course : IsCourse m root (grounds before after answers lists view) t t.ending
  pub source : t.ending ≡ SourceLost → Rose (m.input.faults before) (m.input.faults after)
  pub sink : t.ending ≡ SinkLost → Rose (m.output.faults before) (m.output.faults after)
  pub later : AreLater m before after
