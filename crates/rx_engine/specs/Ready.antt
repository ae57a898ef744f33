-- Answers that are ready to be written, and what writing them makes of a transcript.
use Rattle.std.specs.Prelude.{◌≡◌, ℕ, List, [], Option, None, Some, Result, Ok, Err, IfSome, take}
use Rattle.rx_board.specs.Board.{State}
use Rattle.rx_session.specs.declared.requests.Request.{Request}
use Rattle.rx_session.specs.Frames.{IsRequest}
use Rattle.rx_session.specs.Replies.{frame_of}
use Rattle.rx_world.specs.declared.attempts.Ended.{Ended}
use Rattle.rx_world.specs.declared.places.Place as places
use Rattle.rx_engine.specs.declared.answered.Answered.{Answered}
use Rattle.rx_engine.specs.declared.concluding.Handled.{Handled}
use Rattle.rx_engine.specs.declared.concluding.Ready.{Ready}
use Rattle.rx_engine.specs.declared.transcripts.Ending.{Ending}
use Rattle.rx_engine.specs.declared.transcripts.Ending.TheVariants.{NoMemory, Replied, ShutDown, SinkLost, SourceLost}
use Rattle.rx_engine.specs.declared.transcripts.Tally.{Tally}
use Rattle.rx_engine.specs.declared.transcripts.Transcript.{Transcript}
use Rattle.rx_engine.specs.Answered.{IsPlain, reply_no_memory}
use Rattle.rx_engine.specs.Answers.{Answers, Grounds, MayHaveRun}
use Rattle.rx_engine.specs.Attempts.{no_tally}
use Rattle.rx_engine.specs.Journal.{EntersBoard, files_of}
use Rattle.rx_engine.specs.Meanings.{Meanings}
use Rattle.rx_engine.specs.Session.{Replies, WasHandled, tally_in}

-- the answer that was made or, for want of memory, the one that says so, if there is memory for that
abbrev pub IsOrGivenUp : {E : Type 0} → Result Answered E → Option Answered → Type 0
IsOrGivenUp (Ok made) answered = answered ≡ Some made
IsOrGivenUp (Err e) answered = IfSome answered (IsPlain reply_no_memory)

-- the answer to a request, with its frame; without one, memory ran out
abbrev pub AnswersAs : {P W B : Type 0} → Meanings P W B → Grounds P → Request → Tally → Option Answered → Type 0
AnswersAs m g request tally None = MayHaveRun m g request tally
AnswersAs m g request tally (Some answered) =
    (answered.frame.items ≡ frame_of answered.reply) × Answers m g request answered.receipt tally answered.reply

-- what is ready is a reply to these bytes
abbrev pub IsReadyAs : {P W B : Type 0} → Meanings P W B → List ℕ → Grounds P → List ℕ → Option Request → Tally → Option Answered → Type 0
IsReadyAs m root g read request tally None = IfSome request (IsRequest root read) × WasHandled m g request tally
IsReadyAs m root g read request tally (Some answered) =
    (answered.frame.items ≡ frame_of answered.reply) × Replies m root g read request answered.receipt tally answered.reply

-- what an answer enters into the journal, and nothing where there is none
abbrev pub EntersAs : {P : Type 0} → places.Ghosts P → State P → State P → ℕ → List Ended → Option Answered → Type 0
EntersAs p old new session ends None = new.journal ≡ old.journal
EntersAs p old new session ends (Some answered) = EntersBoard p old new session answered.receipt (files_of ends) (Some answered.reply)

abbrev pub EntersHandled : {P : Type 0} → places.Ghosts P → State P → State P → ℕ → Handled → Type 0
EntersHandled p old new session handled = EntersAs p old new session handled.tally.ends handled.answered

abbrev pub IsWriting : Ending → Type 0
IsWriting Replied = Unit {0}
IsWriting SinkLost = Unit {0}
IsWriting ShutDown = ⊥
IsWriting SourceLost = ⊥
IsWriting NoMemory = ⊥

-- the transcript has what was ready, and a front of its frame was written, the whole where it says so
pub record Wrote (number : ℕ) (read : List ℕ) (request : Option Request) (tally : Tally) (answered : Answered) (t : Transcript) : Type 0 where
  pub number_is : t.number ≡ number
  pub read_is : t.read ≡ read
  pub request_is : t.request ≡ request
  pub reply_is : t.reply ≡ Some answered.reply
  pub receipt_is : t.receipt ≡ answered.receipt
  pub tally_is : tally_in t ≡ tally
  pub count : ℕ
  pub written_is : t.written ≡ take count answered.frame.items
  pub whole : t.ending ≡ Replied → t.written ≡ answered.frame.items
  pub writing : IsWriting t.ending

-- a session that ended so, after these bytes with this request and this tally, and answered nothing
pub record IsBare (number : ℕ) (read : List ℕ) (request : Option Request) (tally : Tally) (ending : Ending) (t : Transcript) : Type 0 where
  pub number_is : t.number ≡ number
  pub read_is : t.read ≡ read
  pub request_is : t.request ≡ request
  pub ending_is : t.ending ≡ ending
  pub written_is : t.written ≡ []
  pub reply_is : t.reply ≡ None
  pub receipt_is : t.receipt ≡ None
  pub tally_is : tally_in t ≡ tally

abbrev pub FinishesAs : ℕ → List ℕ → Option Request → Tally → Option Answered → Transcript → Type 0
FinishesAs number read request tally None t = IsBare number read request tally NoMemory t
FinishesAs number read request tally (Some answered) t = Wrote number read request tally answered t

abbrev pub Finishes : ℕ → List ℕ → Ready → Transcript → Type 0
Finishes number read ready t = FinishesAs number read ready.request ready.handled.tally ready.handled.answered t

abbrev pub IsWritingEnd : Ending → Type 0
IsWritingEnd ShutDown = Unit {0}
IsWritingEnd SinkLost = Unit {0}
IsWritingEnd Replied = ⊥
IsWritingEnd SourceLost = ⊥
IsWritingEnd NoMemory = ⊥

-- a session that was asked to end the run, and wrote a front of this frame, the whole where it says so
pub record WroteEnd (number : ℕ) (read frame : List ℕ) (t : Transcript) : Type 0 where
  pub number_is : t.number ≡ number
  pub read_is : t.read ≡ read
  pub request_is : t.request ≡ None
  pub reply_is : t.reply ≡ None
  pub receipt_is : t.receipt ≡ None
  pub tally_is : tally_in t ≡ no_tally
  pub count : ℕ
  pub written_is : t.written ≡ take count frame
  pub whole : t.ending ≡ ShutDown → t.written ≡ frame
  pub writing : IsWritingEnd t.ending

-- the input was lost, and nothing was done
abbrev pub IsLost : ℕ → List ℕ → Transcript → Type 0
IsLost number read t = IsBare number read None no_tally SourceLost t
