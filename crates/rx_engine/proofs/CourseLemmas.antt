-- From what was made ready to the course of the session.
use Rattle.std.proofs.Common.{◌≡◌, ℕ, List, [], append-nil, inl, inr, refl, ap, sym, ◌∙◌, take}
use Rattle.std.specs.Prelude.{None, Option, Some}
use Rattle.std.specs.Io.KnownBytes.{Appends, Consumes}
use Rattle.rx_scan.specs.Lists.{Listing, Tells}
use Rattle.rx_session.specs.declared.requests.Request.{Request}
use Rattle.rx_session.specs.Frames.{shutdown, shutdown_done}
use Rattle.rx_world.specs.declared.looks.Look.{Look}
use Rattle.rx_world.specs.declared.sources.Given.{Given}
use Rattle.rx_world.specs.Causes.{Rose}
use Rattle.rx_engine.specs.declared.answered.Answered.{Answered}
use Rattle.rx_engine.specs.declared.transcripts.Ending.{Ending}
use Rattle.rx_engine.specs.declared.transcripts.Ending.TheVariants.{NoMemory, Replied, ShutDown, SinkLost, SourceLost}
use Rattle.rx_engine.specs.declared.transcripts.Tally.{Tally}
use Rattle.rx_engine.specs.declared.transcripts.Transcript.{Transcript}
use Rattle.rx_engine.specs.Answers.{Grounds, grounds}
use Rattle.rx_engine.specs.Attempts.{no_tally}
use Rattle.rx_engine.specs.Meanings.{Meanings}
use Rattle.rx_engine.specs.Ready.{FinishesAs, IsReadyAs, IsWriting, IsWritingEnd, Wrote, WroteEnd}
use Rattle.rx_engine.specs.Session.{AreLater, IsCourse, IsReadTo, IsSession, IsUntouched, Replies, WasAskedToEnd, tally_in}

module _ {P W B : Type 0} (m : Meanings P W B) (root : List ℕ) (g : Grounds P) (number : ℕ) (read : List ℕ) (request : Option Request) (tally : Tally) where
  replies-moved : (a : Answered) (t : Transcript) → Replies m root g read request a.receipt tally a.reply → Wrote number read request tally a t → Replies m root g t.read t.request t.receipt (tally_in t) a.reply
  replies-moved a t h w = rw (w.read_is, w.request_is, w.receipt_is, w.tally_is) h

  course-at : (a : Answered) (t : Transcript) (ending : Ending) → t.ending ≡ ending → IsWriting ending → IsReadyAs m root g read request tally (Some a) → Wrote number read request tally a t → IsCourse m root g t ending
  course-at a t Replied e writing ready w = (a.reply, w.reply_is, w.whole e ∙ ready.0, replies-moved a t ready.1 w)
  course-at a t ShutDown e writing ready w = absurd writing
  course-at a t SinkLost e writing ready w = inl (a.reply, w.reply_is, w.count, w.written_is ∙ ap (take w.count) ready.0, replies-moved a t ready.1 w)
  course-at a t SourceLost e writing ready w = absurd writing
  course-at a t NoMemory e writing ready w = absurd writing

  course : (answered : Option Answered) (t : Transcript) → IsReadyAs m root g read request tally answered → FinishesAs number read request tally answered t → IsCourse m root g t t.ending
  course None t ready w =
      rw w.ending_is (w.reply_is, w.written_is, w.receipt_is, rw (w.request_is, w.read_is) ready.0, rw (w.request_is, w.tally_is) ready.1)
  course (Some a) t ready w = course-at a t t.ending refl w.writing ready w

  finished-read : (answered : Option Answered) (t : Transcript) → FinishesAs number read request tally answered t
      → (t.read ≡ read) × (t.request ≡ request) × (t.ending ≡ SourceLost → ⊥)
  finished-read None t w = (w.read_is, w.request_is, λ e. let x = w.ending_is in cc)
  finished-read (Some a) t w = (w.read_is, w.request_is, λ e. rw e at w.writing)

was-ended : {P W B : Type 0} (m : Meanings P W B) (g : Grounds P) (number : ℕ) (read frame : List ℕ) (t : Transcript)
    → read ≡ shutdown → IsUntouched m g no_tally → WroteEnd number read frame t → WasAskedToEnd m g t
was-ended m g number read frame t r u w = record {
  read_is = w.read_is ∙ r;
  request_is = w.request_is;
  reply_is = w.reply_is;
  receipt_is = w.receipt_is;
  untouched = rw w.tally_is u;
}

-- a session that wrote what was ready
pub session-finished : {P W B : Type 0} (m : Meanings P W B) (root : List ℕ) (before after : P) (number : ℕ) (read : List ℕ) (request : Option Request) (tally : Tally) (answered : Option Answered) (t : Transcript) (answers : List Given) (lists : List Listing) (view : List (List ℕ × Look))
    → Consumes (m.input.left before) (m.input.left after) read
    → IsReadTo read request
    → Appends (m.output.taken before) (m.output.taken after) t.written
    → Tells m.world m.tree before after answers lists
    → IsReadyAs m root (grounds before after answers lists view) read request tally answered
    → FinishesAs number read request tally answered t
    → (t.ending ≡ SinkLost → Rose (m.output.faults before) (m.output.faults after))
    → AreLater m before after
    → IsSession m root before after t
session-finished m root before after number read request tally answered t answers lists view consumed reach written tells ready finished sink later =
    let g : Grounds _ = grounds before after answers lists view in
    let kept = finished-read m root g number read request tally answered t finished in
    record {
      answers = answers;
      lists = lists;
      view = view;
      read = rw kept.0 consumed;
      reach = rw (kept.0, kept.1) reach;
      written = written;
      looked = tells;
      course = course m root g number read request tally answered t ready finished;
      source = λ e. absurd (kept.2 e);
      sink = sink;
      later = later;
    }

-- a session that was asked to end the run
pub course-ended : {P W B : Type 0} (m : Meanings P W B) (root : List ℕ) (g : Grounds P) (number : ℕ) (read frame : List ℕ) (t : Transcript) (ending : Ending)
    → t.ending ≡ ending → read ≡ shutdown → frame ≡ shutdown_done → IsUntouched m g no_tally → WroteEnd number read frame t → IsWritingEnd ending → IsCourse m root g t ending
course-ended m root g number read frame t ShutDown e r f u w writing = (was-ended m g number read frame t r u w, w.whole e ∙ f)
course-ended m root g number read frame t SinkLost e r f u w writing = inr (w.count, w.written_is ∙ ap (take w.count) f, was-ended m g number read frame t r u w)
course-ended m root g number read frame t Replied e r f u w writing = absurd writing
course-ended m root g number read frame t SourceLost e r f u w writing = absurd writing
course-ended m root g number read frame t NoMemory e r f u w writing = absurd writing

-- nothing was written
pub appends-none : (old : Option (List ℕ)) → Appends old old []
appends-none None = tt
appends-none (Some told) = sym (append-nil told)
