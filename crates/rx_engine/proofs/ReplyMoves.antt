-- What a reply says of some states of the parts, it says of others that differ in the streams alone.
use Rattle.std.proofs.Common.{◌≡◌, ℕ, List, [], inl, inr, subst, sym}
use Rattle.std.specs.Prelude.{All, IfSome, None, Option, Some}
use Rattle.std.specs.Io.KnownBytes.{IsAtEnd}
use Rattle.rx_board.specs.declared.journal.Receipt.{Receipt}
use Rattle.rx_scan.specs.declared.gather_fault.GatherFault.{GatherFault}
use Rattle.rx_scan.specs.declared.gather_fault.GatherFault.TheVariants as fault
use Rattle.rx_scan.specs.declared.gathering.Gathered.{Gathered}
use Rattle.rx_scan.specs.Gathering.{BlamesGather}
use Rattle.rx_scan.specs.Lists.{Listing, stretch}
use Rattle.rx_session.specs.declared.cancels.CancelReason.{CancelReason}
use Rattle.rx_session.specs.declared.in_place.InPlaceCause.TheVariants as in_place
use Rattle.rx_session.specs.declared.replies.Reply.{Reply}
use Rattle.rx_session.specs.declared.replies.Reply.TheVariants as reply
use Rattle.rx_session.specs.declared.requests.Request.{Request}
use Rattle.rx_session.specs.Cancels.{IsCancelBy}
use Rattle.rx_session.specs.Frames.{behind}
use Rattle.rx_world.specs.declared.looks.Look.{Look}
use Rattle.rx_world.specs.declared.sources.Given.{Given}
use Rattle.rx_exec_messages.specs.declared.callers.Caller as callers
use Rattle.rx_world.specs.declared.benches.Bench as benches
use Rattle.rx_world.specs.declared.benches.BenchMaker as makers
use Rattle.rx_world.specs.declared.sources.Sources as sources
use Rattle.rx_world.specs.declared.streams.Sink as sinks
use Rattle.rx_world.specs.declared.streams.Source as inputs
use Rattle.rx_world.specs.declared.world.World as world
use Rattle.rx_world.specs.Inputs.{IsAsListed}
use Rattle.rx_engine.specs.declared.answered.Answered.{Answered}
use Rattle.rx_engine.specs.declared.attempts.Won.{Won}
use Rattle.rx_engine.specs.declared.desk.Parts.{Parts}
use Rattle.rx_engine.specs.declared.pending.Stage.{Stage}
use Rattle.rx_engine.specs.declared.pending.Stage.TheVariants as stages
use Rattle.rx_engine.specs.declared.transcripts.Tally.{Tally}
use Rattle.rx_engine.specs.Answers.{Answers, HasRun, HasWon, IsRefused, IsUnrun, MayHaveRun, asked_of, grounds}
use Rattle.rx_engine.specs.Attempts.{no_tally}
use Rattle.rx_engine.specs.Meanings.{meanings}
use Rattle.rx_engine.specs.Pending.{IsStageOf}
use Rattle.rx_engine.specs.Ready.{IsReadyAs}
use Rattle.rx_engine.specs.Session.{IsUntouched, Replies, RepliesTo, WasCancelledBy, WasHandled}
use Rattle.rx_engine.proofs.Moves.{IsSame, attempts-move, idle-move}

-- but for the streams the second pair of states is the first, and the input is in the same state at the end
pub record AreSame {I O T L M R C : Type 0} (p q r s : Parts I O T L M R C) : Type 0 where
  pub tree_before : r.tree ≡ p.tree
  pub tree_after : s.tree ≡ q.tree
  pub before : IsSame p r
  pub after : IsSame q s
  pub input_after : s.input ≡ q.input

module _ {W I O T L M B R C : Type 0} (w : world.Ghosts W) (i : inputs.Ghosts I) (o : sinks.Ghosts O) (t : sources.Ghosts T W) (l : sources.Ghosts L W) (k : makers.Ghosts M W B) (b : benches.Ghosts B W)
    (v : sources.Ghosts R W) (z : callers.Ghosts C W) (p q r s : Parts I O T L M R C) (same : AreSame p q r s) (xs : List Given) (ls : List Listing) (vs : List (List ℕ × Look)) where
  unrun-move : (tally : Tally) → IsUnrun (meanings w i o t l k b v z) (grounds p q xs ls vs) tally → IsUnrun (meanings w i o t l k b v z) (grounds r s xs ls vs) tally
  unrun-move tally h = record {
    idle = idle-move w i o t l k b v z p q r s same.before same.after h.idle;
    tally_is = h.tally_is;
  }

  -- nothing was asked, and no attempt was made
  pub untouched-move : (tally : Tally) → IsUntouched (meanings w i o t l k b v z) (grounds p q xs ls vs) tally → IsUntouched (meanings w i o t l k b v z) (grounds r s xs ls vs) tally
  untouched-move tally h = record { answers_are = h.answers_are; lists_are = h.lists_are; unrun = unrun-move tally h.unrun }

  listed-move : (gathered : Gathered) → (w.stamps_honest → t.keeps p.tree → IfSome (t.listed p.tree) (λ entries. All (IsAsListed entries) gathered.files))
      → w.stamps_honest → t.keeps r.tree → IfSome (t.listed r.tree) (λ entries. All (IsAsListed entries) gathered.files)
  listed-move gathered h =
      subst (λ x. w.stamps_honest → t.keeps x → IfSome (t.listed x) (λ entries. All (IsAsListed entries) gathered.files)) (sym same.tree_before) h

  run-move : (request : Request) (tally : Tally) → HasRun (meanings w i o t l k b v z) (grounds p q xs ls vs) request tally → HasRun (meanings w i o t l k b v z) (grounds r s xs ls vs) request tally
  run-move request tally h =
      let n = h.inputs in
      record {
        gathered = h.gathered;
        inputs = record {
          by = record { view_is = n.by.view_is; viewed = n.by.viewed; seen = n.by.seen; shown = n.by.shown };
          orderly = n.orderly;
          digests = n.digests;
          listed = listed-move h.gathered n.listed;
        };
        attempts = h.attempts;
        made = attempts-move w i o t l k b v z p q r s h.gathered request.accept_cached h.attempts same.before same.after h.made;
        tally_is = h.tally_is;
        unwatched = h.unwatched;
      }

  may-move : (request : Request) (tally : Tally) → MayHaveRun (meanings w i o t l k b v z) (grounds p q xs ls vs) request tally → MayHaveRun (meanings w i o t l k b v z) (grounds r s xs ls vs) request tally
  may-move request tally (inl h) = inl (unrun-move tally h)
  may-move request tally (inr h) = inr (run-move request tally h)

  won-move : (request : Request) (tally : Tally) (won : Won) → HasWon (meanings w i o t l k b v z) (grounds p q xs ls vs) request tally won → HasWon (meanings w i o t l k b v z) (grounds r s xs ls vs) request tally won
  unfolding run-move
  won-move request tally won h = record { run = run-move request tally h.run; won_is = h.won_is }

  refused-move : (request : Request) (receipt : Option Receipt) (tally : Tally) (why : GatherFault) → IsRefused (meanings w i o t l k b v z) (grounds p q xs ls vs) request receipt tally why → IsRefused (meanings w i o t l k b v z) (grounds r s xs ls vs) request receipt tally why
  refused-move request receipt tally why h = record {
    cause = subst (λ x. BlamesGather (asked_of request) why (stretch [] vs (t.faults x) (t.faults s.tree) xs ls)) (sym same.tree_before)
        (subst (λ y. BlamesGather (asked_of request) why (stretch [] vs (t.faults p.tree) (t.faults y) xs ls)) (sym same.tree_after) h.cause);
    unrun = unrun-move tally h.unrun;
    receipt_is = h.receipt_is;
  }

  answers-move : (request : Request) (receipt : Option Receipt) (tally : Tally) (answer : Reply) → Answers (meanings w i o t l k b v z) (grounds p q xs ls vs) request receipt tally answer → Answers (meanings w i o t l k b v z) (grounds r s xs ls vs) request receipt tally answer
  unfolding run-move
  answers-move request receipt tally (reply.Done exit stdout stderr from number placed) h = (h.0, won-move request tally h.0 h.1, h.2, h.3)
  answers-move request receipt tally (reply.PlaceFault number placed) h = (h.0, won-move request tally h.0 h.1, h.2, h.3)
  answers-move request receipt tally reply.JournalFull h = (h.0, won-move request tally h.0 h.1, h.2)
  answers-move request receipt tally (reply.AllFailed failures) h =
      (record { run = run-move request tally h.0.run; none_won = h.0.none_won; uncancelled = h.0.uncancelled; tellable = h.0.tellable }, h.1, h.2)
  answers-move request receipt tally (reply.Cancelled reason) h =
      (record { run = run-move request tally h.0.run; cancelled = h.0.cancelled; watched = h.0.watched }, h.1)
  answers-move request receipt tally (reply.NotRemotable why) h = (h.0, refused-move request receipt tally (fault.NotRemotable why) h.1)
  answers-move request receipt tally (reply.InputMissing path) h = refused-move request receipt tally (fault.InputMissing path) h
  answers-move request receipt tally (reply.InputChanged input) h = refused-move request receipt tally (fault.InputChanged input) h
  answers-move request receipt tally (reply.SourceFault path) h = refused-move request receipt tally (fault.SourceFault path) h
  answers-move request receipt tally (reply.TooLarge limit n path) h = (h.0, refused-move request receipt tally (fault.TooLarge limit n path) h.1)
  answers-move request receipt tally (reply.Blocked path) h = refused-move request receipt tally (fault.Blocked path) h
  answers-move request receipt tally (reply.InPlace (in_place.Kept why)) h = (h.0, refused-move request receipt tally (fault.NotRemotable why) h.1)
  answers-move request receipt tally (reply.InPlace (in_place.TooLarge limit)) h = (h.0, h.1, h.2, refused-move request receipt tally (fault.TooLarge limit h.1 h.2) h.3)
  answers-move request receipt tally (reply.BadRequest bad) h = absurd h
  answers-move request receipt tally reply.NoMemory h = (may-move request tally h.0, h.1)

  at-end : IsAtEnd (i.left q.input) → IsAtEnd (i.left s.input)
  at-end h = subst (λ x. IsAtEnd (i.left x)) (sym same.input_after) h

  to-move : (root read : List ℕ) (request : Option Request) (receipt : Option Receipt) (tally : Tally) (answer : Reply) → RepliesTo (meanings w i o t l k b v z) root (grounds p q xs ls vs) read request receipt tally answer → RepliesTo (meanings w i o t l k b v z) root (grounds r s xs ls vs) read request receipt tally answer
  to-move root read request receipt tally answer h =
      (h.0, record { request_is = h.1.request_is; decoded = h.1.decoded; ended = λ e. at-end (h.1.ended e) }, answers-move h.0 receipt tally answer h.2)

  handled-move : (request : Option Request) (tally : Tally) → WasHandled (meanings w i o t l k b v z) (grounds p q xs ls vs) request tally → WasHandled (meanings w i o t l k b v z) (grounds r s xs ls vs) request tally
  handled-move None tally h = unrun-move tally h
  handled-move (Some asked) tally h = may-move asked tally h

  -- a cancel stays what it was, where the input was in the same state at first too
  cancel-move : r.input ≡ p.input → (read : List ℕ) (reason : CancelReason) → WasCancelledBy (meanings w i o t l k b v z) (grounds p q xs ls vs) read reason → WasCancelledBy (meanings w i o t l k b v z) (grounds r s xs ls vs) read reason
  cancel-move first read reason h =
      subst (λ x. IsCancelBy reason (behind read) (i.left s.input) (i.faults x) (i.faults s.input)) (sym first)
      (subst (λ x. IsCancelBy reason (behind read) (i.left x) (i.faults p.input) (i.faults x)) (sym same.input_after) h)

  replies-move : r.input ≡ p.input → (root read : List ℕ) (request : Option Request) (receipt : Option Receipt) (tally : Tally) (answer : Reply) → Replies (meanings w i o t l k b v z) root (grounds p q xs ls vs) read request receipt tally answer → Replies (meanings w i o t l k b v z) root (grounds r s xs ls vs) read request receipt tally answer
  replies-move first root read request receipt tally (reply.BadRequest bad) h = (h.0, h.1, untouched-move tally h.2, h.3, λ cut. at-end (h.4 cut))
  replies-move first root read request receipt tally reply.NoMemory h = (h.0, handled-move request tally h.1, h.2)
  replies-move first root read request receipt tally (reply.Done exit stdout stderr from number placed) h = to-move root read request receipt tally (reply.Done exit stdout stderr from number placed) h
  replies-move first root read request receipt tally (reply.PlaceFault number placed) h = to-move root read request receipt tally (reply.PlaceFault number placed) h
  replies-move first root read request receipt tally (reply.NotRemotable why) h = to-move root read request receipt tally (reply.NotRemotable why) h
  replies-move first root read request receipt tally (reply.InputMissing path) h = to-move root read request receipt tally (reply.InputMissing path) h
  replies-move first root read request receipt tally (reply.InputChanged input) h = to-move root read request receipt tally (reply.InputChanged input) h
  replies-move first root read request receipt tally (reply.SourceFault path) h = to-move root read request receipt tally (reply.SourceFault path) h
  replies-move first root read request receipt tally (reply.TooLarge limit n path) h = to-move root read request receipt tally (reply.TooLarge limit n path) h
  replies-move first root read request receipt tally (reply.AllFailed failures) h = to-move root read request receipt tally (reply.AllFailed failures) h
  replies-move first root read request receipt tally (reply.Cancelled reason) h =
      (to-move root read request receipt tally (reply.Cancelled reason) h.0, cancel-move first read reason h.1)
  replies-move first root read request receipt tally reply.JournalFull h = to-move root read request receipt tally reply.JournalFull h
  replies-move first root read request receipt tally (reply.Blocked path) h = to-move root read request receipt tally (reply.Blocked path) h
  replies-move first root read request receipt tally (reply.InPlace cause) h = to-move root read request receipt tally (reply.InPlace cause) h

  pub ready-move : r.input ≡ p.input → (root read : List ℕ) (request : Option Request) (tally : Tally) (answered : Option Answered) → IsReadyAs (meanings w i o t l k b v z) root (grounds p q xs ls vs) read request tally answered → IsReadyAs (meanings w i o t l k b v z) root (grounds r s xs ls vs) read request tally answered
  ready-move first root read request tally None h = (h.0, handled-move request tally h.1)
  ready-move first root read request tally (Some a) h = (h.0, replies-move first root read request a.receipt tally a.reply h.1)

  -- the stage of a request
  pub stage-move : (request : Request) (stage : Stage) → IsStageOf (meanings w i o t l k b v z) (grounds p q xs ls vs) request stage → IsStageOf (meanings w i o t l k b v z) (grounds r s xs ls vs) request stage
  unfolding run-move
  stage-move request stages.Lost h = absurd h
  stage-move request (stages.ShutDown frame) h = absurd h
  stage-move request (stages.Refused None) h = (may-move request no_tally h.0, h.1)
  stage-move request (stages.Refused (Some a)) h = ((h.0.0, answers-move request a.receipt no_tally a.reply h.0.1), h.1)
  stage-move request (stages.Attempted attempted) h =
      record { run = run-move request attempted.tally h.run; won_is = h.won_is; cancelled_is = h.cancelled_is }
