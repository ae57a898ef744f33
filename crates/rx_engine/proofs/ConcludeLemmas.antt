-- From what was pending to the session.
use Rattle.std.proofs.Common.{◌≡◌, ◌≤◌, ◌∙◌, ℕ, List, [], ap, refl, subst, sym}
use Rattle.std.specs.Global.{Vec}
use Rattle.std.specs.Prelude.{IfSome, None, Option, Some}
use Rattle.std.specs.Io.KnownBytes.{Appends}
use Rattle.rx_board.specs.Board.{State}
use Rattle.rx_session.specs.declared.cancels.CancelReason.{CancelReason}
use Rattle.rx_session.specs.declared.replies.Reply.TheVariants as reply
use Rattle.rx_session.specs.declared.requests.Request.{Request}
use Rattle.rx_session.specs.Frames.{shutdown, shutdown_done}
use Rattle.rx_exec_messages.specs.declared.callers.Caller as callers
use Rattle.rx_world.specs.declared.benches.Bench as benches
use Rattle.rx_world.specs.declared.benches.BenchMaker as makers
use Rattle.rx_world.specs.declared.places.Place as places
use Rattle.rx_world.specs.declared.sources.Sources as sources
use Rattle.rx_world.specs.declared.streams.Sink as sinks
use Rattle.rx_world.specs.declared.streams.Source as inputs
use Rattle.rx_world.specs.declared.world.World as world
use Rattle.rx_world.specs.Causes.{Rose}
use Rattle.rx_world.specs.Outcomes.{listing}
use Rattle.rx_engine.specs.declared.answered.Answered.{Answered}
use Rattle.rx_engine.specs.declared.attempts.Attempted.{Attempted}
use Rattle.rx_engine.specs.declared.attempts.Won.{Won}
use Rattle.rx_engine.specs.declared.desk.Parts.{Parts}
use Rattle.rx_engine.specs.declared.pending.Pending.{Pending}
use Rattle.rx_engine.specs.declared.pending.Stage.TheVariants as stages
use Rattle.rx_engine.specs.declared.transcripts.Ending.TheVariants.{SinkLost}
use Rattle.rx_engine.specs.declared.transcripts.Tally.{Tally}
use Rattle.rx_engine.specs.declared.transcripts.Transcript.{Transcript}
use Rattle.rx_engine.specs.Answers.{Grounds, grounds}
use Rattle.rx_engine.specs.Attempts.{no_tally}
use Rattle.rx_engine.specs.Gathers.{AnswersMade}
use Rattle.rx_engine.specs.Journal.{JournalsBoard, files_of}
use Rattle.rx_engine.specs.Meanings.{Meanings, meanings}
use Rattle.rx_engine.specs.Pending.{HasTried, IsConcluded, IsFirstWon, IsPending, IsStage}
use Rattle.rx_engine.specs.Ready.{EntersAs, FinishesAs, IsLost, IsReadyAs, WroteEnd}
use Rattle.rx_engine.specs.Session.{IsReadTo, IsSession, IsUntouched, WasCancelledBy}
use Rattle.rx_engine.proofs.AnswerLemmas.{tells-cancel, tried-answers}
use Rattle.rx_engine.proofs.CourseLemmas.{appends-none, course-ended, session-finished}
use Rattle.rx_engine.proofs.Entries.{enters-nothing, unpublished-enters}
use Rattle.rx_engine.proofs.MadeLemmas.{won-files}
use Rattle.rx_engine.proofs.Moves.{same-none, tells-move}
use Rattle.rx_engine.proofs.PendingLemmas.{ready-asked}
use Rattle.rx_engine.proofs.ReplyMoves.{AreSame, ready-move, untouched-move}

-- nothing more was written
appends-same : (old mid : Option (List ℕ)) → mid ≡ old → Appends old mid []
appends-same old mid e = subst (λ x. Appends old x []) (sym e) (appends-none old)

module _ {W I O T L M B R C : Type 0} (w : world.Ghosts W) (i : inputs.Ghosts I) (o : sinks.Ghosts O) (t : sources.Ghosts T W) (l : sources.Ghosts L W) (k : makers.Ghosts M W B) (b : benches.Ghosts B W)
    (v : sources.Ghosts R W) (z : callers.Ghosts C W) where
  -- an answer was ready, and it was written
  written-session : (root : List ℕ) (p q : Parts I O T L M R C) (sink : O) (number : ℕ) (pending : Pending) (tally : Tally) (answered : Option Answered) (kept : Transcript)
      → (h : IsPending (meanings w i o t l k b v z) root p q pending)
      → IsReadyAs (meanings w i o t l k b v z) root (grounds p q h.answers h.lists h.view) pending.read pending.request tally answered
      → FinishesAs number pending.read pending.request tally answered kept
      → Appends (o.taken q.output) (o.taken sink) kept.written
      → (kept.ending ≡ SinkLost → Rose (o.faults q.output) (o.faults sink)) → o.faults q.output ≤ o.faults sink
      → IsSession (meanings w i o t l k b v z) root p (record q { output = sink }) kept
  written-session root p q sink number pending tally answered kept h ready finished written lost later =
      let last : Parts I O T L M R C = record q { output = sink } in
      let same : AreSame p q p last = record { tree_before = refl; tree_after = refl; before = same-none p; after = record { here = record { tree_local = refl; benches = refl }; there = record { tree_remote = refl; farm = refl } }; input_after = refl } in
      session-finished (meanings w i o t l k b v z) root p last number pending.read pending.request tally answered kept h.answers h.lists h.view
      h.read h.reach
      (subst (λ x. Appends x (o.taken sink) kept.written) h.unwritten written)
      (tells-move w i o t l k b v z p q p last h.answers h.lists refl refl h.looked)
      (ready-move w i o t l k b v z p q p last same h.answers h.lists h.view refl root pending.read pending.request tally answered ready)
      finished
      (λ e. subst (λ x. Rose x (o.faults sink)) h.uncounted (lost e))
      (record {
        input = h.later.input;
        output = subst (λ x. x ≤ o.faults sink) h.uncounted later;
        tree = h.later.tree;
        attempts = record { tree_local = h.later.attempts.tree_local; benches = h.later.attempts.benches; tree_remote = h.later.attempts.tree_remote; farm = h.later.attempts.farm };
      })

  -- the input was lost
  lost-session : (root : List ℕ) (p q : Parts I O T L M R C) (number : ℕ) (pending : Pending) (kept : Transcript)
      → IsPending (meanings w i o t l k b v z) root p q pending → pending.stage ≡ stages.Lost → IsLost number pending.read kept
      → IsSession (meanings w i o t l k b v z) root p q kept
  lost-session root p q number pending kept h stage lost =
      let at = subst (λ x. IsStage (meanings w i o t l k b v z) root (grounds p q h.answers h.lists h.view) pending.read pending.request x) stage h.stage in
      record {
        answers = h.answers;
        lists = h.lists;
        view = h.view;
        read = rw lost.read_is h.read;
        reach = rw (lost.read_is, lost.request_is) (subst (IsReadTo pending.read) at.0 h.reach);
        written = rw lost.written_is (appends-same _ _ h.unwritten);
        looked = h.looked;
        course = rw (lost.ending_is, lost.tally_is) (lost.reply_is, lost.request_is, lost.written_is, lost.receipt_is, at.1);
        source = λ e. at.2;
        sink = λ e. absurd (let x = lost.ending_is in cc);
        later = h.later;
      }

  -- the end of the run was asked for
  ended-session : (root : List ℕ) (p q : Parts I O T L M R C) (sink : O) (number : ℕ) (pending : Pending) (frame : List ℕ) (kept : Transcript)
      → (h : IsPending (meanings w i o t l k b v z) root p q pending)
      → (pending.read ≡ shutdown) × (pending.request ≡ None) × IsUntouched (meanings w i o t l k b v z) (grounds p q h.answers h.lists h.view) no_tally × (frame ≡ shutdown_done)
      → WroteEnd number pending.read frame kept
      → Appends (o.taken q.output) (o.taken sink) kept.written
      → (kept.ending ≡ SinkLost → Rose (o.faults q.output) (o.faults sink)) → o.faults q.output ≤ o.faults sink
      → IsSession (meanings w i o t l k b v z) root p (record q { output = sink }) kept
  ended-session root p q sink number pending frame kept h stage wrote written lost later =
      let last : Parts I O T L M R C = record q { output = sink } in
      let same : AreSame p q p last = record { tree_before = refl; tree_after = refl; before = same-none p; after = record { here = record { tree_local = refl; benches = refl }; there = record { tree_remote = refl; farm = refl } }; input_after = refl } in
      record {
        answers = h.answers;
        lists = h.lists;
        view = h.view;
        read = rw wrote.read_is h.read;
        reach = rw (wrote.read_is, wrote.request_is) (subst (IsReadTo pending.read) stage.1 h.reach);
        written = subst (λ x. Appends x (o.taken sink) kept.written) h.unwritten written;
        looked = tells-move w i o t l k b v z p q p last h.answers h.lists refl refl h.looked;
        course = course-ended (meanings w i o t l k b v z) root (grounds p last h.answers h.lists h.view) number pending.read frame kept kept.ending refl stage.0 stage.3
            (untouched-move w i o t l k b v z p q p last same h.answers h.lists h.view no_tally stage.2) wrote wrote.writing;
        source = λ e. absurd (rw e at wrote.writing);
        sink = λ e. subst (λ x. Rose x (o.faults sink)) h.uncounted (lost e);
        later = record {
          input = h.later.input;
          output = subst (λ x. x ≤ o.faults sink) h.uncounted later;
          tree = h.later.tree;
          attempts = record { tree_local = h.later.attempts.tree_local; benches = h.later.attempts.benches; tree_remote = h.later.attempts.tree_remote; farm = h.later.attempts.farm };
        };
      }

-- ---- the journal

module _ {Q : Type 0} (pl : places.Ghosts Q) where
  -- what was ready is what the transcript says of the journal
  written-journal : (old new : State Q) (number : ℕ) (read : List ℕ) (request : Option Request) (tally : Tally) (answered : Option Answered) (kept : Transcript)
      → EntersAs pl old new number tally.ends answered → FinishesAs number read request tally answered kept → JournalsBoard pl old new kept
  written-journal old new number read request tally None kept entered finished =
      rw (finished.number_is, finished.receipt_is, finished.reply_is) (enters-nothing old.limit old.journal new.journal _ _ number None _ None entered refl (λ e. cc))
  written-journal old new number read request tally (Some a) kept entered finished =
      let ends_are : kept.ends ≡ tally.ends = ap (λ (x : Tally). x.ends) finished.tally_is in
      rw (finished.number_is, finished.receipt_is, finished.reply_is, ends_are) entered

  -- a session that lost its input entered nothing
  lost-journal : (board : State Q) (number : ℕ) (read : List ℕ) (kept : Transcript) → IsLost number read kept → JournalsBoard pl board board kept
  lost-journal board number read kept lost =
      rw (lost.number_is, lost.receipt_is, lost.reply_is) (enters-nothing board.limit board.journal board.journal _ _ number None _ None refl refl (λ e. cc))

  -- nor did one that was asked to end the run
  ended-journal : (board : State Q) (number : ℕ) (read frame : List ℕ) (kept : Transcript) → WroteEnd number read frame kept → JournalsBoard pl board board kept
  ended-journal board number read frame kept wrote =
      rw (wrote.number_is, wrote.receipt_is, wrote.reply_is) (enters-nothing board.limit board.journal board.journal _ _ number None _ None refl refl (λ e. cc))

-- the outcome that won is the first among the ends
first-won : {P W B : Type 0} (m : Meanings P W B) (g : Grounds P) (request : Request) (attempted : Attempted) → HasTried m g request attempted
    → (won : Option Won) → attempted.won ≡ won → IfSome won (λ x. files_of attempted.tally.ends ≡ listing x.outcome.files)
first-won m g request attempted h None e = tt
first-won m g request attempted h (Some won) e =
    let run = h.run in
    won-files m run.gathered request.accept_cached g.before g.after run.attempts run.made won attempted.tally (sym h.won_is ∙ e) run.tally_is

-- where the answer tells of a cancel, that was heard
made-why : {P W B : Type 0} (m : Meanings P W B) (g : Grounds P) (read : List ℕ) (attempted : Attempted) (answered : Option Answered)
    → IfSome answered (AnswersMade attempted.won attempted.heard.cancelled attempted.tally.ends) → IfSome attempted.heard.cancelled (WasCancelledBy m g read)
    → IfSome answered (λ a. (reason : CancelReason) → a.reply ≡ reply.Cancelled reason → WasCancelledBy m g read reason)
made-why m g read attempted None made why = tt
made-why m g read attempted (Some a) made why = λ reason e.
    let cancelled = tells-cancel attempted.won attempted.heard.cancelled attempted.tally.ends a reason made e in
    subst (λ x. IfSome x (WasCancelledBy m g read)) cancelled why

-- ---- the whole

module _ {W I O T L M B R C Q : Type 0} (w : world.Ghosts W) (i : inputs.Ghosts I) (o : sinks.Ghosts O) (t : sources.Ghosts T W) (l : sources.Ghosts L W) (k : makers.Ghosts M W B) (b : benches.Ghosts B W)
    (v : sources.Ghosts R W) (z : callers.Ghosts C W) (pl : places.Ghosts Q) (q : Parts I O T L M R C) (number : ℕ) (pending : Pending) (kept : Transcript) where
  -- the input was lost
  pub concluded-lost : (board : State Q) → pending.stage ≡ stages.Lost → IsLost number pending.read kept
      → IsConcluded (meanings w i o t l k b v z) pl pending q q board board kept
  concluded-lost board stage lost = record {
    own = λ root p h. lost-session w i o t l k b v z root p q number pending kept h stage lost;
    journal = λ root p h. lost-journal pl board number pending.read kept lost;
  }

  -- the end of the run was asked for
  pub concluded-ended : (sink : O) (board : State Q) (frame : Vec ℕ) → pending.stage ≡ stages.ShutDown frame → WroteEnd number pending.read frame.items kept
      → Appends (o.taken q.output) (o.taken sink) kept.written
      → (kept.ending ≡ SinkLost → Rose (o.faults q.output) (o.faults sink)) → o.faults q.output ≤ o.faults sink
      → IsConcluded (meanings w i o t l k b v z) pl pending q (record q { output = sink }) board board kept
  concluded-ended sink board frame stage wrote written lost later = record {
    own = λ root p h. ended-session w i o t l k b v z root p q sink number pending frame.items kept h
        (subst (λ x. IsStage (meanings w i o t l k b v z) root (grounds p q h.answers h.lists h.view) pending.read pending.request x) stage h.stage)
        wrote written lost later;
    journal = λ root p h. ended-journal pl board number pending.read frame.items kept wrote;
  }

  -- no attempt was made
  pub concluded-refused : (sink : O) (board : State Q) (tally : Tally) (answered : Option Answered) → pending.stage ≡ stages.Refused answered → tally ≡ no_tally
      → FinishesAs number pending.read pending.request tally answered kept → Appends (o.taken q.output) (o.taken sink) kept.written
      → (kept.ending ≡ SinkLost → Rose (o.faults q.output) (o.faults sink)) → o.faults q.output ≤ o.faults sink
      → IsConcluded (meanings w i o t l k b v z) pl pending q (record q { output = sink }) board board kept
  concluded-refused sink board tally answered stage none finished written lost later =
      let at = λ (root : List ℕ) (p : Parts I O T L M R C) (h : IsPending (meanings w i o t l k b v z) root p q pending).
      subst (λ x. IsStage (meanings w i o t l k b v z) root (grounds p q h.answers h.lists h.view) pending.read pending.request x) stage h.stage in
      record {
        own = λ root p h. written-session w i o t l k b v z root p q sink number pending tally answered kept h
            (subst (λ x. IsReadyAs (meanings w i o t l k b v z) root (grounds p q h.answers h.lists h.view) pending.read pending.request x answered) (sym none) (at root p h).0)
            finished written lost later;
        journal = λ root p h. written-journal pl board board number pending.read pending.request tally answered kept
            (unpublished-enters pl board board number tally.ends answered refl (at root p h).1) finished;
      }

  -- the attempts were made
  pub concluded-attempted : (sink : O) (old new : State Q) (attempted : Attempted) (answered : Option Answered) → pending.stage ≡ stages.Attempted attempted
      → IfSome answered (AnswersMade attempted.won attempted.heard.cancelled attempted.tally.ends) → (IsFirstWon attempted → EntersAs pl old new number attempted.tally.ends answered)
      → FinishesAs number pending.read pending.request attempted.tally answered kept → Appends (o.taken q.output) (o.taken sink) kept.written
      → (kept.ending ≡ SinkLost → Rose (o.faults q.output) (o.faults sink)) → o.faults q.output ≤ o.faults sink
      → IsConcluded (meanings w i o t l k b v z) pl pending q (record q { output = sink }) old new kept
  concluded-attempted sink old new attempted answered stage made entered finished written lost later =
      let at = λ (root : List ℕ) (p : Parts I O T L M R C) (h : IsPending (meanings w i o t l k b v z) root p q pending).
      subst (λ x. IsStage (meanings w i o t l k b v z) root (grounds p q h.answers h.lists h.view) pending.read pending.request x) stage h.stage in
      record {
        own = λ root p h.
            let g = grounds p q h.answers h.lists h.view in
            let tried = at root p h in
            written-session w i o t l k b v z root p q sink number pending attempted.tally answered kept h
            (subst (λ x. IsReadyAs (meanings w i o t l k b v z) root g pending.read x attempted.tally answered) (sym tried.1.request_is)
            (ready-asked (meanings w i o t l k b v z) root g pending.read tried.0 attempted.tally answered
            (record { request_is = refl; decoded = tried.1.decoded; ended = tried.1.ended })
            (made-why (meanings w i o t l k b v z) g pending.read attempted answered made tried.3)
            (tried-answers (meanings w i o t l k b v z) g tried.0 attempted answered tried.2 made)))
            finished written lost later;
        journal = λ root p h.
            let tried = at root p h in
            written-journal pl old new number pending.read pending.request attempted.tally answered kept
            (entered (first-won (meanings w i o t l k b v z) (grounds p q h.answers h.lists h.view) tried.0 attempted tried.2 attempted.won refl)) finished;
      }
