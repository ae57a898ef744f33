-- What a session comes to before anything is published.
use Rattle.std.proofs.Common.{◌≡◌, ◌∙◌, ◌⊎◌, ◌≤◌, ℕ, Bool, true, false, List, [], ◌++◌, ap, append-nil, arith, inl, inr, length, refl, subst, sym}
use Rattle.std.proofs.KnownBytes.{Consumes-nil, Consumes-trans}
use Rattle.std.specs.Prelude.{Err, IfOk, IfSome, None, Ok, Option, Result, Some}
use Rattle.std.specs.Io.KnownBytes.{Consumes, IsAtEnd}
use Rattle.rx_board.specs.declared.journal.Receipt.{Receipt}
use Rattle.rx_core.proofs.Cases.{false-true}
use Rattle.rx_session.specs.declared.bad.Bad.{Bad}
use Rattle.rx_session.specs.declared.bad.BadReason.TheVariants.{CutShort}
use Rattle.rx_session.specs.declared.bad.SessionFault.{SessionFault}
use Rattle.rx_session.specs.declared.bad.SessionFault.TheVariants as faults
use Rattle.rx_session.specs.declared.cancels.CancelReason.{CancelReason}
use Rattle.rx_session.specs.declared.cancels.CancelReason.TheVariants.{Asked, Ended, Lost, OtherBytes}
use Rattle.rx_session.specs.declared.replies.Reply.{Reply}
use Rattle.rx_session.specs.declared.replies.Reply.TheVariants as reply
use Rattle.rx_session.specs.declared.requests.Request.{Request}
use Rattle.rx_session.specs.Bad.{Decodes}
use Rattle.rx_session.specs.declared.frames.Incoming.{Incoming}
use Rattle.rx_session.specs.declared.frames.Incoming.TheVariants as incomings
use Rattle.rx_session.specs.Cancels.{IsCancelBy}
use Rattle.rx_session.specs.Frames.{EndsRead, IsRequest, behind, incoming_of, reach_of}
use Rattle.rx_session.proofs.DecodedLemmas.{outputs-below}
use Rattle.rx_session.proofs.ShutdownLemmas.{shutdown_read}
use Rattle.rx_session.proofs.WatchLemmas.{behind-more, incoming-watched}
use Rattle.rx_race.specs.declared.events.Verdict.TheVariants.{Won}
use Rattle.rx_exec_messages.specs.declared.callers.Caller as callers
use Rattle.rx_world.specs.declared.benches.Bench as benches
use Rattle.rx_world.specs.declared.benches.BenchMaker as makers
use Rattle.rx_world.specs.declared.sources.Sources as sources
use Rattle.rx_world.specs.declared.streams.Sink as sinks
use Rattle.rx_world.specs.declared.streams.Source as inputs
use Rattle.rx_world.specs.declared.world.World as world
use Rattle.rx_world.specs.Causes.{Rose}
use Rattle.rx_engine.specs.declared.answered.Answered.{Answered}
use Rattle.rx_engine.specs.declared.desk.Parts.{Parts}
use Rattle.rx_engine.specs.declared.pending.Pending.{Pending}
use Rattle.rx_engine.specs.declared.pending.Stage.{Stage}
use Rattle.rx_engine.specs.declared.pending.Stage.TheVariants as stages
use Rattle.rx_engine.specs.declared.transcripts.Tally.{Tally}
use Rattle.rx_engine.specs.Answered.{IsPlain, bad_request, reply_no_memory}
use Rattle.rx_engine.specs.Answers.{Answers, Grounds, IsUnrun, grounds}
use Rattle.rx_engine.specs.Attempts.{AreLaterThan, no_tally}
use Rattle.rx_engine.specs.Meanings.{Meanings, meanings}
use Rattle.rx_engine.specs.Pending.{HasAnswered, HasOutputsIfAsked, IsEndOfRun, IsPending, IsRefusalOf, IsStage, IsStageOf, IsStarved}
use Rattle.rx_engine.specs.Ready.{AnswersAs, IsReadyAs}
use Rattle.rx_engine.specs.Session.{IsAsked, IsReadTo, IsUntouched, Replies, WasCancelledBy}
use Rattle.rx_engine.specs.Watching.{ListensIn, heard_in}
use Rattle.rx_engine.proofs.AnswerLemmas.{tells-none}
use Rattle.rx_engine.proofs.AttemptLemmas.{idle-none}
use Rattle.rx_engine.proofs.Moves.{idle-move, same-none, tells-in, tells-move}
use Rattle.rx_engine.proofs.RaceLemmas.{unused-told}
use Rattle.rx_engine.proofs.ReplyMoves.{AreSame, stage-move}
use Rattle.rx_engine.proofs.Unpublished.{bad, given-up as given-up-unpublished}

-- what was heard behind the request is why the race was cancelled, where it was
abbrev WhyIn : {P W B : Type 0} → Meanings P W B → Grounds P → List ℕ → Stage → Type 0
WhyIn m g read stages.Lost = Unit {0}
WhyIn m g read (stages.ShutDown frame) = Unit {0}
WhyIn m g read (stages.Refused answered) = Unit {0}
WhyIn m g read (stages.Attempted attempted) = IfSome attempted.heard.cancelled (WasCancelledBy m g read)

module _ {P W B : Type 0} (m : Meanings P W B) (root : List ℕ) (g : Grounds P) (read : List ℕ) where
  replies-asked : (asked : Request) (receipt : Option Receipt) (tally : Tally) (answer : Reply)
      → IsAsked m root g read (Some asked) asked → ((reason : CancelReason) → answer ≡ reply.Cancelled reason → WasCancelledBy m g read reason)
      → Answers m g asked receipt tally answer → Replies m root g read (Some asked) receipt tally answer
  replies-asked asked receipt tally (reply.Done exit stdout stderr from number placed) i heard a = (asked, i, a)
  replies-asked asked receipt tally (reply.PlaceFault number placed) i heard a = (asked, i, a)
  replies-asked asked receipt tally (reply.NotRemotable why) i heard a = (asked, i, a)
  replies-asked asked receipt tally (reply.InputMissing path) i heard a = (asked, i, a)
  replies-asked asked receipt tally (reply.InputChanged input) i heard a = (asked, i, a)
  replies-asked asked receipt tally (reply.SourceFault path) i heard a = (asked, i, a)
  replies-asked asked receipt tally (reply.TooLarge limit n path) i heard a = (asked, i, a)
  replies-asked asked receipt tally (reply.AllFailed failures) i heard a = (asked, i, a)
  replies-asked asked receipt tally (reply.Cancelled reason) i heard a = ((asked, i, a), heard reason refl)
  replies-asked asked receipt tally reply.JournalFull i heard a = (asked, i, a)
  replies-asked asked receipt tally (reply.Blocked path) i heard a = (asked, i, a)
  replies-asked asked receipt tally (reply.InPlace cause) i heard a = (asked, i, a)
  replies-asked asked receipt tally (reply.BadRequest bad) i heard a = absurd a
  replies-asked asked receipt tally reply.NoMemory i heard a = (i.decoded, a.0, a.1)

  pub ready-asked : (asked : Request) (tally : Tally) (answered : Option Answered) → IsAsked m root g read (Some asked) asked
      → IfSome answered (λ a. (reason : CancelReason) → a.reply ≡ reply.Cancelled reason → WasCancelledBy m g read reason)
      → AnswersAs m g asked tally answered → IsReadyAs m root g read (Some asked) tally answered
  ready-asked asked tally None i why h = (i.decoded, h)
  ready-asked asked tally (Some a) i why h = (h.0, replies-asked asked a.receipt tally a.reply i why h.1)

  -- nobody cancels a session that makes no attempt
  not-cancelled : (asked : Request) (receipt : Option Receipt) (answer : Reply) (reason : CancelReason) → Answers m g asked receipt no_tally answer → answer ≡ reply.Cancelled reason → ⊥
  not-cancelled asked receipt answer reason h e =
      let cancelled = subst (Answers m g asked receipt no_tally) e h in
      unused-told Won cancelled.0.cancelled

  never-cancelled : (asked : Request) (answered : Option Answered) → AnswersAs m g asked no_tally answered
      → IfSome answered (λ a. (reason : CancelReason) → a.reply ≡ reply.Cancelled reason → WasCancelledBy m g read reason)
  never-cancelled asked None h = tt
  never-cancelled asked (Some a) h = λ reason e. absurd (not-cancelled asked a.receipt a.reply reason h.1 e)

  -- where memory ran out there is nothing to be ready, or the reply that says so
  given-up : (tally : Tally) (answered : Option Answered) → IsUnrun m g tally → IfSome answered (IsPlain reply_no_memory) → IsReadyAs m root g read None tally answered
  given-up tally None u h = (tt, u)
  given-up tally (Some a) u h = (h.frame, rw h.reply_is (tt, u, h.receipt_is))

  ready-bad : (bad : Bad) (tally : Tally) (answered : Option Answered)
      → incoming_of root read ≡ Err bad → IsUntouched m g tally → (bad.reason ≡ CutShort → IsAtEnd (m.input.left g.after))
      → IfSome answered (λ a. IsPlain (bad_request bad) a ⊎ IsPlain reply_no_memory a)
      → IsReadyAs m root g read None tally answered
  ready-bad bad tally None d u cut h = (tt, u.unrun)
  ready-bad bad tally (Some a) d u cut (inl h) = (h.frame, rw h.reply_is (d, refl, u, h.receipt_is, cut))
  ready-bad bad tally (Some a) d u cut (inr h) = given-up tally (Some a) u.unrun h

  -- what was made of a request
  pub stage-asked : (asked : Request) (stage : Stage) → IsAsked m root g read (Some asked) asked → WhyIn m g read stage → IsStageOf m g asked stage → IsStage m root g read (Some asked) stage
  stage-asked asked stages.Lost i why h = absurd h
  stage-asked asked (stages.ShutDown frame) i why h = absurd h
  stage-asked asked (stages.Refused answered) i why h = (ready-asked asked no_tally answered i (never-cancelled asked answered h.0) h.0, h.1)
  stage-asked asked (stages.Attempted attempted) i why h = (asked, i, h, why)

  -- there was no memory to serve a request
  pub stage-starved : (asked : Request) (answered : Option Answered) → IsAsked m root g read (Some asked) asked → IsUnrun m g no_tally → IfSome answered (IsPlain reply_no_memory)
      → IsStage m root g read (Some asked) (stages.Refused answered)
  stage-starved asked None i u h = ((i.decoded, inl u), tt)
  stage-starved asked (Some a) i u h = ((h.frame, rw h.reply_is (i.decoded, inl u, h.receipt_is)), given-up-unpublished (Some a) h)

  -- what was made of bytes that are no request
  pub stage-refused : (fault : SessionFault) (stage : Stage) → IsUntouched m g no_tally → Decodes (λ x. x) (Err fault) (incoming_of root read) → EndsRead (m.input.left g.after) (Err fault)
      → (fault ≡ faults.ReadFault → Rose (m.input.faults g.before) (m.input.faults g.after)) → IsRefusalOf fault stage → IsStage m root g read None stage
  stage-refused (faults.Bad why) (stages.Refused answered) u d end rose h = (ready-bad why no_tally answered d u end h, bad answered why h)
  stage-refused (faults.Bad why) stages.Lost u d end rose h = absurd h
  stage-refused (faults.Bad why) (stages.Attempted attempted) u d end rose h = absurd h
  stage-refused faults.NoMemory (stages.Refused answered) u d end rose h = (given-up no_tally answered u.unrun h, given-up-unpublished answered h)
  stage-refused faults.NoMemory stages.Lost u d end rose h = absurd h
  stage-refused faults.NoMemory (stages.Attempted attempted) u d end rose h = absurd h
  stage-refused faults.ReadFault stages.Lost u d end rose h = (refl, u, rose refl)
  stage-refused faults.ReadFault (stages.Refused answered) u d end rose h = absurd h
  stage-refused faults.ReadFault (stages.Attempted attempted) u d end rose h = absurd h
  stage-refused fault (stages.ShutDown frame) u d end rose h = absurd h

  -- what was made of a Shutdown
  pub stage-ended : (stage : Stage) → IsUntouched m g no_tally → incoming_of root read ≡ Ok incomings.Shutdown → length read ≤ reach_of read → IsEndOfRun stage → IsStage m root g read None stage
  stage-ended (stages.ShutDown frame) u d reach h = (shutdown_read root read d reach, refl, u, h)
  stage-ended (stages.Refused answered) u d reach h = rw h ((tt, u.unrun), tt)
  stage-ended stages.Lost u d reach h = absurd h
  stage-ended (stages.Attempted attempted) u d reach h = absurd h

-- a request that was read has its outputs below its working directory
pub read-outputs : (root read : List ℕ) (asked : Result Incoming SessionFault) → Decodes (λ incoming. incoming) asked (incoming_of root read) → IfOk asked HasOutputsIfAsked
read-outputs root read (Ok (incomings.Request request)) h = outputs-below root read request h
read-outputs root read (Ok incomings.Shutdown) h = tt
read-outputs root read (Err fault) h = tt

-- what is pending, by its parts
pending-is : (pending : Pending) (read : List ℕ) (request : Option Request) (stage : Stage) → pending.read ≡ read → pending.request ≡ request → pending.stage ≡ stage
    → pending ≡ record { read = read; request = request; stage = stage }
pending-is pending read request stage a b c = rw (sym a, sym b, sym c) refl

-- a count that rose since the request was read rose since the session began
why-later : (cancelled : Option CancelReason) (bytes : List ℕ) (left : Option (List ℕ)) (first before now : ℕ) → first ≤ before
    → IfSome cancelled (λ reason. IsCancelBy reason bytes left before now) → IfSome cancelled (λ reason. IsCancelBy reason bytes left first now)
why-later None bytes left first before now le h = tt
why-later (Some Asked) bytes left first before now le h = h
why-later (Some Ended) bytes left first before now le h = h
why-later (Some OtherBytes) bytes left first before now le h = h
why-later (Some Lost) bytes left first before now le h = omega (arith, le, h)

module _ {W I O T L M B R C : Type 0} (w : world.Ghosts W) (i : inputs.Ghosts I) (o : sinks.Ghosts O) (t : sources.Ghosts T W) (l : sources.Ghosts L W) (k : makers.Ghosts M W B) (b : benches.Ghosts B W)
    (v : sources.Ghosts R W) (z : callers.Ghosts C W) where
  keeps-none : (source after : I) → i.left after ≡ i.left source → Consumes (i.left source) (i.left after) []
  keeps-none source after e = subst (λ x. Consumes (i.left source) x []) (sym e) (Consumes-nil (i.left source))

  -- the input was left alone but for what was heard
  heard-consumed : (watch : Bool) (source after : I) (stage : Stage) → ListensIn i watch source after stage → Consumes (i.left source) (i.left after) (heard_in stage)
  heard-consumed watch source after stages.Lost h = keeps-none source after h.0
  heard-consumed watch source after (stages.ShutDown frame) h = keeps-none source after h.0
  heard-consumed watch source after (stages.Refused answered) h = keeps-none source after h.0
  heard-consumed watch source after (stages.Attempted attempted) h = h.heard_is.consumed

  heard-later : (watch : Bool) (source after : I) (stage : Stage) → ListensIn i watch source after stage → i.faults source ≤ i.faults after
  heard-later watch source after stages.Lost h = let e = h.1 in omega arith
  heard-later watch source after (stages.ShutDown frame) h = let e = h.1 in omega arith
  heard-later watch source after (stages.Refused answered) h = let e = h.1 in omega arith
  heard-later watch source after (stages.Attempted attempted) h = h.heard_is.later

  -- as much at most as a Cancel has
  heard-few : (watch : Bool) (source after : I) (stage : Stage) → ListensIn i watch source after stage → length (heard_in stage) ≤ 5
  heard-few watch source after stages.Lost h = omega arith
  heard-few watch source after (stages.ShutDown frame) h = omega arith
  heard-few watch source after (stages.Refused answered) h = omega arith
  heard-few watch source after (stages.Attempted attempted) h = h.heard_is.few

  heard-none : (source after : I) (stage : Stage) → ListensIn i false source after stage → (heard_in stage ≡ []) × (i.left after ≡ i.left source)
  heard-none source after stages.Lost h = (refl, h.0)
  heard-none source after (stages.ShutDown frame) h = (refl, h.0)
  heard-none source after (stages.Refused answered) h = (refl, h.0)
  heard-none source after (stages.Attempted attempted) h = let none = h.unwatched refl in (none.bytes_are, none.left_is)

  -- what was read is the request still, with what was heard behind it
  heard-request : (root read : List ℕ) (request : Request) (source after : I) (stage : Stage) (watch : Bool) → request.watch ≡ watch → IsRequest root read request
      → ListensIn i watch source after stage → IsRequest root (read ++ heard_in stage) request
  heard-request root read request source after stage true e decodes h = incoming-watched root read (heard_in stage) request decodes e
  heard-request root read request source after stage false e decodes h =
      let none = heard-none source after stage h in
      rw (none.0, append-nil read) decodes

  heard-end : (request : Request) (source after : I) (stage : Stage) (watch : Bool) → request.watch ≡ watch → EndsRead (i.left source) (Ok (incomings.Request request))
      → ListensIn i watch source after stage → request.watch ≡ false → IsAtEnd (i.left after)
  heard-end request source after stage true e ended h f = absurd (false-true (sym f ∙ e))
  heard-end request source after stage false e ended h f =
      let none = heard-none source after stage h in
      rw none.1 (ended e)

  heard-why : (p q : Parts I O T L M R C) (source : I) (root read : List ℕ) (request : Request) (stage : Stage) (g : Grounds (Parts I O T L M R C)) → g.before ≡ p → g.after ≡ q → IsRequest root read request → behind read ≡ []
      → i.faults p.input ≤ i.faults source → ListensIn i request.watch source q.input stage → WhyIn (meanings w i o t l k b v z) g (read ++ heard_in stage) stage
  heard-why p q source root read request stages.Lost g e f decodes bare risen h = tt
  heard-why p q source root read request (stages.ShutDown frame) g e f decodes bare risen h = tt
  heard-why p q source root read request (stages.Refused answered) g e f decodes bare risen h = tt
  heard-why p q source root read request (stages.Attempted attempted) g e f decodes bare risen h =
      rw (e, f) (subst (λ x. IfSome attempted.heard.cancelled (λ reason. IsCancelBy reason x (i.left q.input) (i.faults p.input) (i.faults q.input)))
      (sym (behind-more root read attempted.heard.bytes.items request decodes bare))
      (why-later attempted.heard.cancelled attempted.heard.bytes.items (i.left q.input) (i.faults p.input) (i.faults source) (i.faults q.input) risen h.heard_is.why))

  -- a request was read, and this was made of it
  pub pending-request : (root : List ℕ) (p q : Parts I O T L M R C) (source : I) (read whole : List ℕ) (request : Request) (stage : Stage)
      → whole ≡ read ++ heard_in stage → ListensIn i request.watch source q.input stage → q.output ≡ p.output → Consumes (i.left p.input) (i.left source) read
      → IsRequest root read request → EndsRead (i.left source) (Ok (incomings.Request request)) → behind read ≡ [] → i.faults p.input ≤ i.faults source
      → HasAnswered (meanings w i o t l k b v z) request (record p { input = source }) q stage → AreLaterThan (meanings w i o t l k b v z) (record p { input = source }) q
      → IsPending (meanings w i o t l k b v z) root p q (record { read = whole; request = Some request; stage = stage })
  pending-request root p q source read whole request stage is heard same_out consumed decodes ended bare risen answered later =
      let first : Parts I O T L M R C = record p { input = source } in
      let same : AreSame first q p q = record { tree_before = refl; tree_after = refl; before = record { here = record { tree_local = refl; benches = refl }; there = record { tree_remote = refl; farm = refl } }; after = same-none q; input_after = refl } in
      let on = heard-later request.watch source q.input stage heard in
      let g : Grounds (Parts I O T L M R C) = grounds p q answered.answers answered.lists answered.view in
      record {
        answers = answered.answers;
        lists = answered.lists;
        view = answered.view;
        read = rw is (Consumes-trans (i.left p.input) (i.left source) (i.left q.input) read (heard_in stage) consumed (heard-consumed request.watch source q.input stage heard));
        reach = rw (is, behind-more root read (heard_in stage) request decodes bare) (heard-few request.watch source q.input stage heard);
        looked = tells-move w i o t l k b v z first q p q answered.answers answered.lists refl refl answered.looked;
        stage = rw is (stage-asked (meanings w i o t l k b v z) root g (read ++ heard_in stage) request stage
            (record {
              request_is = refl;
              decoded = heard-request root read request source q.input stage request.watch refl decodes heard;
              ended = heard-end request source q.input stage request.watch refl ended heard;
            })
            (heard-why p q source root read request stage g refl refl decodes bare risen heard)
            (stage-move w i o t l k b v z first q p q same answered.answers answered.lists answered.view request stage answered.stage_is));
        unwritten = ap o.taken same_out;
        uncounted = ap o.faults same_out;
        later = record {
          input = omega (arith, risen, on);
          output = subst (λ x. o.faults p.output ≤ o.faults x) (sym same_out) (omega arith);
          tree = answered.looked.gives.later;
          attempts = record { tree_local = later.tree_local; benches = later.benches; tree_remote = later.tree_remote; farm = later.farm };
        };
      }

  -- this was made of the bytes, where nothing was touched
  unserved : (root : List ℕ) (p : Parts I O T L M R C) (source : I) (read : List ℕ) (request : Option Request) (stage : Stage)
      → Consumes (i.left p.input) (i.left source) read → IsReadTo read request → i.faults p.input ≤ i.faults source
      → (IsUntouched (meanings w i o t l k b v z) (grounds p (record p { input = source }) [] [] []) no_tally
      → IsStage (meanings w i o t l k b v z) root (grounds p (record p { input = source }) [] [] []) read request stage)
      → IsPending (meanings w i o t l k b v z) root p (record p { input = source }) (record { read = read; request = request; stage = stage })
  unserved root p source read request stage consumed reach risen made =
      let last : Parts I O T L M R C = record p { input = source } in
      record {
        answers = [];
        lists = [];
        view = [];
        read = consumed;
        reach = reach;
        looked = tells-move w i o t l k b v z p p p last [] [] refl refl (tells-in w t (λ (x : Parts I O T L M R C). x.tree) p p [] [] (tells-none w t p.tree));
        stage = made (record {
          answers_are = refl;
          lists_are = refl;
          unrun = record { idle = idle-move w i o t l k b v z p p p last (same-none p) (record { here = record { tree_local = refl; benches = refl }; there = record { tree_remote = refl; farm = refl } }) (idle-none w i o t l k b v z p); tally_is = refl };
        });
        unwritten = refl;
        uncounted = refl;
        later = record {
          input = risen;
          output = omega arith;
          tree = omega arith;
          attempts = record { tree_local = omega arith; benches = omega arith; tree_remote = omega arith; farm = omega arith };
        };
      }

  -- there was no memory to serve a request
  pub pending-starved : (root : List ℕ) (p : Parts I O T L M R C) (source : I) (read : List ℕ) (request : Request) (pending : Pending)
      → Consumes (i.left p.input) (i.left source) read → IsRequest root read request → EndsRead (i.left source) (Ok (incomings.Request request)) → behind read ≡ []
      → i.faults p.input ≤ i.faults source → IsStarved read request pending → IsPending (meanings w i o t l k b v z) root p (record p { input = source }) pending
  pending-starved root p source read request pending consumed decodes ended bare risen starved =
      subst (IsPending (meanings w i o t l k b v z) root p (record p { input = source }))
      (sym (pending-is pending read (Some request) (stages.Refused starved.answered) starved.read_is starved.request_is starved.stage_is))
      (unserved root p source read (Some request) (stages.Refused starved.answered) consumed (rw bare (omega arith)) risen
      (λ untouched. stage-starved (meanings w i o t l k b v z) root (grounds p (record p { input = source }) [] [] []) read request starved.answered
      (record { request_is = refl; decoded = decodes; ended = ended }) untouched.unrun starved.given_up))

  -- the bytes are refused
  pub pending-refusal : (root : List ℕ) (p : Parts I O T L M R C) (source : I) (read : List ℕ) (fault : SessionFault) (stage : Stage)
      → Consumes (i.left p.input) (i.left source) read
      → Decodes (λ x. x) (Err fault) (incoming_of root read) → length read ≤ reach_of read → EndsRead (i.left source) (Err fault) → i.faults p.input ≤ i.faults source
      → (fault ≡ faults.ReadFault → Rose (i.faults p.input) (i.faults source)) → IsRefusalOf fault stage
      → IsPending (meanings w i o t l k b v z) root p (record p { input = source }) (record { read = read; request = None; stage = stage })
  pending-refusal root p source read fault stage consumed decodes reach ended risen rose refused =
      unserved root p source read None stage consumed reach risen
      (λ untouched. stage-refused (meanings w i o t l k b v z) root (grounds p (record p { input = source }) [] [] []) read fault stage untouched decodes ended rose refused)

  -- the bytes are a Shutdown
  pub pending-end : (root : List ℕ) (p : Parts I O T L M R C) (source : I) (read : List ℕ) (stage : Stage)
      → Consumes (i.left p.input) (i.left source) read → incoming_of root read ≡ Ok incomings.Shutdown → length read ≤ reach_of read
      → i.faults p.input ≤ i.faults source → IsEndOfRun stage
      → IsPending (meanings w i o t l k b v z) root p (record p { input = source }) (record { read = read; request = None; stage = stage })
  pending-end root p source read stage consumed decodes reach risen made =
      unserved root p source read None stage consumed reach risen
      (λ untouched. stage-ended (meanings w i o t l k b v z) root (grounds p (record p { input = source }) [] [] []) read stage untouched decodes reach made)
