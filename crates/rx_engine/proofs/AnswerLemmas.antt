-- From the steps of an answer to the whole of it.
use Rattle.std.proofs.Common.{◌≡◌, ◌∙◌, ℕ, Bool, true, false, List, [], inl, inr, refl, sym, subst}
use Rattle.std.proofs.lemmas.Bool.{true_from_ne_false}
use Rattle.std.proofs.lemmas.List.Elements.{All-nil, All-weaker}
use Rattle.std.specs.Prelude.{Err, IfOk, IfSome, None, Ok, Option, Result, Some, All, is_some}
use Rattle.rx_race.specs.declared.events.Verdict.TheVariants.{Won as WonRace}
use Rattle.rx_race.specs.declared.slips.Slip.TheVariants.{Told}
use Rattle.rx_scan.specs.declared.gather_fault.GatherFault.{GatherFault}
use Rattle.rx_scan.specs.declared.gather_fault.GatherFault.TheVariants as fault
use Rattle.rx_scan.specs.declared.gathering.Gathered.{Gathered}
use Rattle.rx_scan.specs.declared.plans.Choice.{Choice}
use Rattle.rx_reach.specs.Explored.{HaveDigests}
use Rattle.rx_scan.specs.Digests.{IsAsListed as IsAsSeen}
use Rattle.rx_scan.specs.Gathering.{Asked, BlamesGather, Gathers, IsGatheredBy, IsOrderly}
use Rattle.rx_scan.specs.Lists.{IsRightList, Tells, stretch}
use Rattle.rx_reach.specs.Scenes.{scene_of}
use Rattle.rx_session.specs.declared.cancels.CancelReason.{CancelReason}
use Rattle.rx_session.specs.declared.replies.Reply.{Reply}
use Rattle.rx_session.specs.declared.replies.Reply.TheVariants as reply
use Rattle.rx_session.specs.declared.requests.Request.{Request}
use Rattle.rx_session.specs.Jobs.{command_of, declared_of}
use Rattle.rx_session.specs.Replies.{frame_of}
use Rattle.rx_exec_messages.specs.declared.callers.Caller as callers
use Rattle.rx_world.specs.declared.attempts.Ended.{Ended}
use Rattle.rx_world.specs.declared.attempts.Failure.{Failure}
use Rattle.rx_world.specs.declared.benches.Bench as benches
use Rattle.rx_world.specs.declared.benches.BenchMaker as makers
use Rattle.rx_world.specs.declared.sources.Sources as sources
use Rattle.rx_world.specs.declared.streams.Sink as sinks
use Rattle.rx_world.specs.declared.streams.Source as inputs
use Rattle.rx_world.specs.declared.world.World as world
use Rattle.rx_world.specs.declared.commands.Command.{Command}
use Rattle.rx_world.specs.declared.input_files.InputFile.{InputFile}
use Rattle.rx_world.specs.declared.sources.SourceEntry.{SourceEntry}
use Rattle.rx_world.proofs.AnswerLemmas.{gives-none}
use Rattle.rx_world.specs.Inputs.{IsAsListed}
use Rattle.rx_engine.specs.declared.answered.Answered.{Answered}
use Rattle.rx_engine.specs.declared.attempts.Attempted.{Attempted}
use Rattle.rx_engine.specs.declared.attempts.Won.{Won}
use Rattle.rx_engine.specs.declared.desk.Parts.{Parts}
use Rattle.rx_engine.specs.declared.pending.Stage.TheVariants as stages
use Rattle.rx_engine.specs.declared.transcripts.Tally.{Tally}
use Rattle.rx_engine.specs.Answered.{AnswersFault, IsPlain, IsUnpublishedEnd, TellsPublication, reply_no_memory}
use Rattle.rx_engine.specs.Answers.{Answers, Grounds, HasRun, HasWon, IsUnrun, MayHaveRun, asked_of, grounds, stretch_of}
use Rattle.rx_engine.specs.Attempts.{HasAttempts, HasMade, IsIdle, no_tally, winner}
use Rattle.rx_engine.specs.Choices.{choice_of, client_runs}
use Rattle.rx_engine.specs.Gathers.{AnswersMade, HasGatheredFor, HasNotGathered}
use Rattle.rx_engine.specs.Meanings.{Meanings, meanings}
use Rattle.rx_engine.specs.Pending.{HasAnswered, HasTried}
use Rattle.rx_engine.specs.Racing.{is_cancelled}
use Rattle.rx_engine.specs.Ready.{AnswersAs, IsOrGivenUp}
use Rattle.rx_engine.specs.Watching.{Listens}
use Rattle.rx_engine.proofs.AttemptLemmas.{idle-none}
use Rattle.rx_engine.proofs.Cases.{won-slip}
use Rattle.rx_engine.proofs.RaceLemmas.{unused-told}
use Rattle.rx_engine.proofs.Unpublished.{refused}
use Rattle.rx_engine.proofs.Moves.{IsSame, attempts-move, idle-move, same-none, tells-in, tells-move}

no-lists : (told : Option (List SourceEntry)) → IfSome told (λ entries. All (IsRightList (scene_of entries)) [])
no-lists None = tt
no-lists (Some entries) = All-nil (IsRightList (scene_of entries))

-- nothing is told yet
pub tells-none : {T W : Type 0} (w : world.Ghosts W) (s : sources.Ghosts T W) (tree : T) → Tells w s tree tree [] []
tells-none w s tree = record { gives = gives-none w s tree; by_list = λ kept. no-lists (s.listed tree) }

-- nothing was gathered, for want of memory
pub gathers-none : {T W : Type 0} (w : world.Ghosts W) (s : sources.Ghosts T W) (tree : T) (asked : Asked) → Gathers w s tree tree asked (Err fault.NoMemory)
gathers-none w s tree asked = record { answers = []; lists = []; view = []; tells = tells-none w s tree; outcome = tt }

-- what is asked of the gathering is what the request asks for
pub asked-is : (command : Command) (paths : List (List ℕ)) (choice : Choice) (request : Request) → command ≡ command_of request → paths ≡ declared_of request → choice ≡ choice_of request
    → record { command = command; kind = request.kind; inputs = paths; choice = choice } ≡ asked_of request
asked-is command paths choice request c p h = rw (c, p, h) refl

-- each file that is as the gathering says it is listed
as-listed : (told : Option (List SourceEntry)) (files : List InputFile) → IfSome told (λ entries. All (IsAsSeen entries) files) → IfSome told (λ entries. All (IsAsListed entries) files)
as-listed None files h = tt
as-listed (Some entries) files h = All-weaker (IsAsSeen entries) (IsAsListed entries) (λ file seen. record { look_is = seen.look_is; digest_is = seen.digest_is }) files h

-- the parts that attempts have are the same in both directions
pub same-back : {I O T L M R C : Type 0} (p q : Parts I O T L M R C) → IsSame p q → IsSame q p
same-back p q h = record {
  here = record { tree_local = sym h.here.tree_local; benches = sym h.here.benches };
  there = record { tree_remote = sym h.there.tree_remote; farm = sym h.there.farm };
}

-- ---- the replies to attempts

failed-cancelled : {failures : List Failure} (reason : CancelReason) → reply.AllFailed failures ≡ reply.Cancelled reason → ⊥
failed-cancelled reason e = cc

memory-cancelled : (reason : CancelReason) → reply_no_memory ≡ reply.Cancelled reason → ⊥
memory-cancelled reason e = cc

module _ {P W B : Type 0} (m : Meanings P W B) (g : Grounds P) (request : Request) (tally : Tally) where
  publication-answers : (won : Won) (a : Answered) (answer : Reply) → HasWon m g request tally won → TellsPublication won a answer → Answers m g request a.receipt tally answer
  publication-answers won a (reply.Done exit stdout stderr from number placed) h tells = (won, h, tells.0, tells.1)
  publication-answers won a (reply.PlaceFault number placed) h tells = (won, h, tells.0, tells.1)
  publication-answers won a reply.JournalFull h tells = (won, h, tells)
  publication-answers won a (reply.AllFailed failures) h tells = absurd tells
  publication-answers won a (reply.Cancelled reason) h tells = absurd tells
  publication-answers won a (reply.NotRemotable why) h tells = absurd tells
  publication-answers won a (reply.InputMissing path) h tells = absurd tells
  publication-answers won a (reply.InputChanged input) h tells = absurd tells
  publication-answers won a (reply.SourceFault path) h tells = absurd tells
  publication-answers won a (reply.TooLarge limit n path) h tells = absurd tells
  publication-answers won a (reply.Blocked path) h tells = absurd tells
  publication-answers won a (reply.InPlace cause) h tells = absurd tells
  publication-answers won a (reply.BadRequest bad) h tells = absurd tells
  publication-answers won a reply.NoMemory h tells = absurd tells

  no-memory-answers : (a : Answered) → MayHaveRun m g request tally → IsPlain reply_no_memory a → Answers m g request a.receipt tally a.reply
  no-memory-answers a run h = rw h.reply_is (run, h.receipt_is)

  unpublished-answers : (run : HasRun m g request tally) (cancelled : Option CancelReason) (a : Answered) → winner run.gathered.plan run.attempts ≡ None
      → is_some cancelled ≡ is_cancelled tally.passes.cancel → IsUnpublishedEnd cancelled tally.ends a
      → (a.frame.items ≡ frame_of a.reply) × Answers m g request a.receipt tally a.reply
  unpublished-answers run (Some reason) a none is h =
      let cancelled : tally.passes.cancel ≡ Told WonRace = won-slip tally.passes.cancel (sym is) in
      (h.frame, rw h.reply_is (record { run = run; cancelled = cancelled; watched = true_from_ne_false request.watch (λ e. unused-told WonRace (sym (run.unwatched e) ∙ cancelled)) }, h.receipt_is))
  unpublished-answers run None a none is h =
      let plain = h.plain in
      (plain.frame, rw plain.reply_is (record { run = run; none_won = none; uncancelled = sym is; tellable = h.tellable }, refl, plain.receipt_is))

  run-answers : (run : HasRun m g request tally) (cancelled : Option CancelReason) (answered : Option Answered)
      → is_some cancelled ≡ is_cancelled tally.passes.cancel
      → IfSome answered (AnswersMade (winner run.gathered.plan run.attempts) cancelled tally.ends) → AnswersAs m g request tally answered
  run-answers run cancelled None is h = inr run
  run-answers run cancelled (Some a) is (inl h) = (h.2.frame, publication-answers h.0 a a.reply (record { run = run; won_is = h.1 }) h.2.tells)
  run-answers run cancelled (Some a) is (inr (inl h)) = unpublished-answers run cancelled a h.0 is h.1
  run-answers run cancelled (Some a) is (inr (inr h)) = (h.frame, no-memory-answers a (inr run) h)

  -- ---- the replies to a refused gathering

  refusal-answers : (why : GatherFault) (by_client : Bool) (a : Answered) → client_runs request ≡ by_client → IsUnrun m g tally → BlamesGather (asked_of request) why (stretch_of m g)
      → AnswersFault why by_client a → (a.frame.items ≡ frame_of a.reply) × Answers m g request a.receipt tally a.reply
  refusal-answers (fault.NotRemotable cause) true a is u blame h = (h.frame, rw h.reply_is (is, record { cause = blame; unrun = u; receipt_is = h.receipt_is }))
  refusal-answers (fault.NotRemotable cause) false a is u blame h = (h.frame, rw h.reply_is (is, record { cause = blame; unrun = u; receipt_is = h.receipt_is }))
  refusal-answers (fault.TooLarge limit n path) true a is u blame h = (h.frame, rw h.reply_is (is, n, path, record { cause = blame; unrun = u; receipt_is = h.receipt_is }))
  refusal-answers (fault.TooLarge limit n path) false a is u blame h = (h.frame, rw h.reply_is (is, record { cause = blame; unrun = u; receipt_is = h.receipt_is }))
  refusal-answers (fault.InputMissing path) by_client a is u blame h = (h.frame, rw h.reply_is (record { cause = blame; unrun = u; receipt_is = h.receipt_is }))
  refusal-answers (fault.InputChanged input) by_client a is u blame h = (h.frame, rw h.reply_is (record { cause = blame; unrun = u; receipt_is = h.receipt_is }))
  refusal-answers (fault.SourceFault path) by_client a is u blame h = (h.frame, rw h.reply_is (record { cause = blame; unrun = u; receipt_is = h.receipt_is }))
  refusal-answers (fault.Blocked path) by_client a is u blame h = (h.frame, rw h.reply_is (record { cause = blame; unrun = u; receipt_is = h.receipt_is }))
  refusal-answers fault.NoMemory by_client a is u blame h = absurd h

  given-up-answers : (answered : Option Answered) → IsUnrun m g tally → IfSome answered (IsPlain reply_no_memory) → AnswersAs m g request tally answered
  given-up-answers None u h = inl u
  given-up-answers (Some a) u h = (h.frame, no-memory-answers a (inl u) h)

  refused-answers : {E : Type 0} (why : GatherFault) (by_client : Bool) (made : Result Answered E) (answered : Option Answered) → client_runs request ≡ by_client → IsUnrun m g tally
      → BlamesGather (asked_of request) why (stretch_of m g)
      → IfOk made (AnswersFault why by_client) → IsOrGivenUp made answered → AnswersAs m g request tally answered
  refused-answers why by_client (Ok a) answered is u blame h o = rw o (refusal-answers why by_client a is u blame h)
  refused-answers why by_client (Err e) answered is u blame h o = given-up-answers answered u o

-- the answer to attempts that were made
pub tried-answers : {P W B : Type 0} (m : Meanings P W B) (g : Grounds P) (request : Request) (attempted : Attempted) (answered : Option Answered) → HasTried m g request attempted
    → IfSome answered (AnswersMade attempted.won attempted.heard.cancelled attempted.tally.ends) → AnswersAs m g request attempted.tally answered
tried-answers m g request attempted answered h a =
    run-answers m g request attempted.tally h.run attempted.heard.cancelled answered h.cancelled_is
    (subst (λ x. IfSome answered (AnswersMade x attempted.heard.cancelled attempted.tally.ends)) h.won_is a)

-- it tells of a cancel only where the race was cancelled for that
pub tells-cancel : (won : Option Won) (cancelled : Option CancelReason) (ends : List Ended) (a : Answered) (reason : CancelReason) → AnswersMade won cancelled ends a
    → a.reply ≡ reply.Cancelled reason → cancelled ≡ Some reason
tells-cancel won cancelled ends a reason (inl h) e = absurd (subst (TellsPublication h.0 a) e h.2.tells)
tells-cancel won (Some other) ends a reason (inr (inl h)) e = let same : reply.Cancelled other ≡ reply.Cancelled reason = sym h.1.reply_is ∙ e in cc
tells-cancel won None ends a reason (inr (inl h)) e = absurd (failed-cancelled reason (sym h.1.plain.reply_is ∙ e))
tells-cancel won cancelled ends a reason (inr (inr h)) e = absurd (memory-cancelled reason (sym h.reply_is ∙ e))

-- ---- the whole

module _ {W I O T L M B R C : Type 0} (w : world.Ghosts W) (i : inputs.Ghosts I) (o : sinks.Ghosts O) (t : sources.Ghosts T W) (l : sources.Ghosts L W) (k : makers.Ghosts M W B) (b : benches.Ghosts B W)
    (v : sources.Ghosts R W) (z : callers.Ghosts C W) where
  -- what was gathered was run on
  pub answered-run : (p q r : Parts I O T L M R C) (request : Request) (gathered : Gathered) (accepts : Bool) (attempted : Attempted)
      → IsSame p q → r.tree ≡ q.tree → accepts ≡ request.accept_cached → Listens i request.watch q.input r.input attempted.heard attempted.tally.passes.cancel
      → HasGatheredFor (meanings w i o t l k b v z) request p q gathered → HasMade (meanings w i o t l k b v z) gathered accepts q r attempted
      → HasAnswered (meanings w i o t l k b v z) request p r (stages.Attempted attempted)
  answered-run p q r request gathered accepts attempted same d is listens h made =
      let inputs = h.inputs in
      record {
        answers = h.answers;
        lists = h.lists;
        view = h.view;
        looked = tells-move w i o t l k b v z p q p r h.answers h.lists refl d h.looked;
        stage_is = record {
          run = record {
            gathered = gathered;
            inputs = record {
              by = record { view_is = inputs.by.view_is; viewed = inputs.by.viewed; seen = inputs.by.seen; shown = inputs.by.shown };
              orderly = inputs.orderly;
              digests = inputs.digests;
              listed = inputs.listed;
            };
            attempts = made.attempts;
            made = attempts-move w i o t l k b v z q r p r gathered request.accept_cached made.attempts (same-back p q same) (same-none r)
                (subst (λ x. HasAttempts (meanings w i o t l k b v z) gathered x q r made.attempts) is made.each);
            tally_is = made.tally_is;
            unwatched = λ e. (listens.unwatched e).slip_is;
          };
          won_is = made.won_is;
          cancelled_is = listens.heard_is.cancelled_is;
        };
      }

  -- nothing was gathered
  pub answered-refused : {E : Type 0} (p q : Parts I O T L M R C) (request : Request) (why : GatherFault) (by_client : Bool) (made : Result Answered E) (answered : Option Answered)
      → IsSame p q → HasNotGathered (meanings w i o t l k b v z) request p q why
      → client_runs request ≡ by_client → IfOk made (AnswersFault why by_client) → IsOrGivenUp made answered
      → HasAnswered (meanings w i o t l k b v z) request p q (stages.Refused answered)
  answered-refused p q request why by_client made answered same h is answers given =
      let idle : IsIdle (meanings w i o t l k b v z) p q = idle-move w i o t l k b v z p p p q (same-none p) same (idle-none w i o t l k b v z p) in
      record {
        answers = h.answers;
        lists = h.lists;
        view = h.view;
        looked = h.looked;
        stage_is = (
          refused-answers (meanings w i o t l k b v z) (grounds p q h.answers h.lists h.view) request no_tally
              why by_client made answered is (record { idle = idle; tally_is = refl }) h.cause answers given,
          refused why by_client made answered answers given,
        );
      }

  -- memory ran out before anything was asked of the source tree
  pub none-gathered : (p : Parts I O T L M R C) (request : Request) → HasNotGathered (meanings w i o t l k b v z) request p p fault.NoMemory
  none-gathered p request = record {
    answers = [];
    lists = [];
    view = [];
    looked = tells-in w t (λ (x : Parts I O T L M R C). x.tree) p p [] [] (tells-none w t p.tree);
    cause = tt;
  }

  -- memory ran out right after the gathering
  pub gathered-starved : (p : Parts I O T L M R C) (tree : T) (asked : Asked) (request : Request) (gathered : Gathered) → Gathers w t p.tree tree asked (Ok gathered)
      → HasNotGathered (meanings w i o t l k b v z) request p (record p { tree = tree }) fault.NoMemory
  gathered-starved p tree asked request gathered h = record {
    answers = h.answers;
    lists = h.lists;
    view = h.view;
    looked = tells-in w t (λ (x : Parts I O T L M R C). x.tree) p (record p { tree = tree }) h.answers h.lists h.tells;
    cause = tt;
  }

  -- the gathering was refused
  pub not-gathered : (p : Parts I O T L M R C) (tree : T) (asked : Asked) (request : Request) (why : GatherFault) → asked ≡ asked_of request
      → Gathers w t p.tree tree asked (Err why) → HasNotGathered (meanings w i o t l k b v z) request p (record p { tree = tree }) why
  not-gathered p tree asked request why e h = record {
    answers = h.answers;
    lists = h.lists;
    view = h.view;
    looked = tells-in w t (λ (x : Parts I O T L M R C). x.tree) p (record p { tree = tree }) h.answers h.lists h.tells;
    cause = subst (λ x. BlamesGather x why (stretch [] h.view (t.faults p.tree) (t.faults tree) h.answers h.lists)) e h.outcome;
  }

  -- what the gathering gave
  pub gathered-for : (p : Parts I O T L M R C) (tree : T) (asked : Asked) (request : Request) (gathered : Gathered) → asked ≡ asked_of request
      → Gathers w t p.tree tree asked (Ok gathered) → IsOrderly asked gathered → (w.stamps_honest → HaveDigests w.content gathered.files)
      → (w.stamps_honest → t.keeps p.tree → IfSome (t.listed p.tree) (λ entries. All (IsAsSeen entries) gathered.files))
      → HasGatheredFor (meanings w i o t l k b v z) request p (record p { tree = tree }) gathered
  gathered-for p tree asked request gathered e h orderly digests listed =
      let by : IsGatheredBy (asked_of request) gathered (stretch [] h.view (t.faults p.tree) (t.faults tree) h.answers h.lists) =
      subst (λ x. IsGatheredBy x gathered (stretch [] h.view (t.faults p.tree) (t.faults tree) h.answers h.lists)) e h.outcome in
      record {
        answers = h.answers;
        lists = h.lists;
        view = h.view;
        looked = tells-in w t (λ (x : Parts I O T L M R C). x.tree) p (record p { tree = tree }) h.answers h.lists h.tells;
        inputs = record {
          by = record { view_is = by.view_is; viewed = by.viewed; seen = by.seen; shown = by.shown };
          orderly = subst (λ x. IsOrderly x gathered) e orderly;
          digests = digests;
          listed = λ stamps keeps. as-listed (t.listed p.tree) gathered.files (listed stamps keeps);
        };
      }
