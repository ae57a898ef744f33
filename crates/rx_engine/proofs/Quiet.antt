-- A session in which nothing fails, in an honest world.
use Rattle.std.proofs.Common.{◌≡◌, ℕ, List, [], ◌++◌, inl, inr, refl, ap, sym, subst, ◌∙◌, append-nil, length}
use Rattle.std.specs.Prelude.{Err, MatchOption, None, Option, Some}
use Rattle.std.specs.Io.KnownBytes.{Consumes, IsAtEnd}
use Rattle.rx_board.specs.declared.journal.Entry.{Entry}
use Rattle.rx_core.proofs.Cases.{none-some, some-is}
use Rattle.rx_scan.specs.declared.gather_fault.GatherFault.TheVariants as fault
use Rattle.rx_session.specs.declared.bad.Bad.{Bad}
use Rattle.rx_session.specs.declared.bad.BadReason.TheVariants.{CutShort}
use Rattle.rx_session.specs.declared.in_place.InPlaceCause.TheVariants as in_place
use Rattle.rx_session.specs.declared.replies.Reply.{Reply}
use Rattle.rx_session.specs.declared.replies.Reply.TheVariants as reply
use Rattle.rx_session.specs.declared.requests.Request.{Request}
use Rattle.rx_session.specs.Frames.{IsRequest, incoming_of, shutdown}
use Rattle.rx_world.specs.declared.sources.SourceEntry.{SourceEntry}
use Rattle.rx_engine.specs.declared.transcripts.Ending.{Ending}
use Rattle.rx_engine.specs.declared.transcripts.Ending.TheVariants.{NoMemory, Replied, ShutDown, SinkLost, SourceLost}
use Rattle.rx_engine.specs.declared.transcripts.Transcript.{Transcript}
use Rattle.rx_engine.specs.Answers.{Answers, Grounds}
use Rattle.rx_engine.specs.Journal.{IsEntry, IsJournalled, IsPlaced, files_of}
use Rattle.rx_engine.specs.Meanings.{Meanings}
use Rattle.rx_engine.specs.Quiet.{HasRoom, IsDoneOr, IsDoneReply, IsQuiet, MayFail}
use Rattle.rx_engine.specs.Session.{IsCourse, IsSession, Replies, RepliesTo, WasAskedToEnd, tally_in}
use Rattle.rx_engine.proofs.Early.{early, err-in, no-request}
use Rattle.rx_engine.proofs.HonestRuns.{grounds_of, same-request}
use Rattle.rx_engine.proofs.Calm.{IsCalm, calm, not-refused-by}
use Rattle.rx_engine.proofs.LostRuns.{fails}

-- a refusal contradicts a request that is told whole
pub not-refused : (root : List ℕ) (old new : Option (List ℕ)) (bytes read : List ℕ) (why : Bad) (asked : Request)
    → old ≡ Some bytes → Consumes old new read → incoming_of root read ≡ Err why → (why.reason ≡ CutShort → IsAtEnd new) → IsRequest root bytes asked → ⊥
not-refused root None new bytes read why asked e h d cut v = absurd (none-some e)
not-refused root (Some xs) None bytes read why asked e h d cut v = absurd h
not-refused root (Some xs) (Some ys) bytes read why asked e h d cut v =
    let whole : bytes ≡ read ++ ys = sym (some-is e) ∙ h in
    let valid : IsRequest root (read ++ ys) asked = ap (incoming_of root) (sym whole) ∙ v in
    early root read ys why asked d
    (λ c. let end : ys ≡ [] = cut c in
    let same : IsRequest root read asked = ap (incoming_of root) (sym (append-nil read) ∙ ap (λ s. read ++ s) (sym end)) ∙ valid in
    err-in why asked (sym d ∙ same))
    valid

-- a Shutdown contradicts a request that is told whole
not-ended : (root : List ℕ) (old new : Option (List ℕ)) (bytes read : List ℕ) (asked : Request)
    → old ≡ Some bytes → Consumes old new read → read ≡ shutdown → IsRequest root bytes asked → ⊥
not-ended root None new bytes read asked e h r v = absurd (none-some e)
not-ended root (Some xs) None bytes read asked e h r v = absurd h
not-ended root (Some xs) (Some ys) bytes read asked e h r v =
    let whole : bytes ≡ shutdown ++ ys = sym (some-is e) ∙ h ∙ ap (λ s. s ++ ys) r in
    no-request root ys asked (ap (incoming_of root) (sym whole) ∙ v)

module _ {P W B : Type 0} (m : Meanings P W B) (entries : List SourceEntry) (g : Grounds P) (asked : Request) (c : IsCalm m entries g asked) where
  -- what a quiet session answers to its request
  done-to : (limit : ℕ) (old new : List Entry) (pb pn : ℕ) (t : Transcript) (answer : Reply) → IsJournalled limit old new pb pn t → HasRoom limit old pb pn → t.reply ≡ Some answer
      → Answers m g asked t.receipt (tally_in t) answer → IsDoneReply asked (Some answer)
  done-to limit old new pb pn t (reply.Done exit stdout stderr from number placed) j h e a = tt
  done-to limit old new pb pn t reply.NoMemory j h e a = tt
  done-to limit old new pb pn t (reply.PlaceFault number placed) j h e a =
      let entry : IsEntry old new pb pn t.number (record { number = number }) (files_of t.ends) t.reply =
      subst (λ o. MatchOption o (new ≡ old) (λ n. IsEntry old new pb pn t.number n (files_of t.ends) t.reply)) a.3 j.entry in
      let short : IsPlaced pb pn (length (files_of t.ends)) entry.placed (Some (reply.PlaceFault number placed)) =
      subst (λ o. IsPlaced pb pn (length (files_of t.ends)) entry.placed o) e entry.placed_is in
      h.place short.2
  done-to limit old new pb pn t reply.JournalFull j h e a = h.room (j.full e)
  done-to limit old new pb pn t (reply.AllFailed failures) j h e a = subst (MayFail asked.strategy) (sym a.1) (fails m entries g asked c (tally_in t) a.0)
  done-to limit old new pb pn t (reply.Cancelled reason) j h e a = a.0.watched
  done-to limit old new pb pn t (reply.NotRemotable why) j h e a = not-refused-by m entries g asked c t.receipt (tally_in t) (fault.NotRemotable why) a.1 (λ n. cc)
  done-to limit old new pb pn t (reply.InputMissing path) j h e a = not-refused-by m entries g asked c t.receipt (tally_in t) (fault.InputMissing path) a (λ n. cc)
  done-to limit old new pb pn t (reply.InputChanged input) j h e a = not-refused-by m entries g asked c t.receipt (tally_in t) (fault.InputChanged input) a (λ n. cc)
  done-to limit old new pb pn t (reply.SourceFault path) j h e a = not-refused-by m entries g asked c t.receipt (tally_in t) (fault.SourceFault path) a (λ n. cc)
  done-to limit old new pb pn t (reply.TooLarge limit_passed count path) j h e a = not-refused-by m entries g asked c t.receipt (tally_in t) (fault.TooLarge limit_passed count path) a.1 (λ n. cc)
  done-to limit old new pb pn t (reply.Blocked path) j h e a = not-refused-by m entries g asked c t.receipt (tally_in t) (fault.Blocked path) a (λ n. cc)
  done-to limit old new pb pn t (reply.InPlace (in_place.Kept why)) j h e a = not-refused-by m entries g asked c t.receipt (tally_in t) (fault.NotRemotable why) a.1 (λ n. cc)
  done-to limit old new pb pn t (reply.InPlace (in_place.TooLarge limit_passed)) j h e a = not-refused-by m entries g asked c t.receipt (tally_in t) (fault.TooLarge limit_passed a.1 a.2) a.3 (λ n. cc)
  done-to limit old new pb pn t (reply.BadRequest bad) j h e a = absurd a

module _ {P W B : Type 0} (m : Meanings P W B) (root : List ℕ) (before after : P) (limit : ℕ) (old new : List Entry) (pb pn : ℕ) (t : Transcript) (bytes : List ℕ) (asked : Request)
    (s : IsSession m root before after t) (q : IsQuiet m root before after bytes asked) (j : IsJournalled limit old new pb pn t) (r : HasRoom limit old pb pn) where
  to-asked : (answer : Reply) → t.reply ≡ Some answer → RepliesTo m root (grounds_of m root before after t s) t.read t.request t.receipt (tally_in t) answer → IsDoneReply asked (Some answer)
  to-asked answer e a =
      let same = same-request root (m.input.left before) (m.input.left after) bytes t.read a.0 asked q.steady.told s.read a.1.decoded q.steady.valid in
      let g = grounds_of m root before after t s in
      done-to m q.entries g asked (calm m root before after t bytes asked s q) limit old new pb pn t answer j r e
      (subst (λ x. Answers m g x t.receipt (tally_in t) answer) same a.2)

  done-at : (answer : Reply) → t.reply ≡ Some answer → Replies m root (grounds_of m root before after t s) t.read t.request t.receipt (tally_in t) answer → IsDoneReply asked (Some answer)
  done-at (reply.BadRequest bad) e a = not-refused root (m.input.left before) (m.input.left after) bytes t.read bad asked q.steady.told s.read a.0 a.4 q.steady.valid
  done-at reply.NoMemory e a = tt
  done-at (reply.Done exit stdout stderr from number placed) e a = tt
  done-at (reply.PlaceFault number placed) e a = to-asked (reply.PlaceFault number placed) e a
  done-at (reply.NotRemotable why) e a = to-asked (reply.NotRemotable why) e a
  done-at (reply.InputMissing path) e a = to-asked (reply.InputMissing path) e a
  done-at (reply.InputChanged input) e a = to-asked (reply.InputChanged input) e a
  done-at (reply.SourceFault path) e a = to-asked (reply.SourceFault path) e a
  done-at (reply.TooLarge limit_passed count path) e a = to-asked (reply.TooLarge limit_passed count path) e a
  done-at (reply.AllFailed failures) e a = to-asked (reply.AllFailed failures) e a
  done-at (reply.Cancelled reason) e a = to-asked (reply.Cancelled reason) e a.0
  done-at reply.JournalFull e a = to-asked reply.JournalFull e a
  done-at (reply.Blocked path) e a = to-asked (reply.Blocked path) e a
  done-at (reply.InPlace cause) e a = to-asked (reply.InPlace cause) e a

  ended : WasAskedToEnd m (grounds_of m root before after t s) t → ⊥
  ended h = not-ended root (m.input.left before) (m.input.left after) bytes t.read asked q.steady.told s.read h.read_is q.steady.valid

  complete-at : (ending : Ending) → t.ending ≡ ending → IsCourse m root (grounds_of m root before after t s) t ending → IsDoneOr asked ending t.reply
  complete-at Replied e c = rw c.1 (done-at c.0 c.1 c.3)
  complete-at ShutDown e c = ended c.0
  complete-at SinkLost e (inl c) = rw c.1 (done-at c.0 c.1 c.4)
  complete-at SinkLost e (inr c) = absurd (ended c.2)
  complete-at SourceLost e c = q.input (s.source e)
  complete-at NoMemory e c = tt

pub complete : {P W B : Type 0} (m : Meanings P W B) (root : List ℕ) (before after : P) (limit : ℕ) (old new : List Entry) (pb pn : ℕ) (t : Transcript) (bytes : List ℕ) (asked : Request)
    → IsSession m root before after t → IsJournalled limit old new pb pn t → IsQuiet m root before after bytes asked → HasRoom limit old pb pn
    → IsDoneOr asked t.ending t.reply
complete m root before after limit old new pb pn t bytes asked s j q r =
    complete-at m root before after limit old new pb pn t bytes asked s q j r t.ending refl s.course
