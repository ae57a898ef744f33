-- An action goes on: what was decided, offered, published and answered of it stays.
use Rattle.std.proofs.Common.{◌≡◌, Option, None, Some, sym, subst, ◌∙◌}
use Rattle.std.specs.Prelude.{◌≢◌, IfSome}
use Rattle.rx_core.specs.Actions.{Action, winner_of, won}
use Rattle.rx_core.specs.Attempts.{Ended, Finished, Idle, MayEnd, Offered, Progress, Running, Stops, end_in, finished_in}
use Rattle.rx_core.specs.Facts.{IsAttempt, IsEntryOf, IsReplyOf, IsUnpublished}
use Rattle.rx_core.specs.Replies.{Reply}
use Rattle.rx_core.proofs.Cases.{none-some}
use Rattle.rx_world.specs.declared.attempts.Attempt.{Attempt}
use Rattle.rx_world.specs.declared.attempts.Attempt.TheVariants.{Local, Remote}
use Rattle.rx_world.specs.declared.attempts.End.{End}
use Rattle.rx_world.specs.declared.attempts.End.TheVariants.{Done, Failed}
use Rattle.rx_world.specs.declared.attempts.Plan.{Plan}
use Rattle.rx_world.specs.declared.commands.Command.{Command}
use Rattle.rx_world.specs.declared.decisions.Decision.{Decision}
use Rattle.rx_world.specs.declared.decisions.Decision.TheVariants.{By, Cancelled, Nothing, Undecided}
use Rattle.rx_world.specs.declared.outcomes.Outcome.{Outcome}
use Rattle.rx_world.specs.Decisions.{IsSettled}

pub if-some-map : {A : Type 0} (m : Option A) (P Q : A → Type 0) → ((x : A) → P x → Q x)
    → IfSome m P → IfSome m Q
if-some-map None P Q f h = tt
if-some-map (Some x) P Q f h = f x h

pub record Grows {H : Type 0} (a b : Action H) : Type 0 where
  pub decided : a.decision ≢ Undecided → b.decision ≡ a.decision
  pub local : (f : Finished) → finished_in a.local ≡ Some f → finished_in b.local ≡ Some f
  pub remote : (f : Finished) → finished_in a.remote ≡ Some f → finished_in b.remote ≡ Some f
  pub over : a.decision ≡ Nothing
      → (end_in b.local ≡ end_in a.local) × (end_in b.remote ≡ end_in a.remote)
  pub session : b.session ≡ a.session
  pub entry : b.entry ≡ a.entry
  pub reply : b.reply ≡ a.reply

-- ---- the outcome that won

winner-made : (d : Decision) (local remote : Option Finished) (f : Finished)
    → winner_of d local remote ≡ Some f → d ≢ Undecided
winner-made Undecided local remote f e = none-some e
winner-made (By x) local remote f e = λ u. cc
winner-made Cancelled local remote f e = none-some e
winner-made Nothing local remote f e = none-some e

winner-stays : (d : Decision) (l m r s : Option Finished) (f : Finished)
    → (l ≡ Some f → m ≡ Some f) → (r ≡ Some f → s ≡ Some f)
    → winner_of d l r ≡ Some f → winner_of d m s ≡ Some f
winner-stays Undecided l m r s f local remote e = none-some e
winner-stays (By Local) l m r s f local remote e = local e
winner-stays (By Remote) l m r s f local remote e = remote e
winner-stays Cancelled l m r s f local remote e = none-some e
winner-stays Nothing l m r s f local remote e = none-some e

won-stays : {H : Type 0} (a b : Action H) (f : Finished) → Grows a b → won a ≡ Some f
    → won b ≡ Some f
won-stays a b f g e =
    let local = finished_in a.local in
    let remote = finished_in a.remote in
    let same = g.decided (winner-made a.decision local remote f e) in
    subst (λ d. winner_of d (finished_in b.local) (finished_in b.remote) ≡ Some f) (sym same)
    (winner-stays a.decision local _ remote _ f (g.local f) (g.remote f) e)

-- ---- its entry and its reply

pub entry-grows : {H : Type 0} (a b : Action H) → Grows a b → IfSome a.entry (IsEntryOf a)
    → IfSome b.entry (IsEntryOf b)
entry-grows a b g h = subst (λ m. IfSome m (IsEntryOf b)) (sym g.entry)
    (if-some-map a.entry (IsEntryOf a) (IsEntryOf b) (λ entry i. record {
      finished = i.finished;
      won_is = won-stays a b i.finished g i.won_is;
      session_is = i.session_is ∙ sym g.session;
      files_are = i.files_are;
      within = i.within;
      none = i.none;
    }) h)

unpublished-grows : {H : Type 0} (a b : Action H) (d : Decision) → Grows a b → d ≢ Undecided
    → IsUnpublished a d → IsUnpublished b d
unpublished-grows a b d g made h = record {
  no_entry = g.entry ∙ h.no_entry;
  decision_is = g.decided (λ u. made (sym h.decision_is ∙ u)) ∙ h.decision_is;
}

reply-stays : {H : Type 0} (a b : Action H) (reply : Reply) → Grows a b → IsReplyOf a reply
    → IsReplyOf b reply
reply-stays a b (Reply.Done exit origin) g h = record {
  finished = h.finished;
  won_is = won-stays a b h.finished g h.won_is;
  exit_is = h.exit_is;
  origin_is = h.origin_is;
  entry = h.entry;
  entry_is = g.entry ∙ h.entry_is;
  whole = h.whole;
}
reply-stays a b (Reply.PlaceFault placed) g h = record {
  entry = h.entry;
  entry_is = g.entry ∙ h.entry_is;
  placed_is = h.placed_is;
  fewer = h.fewer;
}
reply-stays a b Reply.Cancelled g h = unpublished-grows a b Cancelled g (λ u. cc) h
reply-stays a b Reply.AllFailed g h =
    let failed = h.0 in
    let same = g.over failed.nothing in
    let stays = g.decided (λ u. let no : Nothing ≡ Undecided = sym failed.nothing ∙ u in cc) in (
      record {
        nothing = stays ∙ failed.nothing;
        local = λ e. failed.local (sym same.0 ∙ e);
        remote = λ e. failed.remote (sym same.1 ∙ e);
      },
      g.entry ∙ h.1,
    )
reply-stays a b Reply.JournalFull g h =
    (h.0, unpublished-grows a b (By h.0) g (λ u. cc) h.1)
reply-stays a b Reply.NoMemory g h = g.entry ∙ h

pub reply-grows : {H : Type 0} (a b : Action H) → Grows a b → IfSome a.reply (IsReplyOf a)
    → IfSome b.reply (IsReplyOf b)
reply-grows a b g h = subst (λ m. IfSome m (IsReplyOf b)) (sym g.reply)
    (if-some-map a.reply (IsReplyOf a) (IsReplyOf b) (λ reply i. reply-stays a b reply g i) h)

-- ---- its attempts

stops-grows : (d e told : Decision) → (d ≢ Undecided → e ≡ d) → Stops d told → Stops e told
stops-grows d e told stays h =
    (h.0 ∙ sym (stays (λ u. subst IsSettled (h.0 ∙ u) h.1)), h.1)

pub end-grows : {C : Type 0} (stop : C → Option Decision) (command : Command) (d e : Decision)
    (end : End Outcome C) → (d ≢ Undecided → e ≡ d) → MayEnd stop command d end
    → MayEnd stop command e end
end-grows stop command d e (Done outcome origin) stays h = h
end-grows stop command d e (Failed cause) stays h =
    if-some-map (stop cause) (Stops d) (Stops e) (λ told. stops-grows d e told stays) h

pub attempt-grows : {C : Type 0} (stop : C → Option Decision) (plan : Plan) (x : Attempt)
    (command : Command) (d e : Decision) (p : Progress C) → (d ≢ Undecided → e ≡ d)
    → IsAttempt stop plan x command d p → IsAttempt stop plan x command e p
attempt-grows stop plan x command d e Idle stays h = tt
attempt-grows stop plan x command d e Running stays h = tt
attempt-grows stop plan x command d e (Ended end) stays h =
    end-grows stop command d e end stays h
attempt-grows stop plan x command d e (Offered end verdict) stays h =
    (end-grows stop command d e end stays h.0, h.1)
