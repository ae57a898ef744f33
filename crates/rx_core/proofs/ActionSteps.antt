-- The other steps of an action keep its facts: what is heard, an exit, a publication, an answer.
use Rattle.std.proofs.Common.{◌≡◌, ℕ, List, ◌∷◌, Option, None, Some, refl, ap, sym, subst, ◌∙◌}
use Rattle.std.proofs.lemmas.List.{length-map}
use Rattle.std.specs.Prelude.{IfSome}
use Rattle.rx_board.specs.declared.journal.Entry.{Entry}
use Rattle.rx_core.specs.Actions.{Action, admitted, standing_of, winner_of, won}
use Rattle.rx_core.specs.Answering.{HasReplyCause, MayAnswer}
use Rattle.rx_core.specs.Attempts.{Finished, MayEnd, Progress, Running, Stops, end_in, finished_in, phase_in, remote_stop}
use Rattle.rx_core.specs.Facts.{Facts, IsEntryOf, IsReplyOf, IsUnpublished}
use Rattle.rx_core.specs.Publications.{MayPublish, entry_of, with_entry}
use Rattle.rx_core.specs.Remote.{AreHeard, AreLawful, Job, Rules}
use Rattle.rx_core.specs.Replies.{Reply}
use Rattle.rx_core.specs.States.{State}
use Rattle.rx_core.specs.Steps.{MayExit, MayHear, answer, ended_by, exit, hear}
use Rattle.rx_core.proofs.Cases.{none-some}
use Rattle.rx_core.proofs.Growing.{Grows, entry-grows, if-some-map, reply-grows}
use Rattle.rx_core.proofs.Outcomes.{won-proper}
use Rattle.rx_race.specs.declared.standing.Phase.TheVariants as phases
use Rattle.rx_race.specs.declared.standing.Standing.{Standing}
use Rattle.rx_race.specs.Sound.{Sound}
use Rattle.rx_race.specs.Standings.{phase_of}
use Rattle.rx_race.proofs.SoundStarts.{sound-fresh}
use Rattle.rx_world.specs.declared.attempts.Attempt.{Attempt}
use Rattle.rx_world.specs.declared.attempts.Attempt.TheVariants.{Local, Remote}
use Rattle.rx_world.specs.declared.attempts.Cause.{Cause}
use Rattle.rx_world.specs.declared.attempts.End.{End}
use Rattle.rx_world.specs.declared.attempts.End.TheVariants.{Done, Failed}
use Rattle.rx_world.specs.declared.attempts.Plan.{Plan}
use Rattle.rx_world.specs.declared.commands.Command.{Command}
use Rattle.rx_world.specs.declared.decisions.Decision.{Decision}
use Rattle.rx_world.specs.declared.decisions.Decision.TheVariants.{Cancelled, Nothing}
use Rattle.rx_world.specs.declared.outcomes.Outcome.{Outcome}
use Rattle.rx_world.specs.declared.remote_causes.RemoteCause.{RemoteCause}
use Rattle.rx_world.specs.declared.remote_causes.RemoteCause.TheVariants as causes
use Rattle.rx_world.specs.declared.trees.Tree.{Tree}
use Rattle.rx_world.specs.Outcomes.{listing}

pub facts-admitted : {H : Type 0} (rules : Rules H) (session : ℕ) (plan : Plan) (job : Job)
    → Facts rules (admitted session plan job)
facts-admitted rules session plan job = record {
  race = sound-fresh plan;
  local = tt;
  remote = tt;
  heard = tt;
  heard_end = tt;
  entry = tt;
  reply = tt;
}

-- an attempt that runs has offered nothing
running-unfinished : {C B : Type 0} (p : Progress C) (f : Finished) → p ≡ Running
    → finished_in p ≡ Some f → B
running-unfinished p f running e = none-some (sym (ap finished_in running) ∙ e)

-- while an attempt runs, it isn't decided for nothing
running-open : (s : Standing) (x : Attempt) → Sound s → phase_of x s ≡ phases.Running
    → s.decision ≡ Nothing → ⊥
running-open s x h running over =
    let planned = h.planned x (λ idle. let no : phases.Running ≡ phases.Idle =
    sym running ∙ idle in cc) in
    let noted = sym running ∙ h.nothing over x planned in cc

-- ---- what is heard

module _ {H : Type 0} (tool : Command → Tree → Outcome) (rules : Rules H)
    (lawful : AreLawful tool rules) where
  -- the end that what was heard leaves may be one
  heard-may-end : (job : Job) (item : H) (earlier : List H) (made : Decision)
      (end : End Outcome RemoteCause) → AreHeard rules job (item ∷ earlier)
      → IfSome (rules.decision_of item) (Stops made)
      → rules.end_of job (item ∷ earlier) ≡ Some end → MayEnd remote_stop job.command made end
  heard-may-end job item earlier made (Done outcome origin) heard stops e =
      lawful.proper job (item ∷ earlier) outcome origin heard e
  heard-may-end job item earlier made (Failed (causes.Stopped decision)) heard stops e =
      subst (λ m. IfSome m (Stops made)) (lawful.stops job item earlier decision heard e) stops
  heard-may-end job item earlier made (Failed (causes.CallFailed faults)) heard stops e = tt
  heard-may-end job item earlier made (Failed (causes.BadBlob expected got)) heard stops e = tt
  heard-may-end job item earlier made (Failed (causes.BadResult fault)) heard stops e = tt
  heard-may-end job item earlier made (Failed causes.OperationsSpent) heard stops e = tt
  heard-may-end job item earlier made (Failed (causes.InputChanged input)) heard stops e = tt
  heard-may-end job item earlier made (Failed (causes.WrongVersion low high)) heard stops e = tt
  heard-may-end job item earlier made (Failed (causes.SourceFault path)) heard stops e = tt
  heard-may-end job item earlier made (Failed causes.NoMemory) heard stops e = tt

  grows-hear : (a : Action H) (item : H) (m : Option (End Outcome RemoteCause))
      → a.remote ≡ Running → Sound (standing_of a)
      → Grows a (record a { heard = item ∷ a.heard; remote = ended_by m a.remote })
  grows-hear a item m running sound = record {
    decided = λ made. refl;
    local = λ f e. e;
    remote = λ f e. running-unfinished a.remote f running e;
    over = λ d.
        absurd (running-open (standing_of a) Remote sound (ap phase_in running) d);
    session = refl;
    entry = refl;
    reply = refl;
  }

  hear-to : (a : Action H) (item : H) (m : Option (End Outcome RemoteCause))
      → rules.end_of a.job (item ∷ a.heard) ≡ m → MayHear rules item a → Facts rules a
      → Facts rules (record a { heard = item ∷ a.heard; remote = ended_by m a.remote })
  hear-to a item None e may h = record {
    race = h.race;
    local = h.local;
    remote = h.remote;
    heard = (may.fits, h.heard);
    heard_end = subst
        (λ p. IfSome (end_in p) (λ end. rules.end_of a.job (item ∷ a.heard) ≡ Some end))
        (sym may.running) tt;
    entry = entry-grows a _ (grows-hear a item None may.running h.race) h.entry;
    reply = reply-grows a _ (grows-hear a item None may.running h.race) h.reply;
  }
  hear-to a item (Some end) e may h = record {
    race = subst (λ p. Sound (record (standing_of a) { remote = phase_in p })) may.running h.race;
    local = h.local;
    remote = heard-may-end a.job item a.heard a.decision end (may.fits, h.heard) may.stops e;
    heard = (may.fits, h.heard);
    heard_end = e;
    entry = entry-grows a _ (grows-hear a item (Some end) may.running h.race) h.entry;
    reply = reply-grows a _ (grows-hear a item (Some end) may.running h.race) h.reply;
  }

  pub facts-hear : (a : Action H) (item : H) → MayHear rules item a → Facts rules a
      → Facts rules (hear rules item a)
  facts-hear a item may h = hear-to a item (rules.end_of a.job (item ∷ a.heard)) refl may h

-- ---- exits

grows-exit : {H : Type 0} (a : Action H) (end : End Outcome Cause) → a.local ≡ Running
    → Sound (standing_of a) → Grows a (exit end a)
grows-exit a end running sound = record {
  decided = λ made. refl;
  local = λ f e. running-unfinished a.local f running e;
  remote = λ f e. e;
  over = λ d. absurd (running-open (standing_of a) Local sound (ap phase_in running) d);
  session = refl;
  entry = refl;
  reply = refl;
}

pub facts-exit : {H : Type 0} (rules : Rules H) (a : Action H) (end : End Outcome Cause)
    → MayExit end a → Facts rules a → Facts rules (exit end a)
facts-exit rules a end may h = record {
  race = subst (λ p. Sound (record (standing_of a) { local = phase_in p })) may.running h.race;
  local = may.may_end;
  remote = h.remote;
  heard = h.heard;
  heard_end = h.heard_end;
  entry = entry-grows a (exit end a) (grows-exit a end may.running h.race) h.entry;
  reply = reply-grows a (exit end a) (grows-exit a end may.running h.race) h.reply;
}

-- ---- publications

pub facts-publish : {H : Type 0} (rules : Rules H) (state : State H) (a : Action H)
    (placed faults : ℕ) (may : MayPublish state placed faults a) → Facts rules a
    → Facts rules (with_entry (entry_of state a placed may.finished.outcome) a)
facts-publish rules state a placed faults may h =
    let entry = entry_of state a placed may.finished.outcome in record {
      race = h.race;
      local = h.local;
      remote = h.remote;
      heard = h.heard;
      heard_end = h.heard_end;
      entry = record {
        finished = may.finished;
        won_is = may.won_is;
        session_is = refl;
        files_are = refl;
        within = rw length-map may.within;
        none = λ failed.
            ap listing ((won-proper rules a may.finished h may.won_is).none failed);
      };
      reply = subst (λ m. IfSome m (IsReplyOf (with_entry entry a))) (sym may.no_reply) tt;
    }

-- ---- answers

no-entry : {H : Type 0} (a : Action H) (m : Option Entry) → IfSome m (IsEntryOf a) → won a ≡ None
    → m ≡ None
no-entry a None h lost = refl
no-entry a (Some entry) h lost = none-some (sym lost ∙ h.won_is)

-- where nobody won, nothing was published
unpublished : {H : Type 0} (a : Action H) (d : Decision) (reply : Reply)
    → winner_of d (finished_in a.local) (finished_in a.remote) ≡ None
    → IfSome a.entry (IsEntryOf a) → a.decision ≡ d → IsUnpublished (answer reply a) d
unpublished a d reply lost h is = record {
  no_entry = no-entry a a.entry h
      (ap (λ e. winner_of e (finished_in a.local) (finished_in a.remote)) is ∙ lost);
  decision_is = is;
}

reply-is : {H : Type 0} (state : State H) (a : Action H) (reply : Reply)
    → HasReplyCause state a reply → IfSome a.entry (IsEntryOf a)
    → IsReplyOf (answer reply a) reply
reply-is state a (Reply.Done exit origin) cause h = record {
  finished = cause.finished;
  won_is = cause.won_is;
  exit_is = cause.exit_is;
  origin_is = cause.origin_is;
  entry = cause.entry;
  entry_is = cause.entry_is;
  whole = cause.whole;
}
reply-is state a (Reply.PlaceFault placed) cause h = record {
  entry = cause.entry;
  entry_is = cause.entry_is;
  placed_is = cause.placed_is;
  fewer = cause.fewer;
}
reply-is state a Reply.Cancelled cause h = unpublished a Cancelled Reply.Cancelled refl h cause
reply-is state a Reply.AllFailed cause h = (
  record { nothing = cause.nothing; local = cause.local; remote = cause.remote },
  (unpublished a Nothing Reply.AllFailed refl h cause.nothing).no_entry,
)
reply-is state a Reply.JournalFull cause h =
    (cause.attempt, record { no_entry = cause.no_entry; decision_is = cause.decision_is })
reply-is state a Reply.NoMemory cause h = cause

pub facts-answer : {H : Type 0} (rules : Rules H) (state : State H) (a : Action H) (reply : Reply)
    → MayAnswer state reply a → Facts rules a → Facts rules (answer reply a)
facts-answer rules state a reply may h = record {
  race = h.race;
  local = h.local;
  remote = h.remote;
  heard = h.heard;
  heard_end = h.heard_end;
  entry = if-some-map a.entry (IsEntryOf a) (IsEntryOf (answer reply a)) (λ entry i. record {
    finished = i.finished;
    won_is = i.won_is;
    session_is = i.session_is;
    files_are = i.files_are;
    within = i.within;
    none = i.none;
  }) h.entry;
  reply = reply-is state a reply may.cause h.entry;
}
