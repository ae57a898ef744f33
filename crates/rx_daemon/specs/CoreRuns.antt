-- What the sessions of a run are to the core: each one that made attempts is an action, and steps of the core lead to all of them.
use Rattle.std.specs.Prelude.{◌≡◌, ◌⊎◌, ℕ, Bool, List, [], ◌∷◌, Option, None, Some, MatchOption}
use Rattle.std.specs.List.{AllByRecursion}
use Rattle.rx_board.specs.declared.journal.Entry.{Entry}
use Rattle.rx_core.specs.Actions.{Action}
use Rattle.rx_core.specs.Attempts.{Ended as HasEnded, Idle, Offered, Progress, Running, end_in}
use Rattle.rx_core.specs.FarmHistories.{farm_rules}
use Rattle.rx_core.specs.Remote.{Rules}
use Rattle.rx_core.specs.Replies.{Reply as CoreReply}
use Rattle.rx_core.specs.Runs.{IsReached}
use Rattle.rx_core.specs.States.{Has, State}
use Rattle.rx_core.specs.ToldRaces.{decided_by}
use Rattle.rx_engine.specs.declared.transcripts.Passes.{Passes}
use Rattle.rx_engine.specs.declared.transcripts.Transcript.{Transcript}
use Rattle.rx_engine.specs.Answers.{asked_of}
use Rattle.rx_engine.specs.Attempts.{in_order, kept_of, listed_local, listed_remote, no_tally}
use Rattle.rx_engine.specs.Meanings.{Meanings}
use Rattle.rx_engine.specs.Racing.{first_by, is_cancelled, is_told_won, unstarted}
use Rattle.rx_engine.specs.Session.{tally_in}
use Rattle.rx_race.specs.declared.slips.Slip.{Slip}
use Rattle.rx_race.specs.Slips.{told_in}
use Rattle.rx_remote.specs.Marks.{Turn}
use Rattle.rx_scan.specs.Gathering.{IsPlanned, command_asked}
use Rattle.rx_session.specs.declared.replies.Reply.{Reply}
use Rattle.rx_session.specs.declared.replies.Reply.TheVariants as reply
use Rattle.rx_session.specs.declared.requests.Request.{Request}
use Rattle.rx_world.specs.declared.attempts.Ended.{Ended}
use Rattle.rx_world.specs.declared.decisions.Decision.{Decision}
use Rattle.rx_world.specs.declared.outcomes.FileOut.{FileOut}

-- what remote attempts may hear, and what that leaves
abbrev pub rules_of : {P W B : Type 0} → Meanings P W B → Rules Turn
rules_of m = farm_rules m.world.blob m.world.tool

-- ---- what the passes were told

-- what a race with such passes came to
abbrev pub decision_of : Passes → Decision
decision_of passes = decided_by (is_told_won passes.local) (is_told_won passes.remote) (is_cancelled passes.cancel)

-- what became of the pass of an attempt that is so far
abbrev pub HasPass : {C : Type 0} → Progress C → Slip → Type 0
HasPass Idle slip = (due : Bool) × (slip ≡ unstarted due)
HasPass Running slip = ⊥
HasPass (HasEnded end) slip = ⊥
HasPass (Offered end verdict) slip = told_in slip ≡ Some verdict

-- ---- ends

-- the ends of an action as a transcript keeps them, by what became of the remote one's pass
abbrev pub ends_of : {H : Type 0} → Action H → Slip → List Ended
ends_of a remote = in_order (first_by remote) (listed_local (kept_of (end_in a.local))) (listed_remote (kept_of (end_in a.remote)))

-- ---- replies

-- what the core says of a reply; of a refusal before any attempt it says nothing
abbrev pub in_core : Option Reply → Option CoreReply
in_core None = None
in_core (Some (reply.Done exit stdout stderr from number placed)) =
    Some (CoreReply.Done (record { code = exit; stdout = stdout; stderr = stderr }) from)
in_core (Some (reply.PlaceFault number placed)) = Some (CoreReply.PlaceFault placed)
in_core (Some (reply.Cancelled reason)) = Some CoreReply.Cancelled
in_core (Some (reply.AllFailed failures)) = Some CoreReply.AllFailed
in_core (Some reply.JournalFull) = Some CoreReply.JournalFull
in_core (Some reply.NoMemory) = Some CoreReply.NoMemory
in_core (Some (reply.BadRequest bad)) = None
in_core (Some (reply.NotRemotable why)) = None
in_core (Some (reply.InputMissing path)) = None
in_core (Some (reply.InputChanged input)) = None
in_core (Some (reply.SourceFault path)) = None
in_core (Some (reply.TooLarge limit n path)) = None
in_core (Some (reply.Blocked path)) = None
in_core (Some (reply.InPlace cause)) = None

-- ---- sessions

-- An action has what a transcript tells of its request's race: each end with what its offer was told, the decision, the entry and the
-- reply.
pub record IsActionOf {H : Type 0} (t : Transcript) (a : Action H) : Type 0 where
  pub request : Request
  pub request_is : t.request ≡ Some request
  pub command_is : a.job.command ≡ command_asked (asked_of request)
  pub planned : IsPlanned (asked_of request) a.plan
  pub accepts_is : a.job.accept_cached ≡ request.accept_cached
  pub session_is : a.session ≡ t.number
  pub local_is : HasPass a.local t.passes.local
  pub remote_is : HasPass a.remote t.passes.remote
  pub decision_is : a.decision ≡ decision_of t.passes
  pub ends_are : t.ends ≡ ends_of a t.passes.remote
  pub entry_is : MatchOption t.receipt (a.entry ≡ None) (λ receipt. (entry : Entry) × (a.entry ≡ Some entry) × (entry.number ≡ receipt.number))
  pub reply_is : a.reply ≡ in_core t.reply

-- no attempt was made, and nothing was published: it is no action
pub record IsNoAction {H : Type 0} (state : State H) (t : Transcript) : Type 0 where
  pub none : state.actions t.number ≡ None
  pub tally_is : tally_in t ≡ no_tally
  pub receipt_is : t.receipt ≡ None

abbrev pub IsInState : {H : Type 0} → State H → Transcript → Type 0
IsInState state t = IsNoAction state t ⊎ Has state t.number (IsActionOf t)

abbrev pub AreInState : {H : Type 0} → State H → List Transcript → Type 0
AreInState state ts = AllByRecursion (IsInState state) ts

-- Steps of the core lead to a state with this journal, in which each of these sessions is an action of its number, or is none since it made
-- no attempt.
pub record IsCoreRun (rules : Rules Turn) (files : List FileOut) (limit : ℕ) (journal : List Entry) (ts : List Transcript) : Type 0 where
  pub state : State Turn
  pub reached : IsReached rules files state
  pub limit_is : state.limit ≡ limit
  pub journal_is : state.journal ≡ journal
  pub each : AreInState state ts
