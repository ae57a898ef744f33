-- What holds in each state of each run, and what no step changes.
use Rattle.std.specs.Prelude.{◌≡◌, ◌≢◌, ℕ, ◌≤◌, List, [], Option, None, Some, Contains, IfSome, length, pos}
use Rattle.rx_board.specs.declared.journal.Entry.{Entry}
use Rattle.rx_board.specs.Journal.{AreNumberedFrom, HoldsLast, IsKeptBy}
use Rattle.rx_core.specs.Actions.{Action, standing_of, won}
use Rattle.rx_core.specs.Answering.{HasFailed, IsDone, IsShort}
use Rattle.rx_core.specs.Attempts.{Ended, Finished, HasVerdict, Idle, MayEnd, Offered, Progress, Running, end_in, local_stop, remote_stop}
use Rattle.rx_core.specs.Remote.{AreHeard, Rules}
use Rattle.rx_core.specs.Replies.{Reply}
use Rattle.rx_core.specs.States.{State}
use Rattle.rx_race.specs.Publishing.{may_publish}
use Rattle.rx_race.specs.Sound.{Sound}
use Rattle.rx_world.specs.declared.attempts.Attempt.{Attempt}
use Rattle.rx_world.specs.declared.attempts.Attempt.TheVariants.{Local, Remote}
use Rattle.rx_world.specs.declared.attempts.Plan.{Plan}
use Rattle.rx_world.specs.declared.commands.Command.{Command}
use Rattle.rx_world.specs.declared.decisions.Decision.{Decision}
use Rattle.rx_world.specs.declared.decisions.Decision.TheVariants as decisions
use Rattle.rx_world.specs.declared.outcomes.FileOut.{FileOut}
use Rattle.rx_world.specs.Outcomes.{listing}

-- ---- of an action

-- Its end may be one, and its offer was told what fits that end.
abbrev pub IsAttempt : {C : Type 0} → (C → Option Decision) → Plan → Attempt → Command → Decision
    → Progress C → Type 0
IsAttempt stop plan attempt command made Idle = Unit {0}
IsAttempt stop plan attempt command made Running = Unit {0}
IsAttempt stop plan attempt command made (Ended end) = MayEnd stop command made end
IsAttempt stop plan attempt command made (Offered end verdict) =
    MayEnd stop command made end × HasVerdict (may_publish plan attempt end) verdict

-- The entry is the listing of the files of the attempt for which it is decided. A command that
-- failed has none.
pub record IsEntryOf {H : Type 0} (a : Action H) (entry : Entry) : Type 0 where
  pub finished : Finished
  pub won_is : won a ≡ Some finished
  pub session_is : entry.session ≡ a.session
  pub files_are : entry.files ≡ listing finished.outcome.files
  pub within : entry.placed ≤ length entry.files
  pub none : finished.outcome.exit.code ≢ pos 0 → entry.files ≡ []

-- Nothing was published, and this was decided.
pub record IsUnpublished {H : Type 0} (a : Action H) (decision : Decision) : Type 0 where
  pub no_entry : a.entry ≡ None
  pub decision_is : a.decision ≡ decision

-- what a reply says of its action
abbrev pub IsReplyOf : {H : Type 0} → Action H → Reply → Type 0
IsReplyOf a (Reply.Done exit origin) = IsDone a exit origin
IsReplyOf a (Reply.PlaceFault placed) = IsShort a placed
IsReplyOf a Reply.Cancelled = IsUnpublished a decisions.Cancelled
IsReplyOf a Reply.AllFailed = HasFailed a × (a.entry ≡ None)
IsReplyOf a Reply.JournalFull = (attempt : Attempt) × IsUnpublished a (decisions.By attempt)
IsReplyOf a Reply.NoMemory = a.entry ≡ None

pub record Facts {H : Type 0} (rules : Rules H) (a : Action H) : Type 0 where
  -- who was started, what was told, and what is decided
  pub race : Sound (standing_of a)
  pub local : IsAttempt local_stop a.plan Local a.job.command a.decision a.local
  pub remote : IsAttempt remote_stop a.plan Remote a.job.command a.decision a.remote
  -- what the remote attempt heard might come so, and its end is what that leaves
  pub heard : AreHeard rules a.job a.heard
  pub heard_end : IfSome (end_in a.remote) (λ end. rules.end_of a.job a.heard ≡ Some end)
  pub entry : IfSome a.entry (IsEntryOf a)
  pub reply : IfSome a.reply (IsReplyOf a)

-- ---- of a state

-- there is an action whose entry this is, and no other
pub record IsOwned {H : Type 0} (state : State H) (entry : Entry) : Type 0 where
  pub n : ℕ
  pub action : Action H
  pub there : state.actions n ≡ Some action
  pub entry_is : action.entry ≡ Some entry
  pub alone : (m : ℕ) (other : Action H) → state.actions m ≡ Some other
      → other.entry ≡ Some entry → m ≡ n

-- that the journal is full was told only where it is
abbrev pub TellsFull : {H : Type 0} → State H → Action H → Type 0
TellsFull state a = a.reply ≡ Some Reply.JournalFull → length state.journal ≡ state.limit

-- The place held these files at first.
pub record Holds {H : Type 0} (rules : Rules H) (files : List FileOut) (state : State H)
    : Type 0 where
  pub each : (n : ℕ) (a : Action H) → state.actions n ≡ Some a → Facts rules a
  -- the entries of the actions are those of the journal
  pub listed : (n : ℕ) (a : Action H) → state.actions n ≡ Some a
      → IfSome a.entry (Contains state.journal)
  pub owned : (entry : Entry) → Contains state.journal entry → IsOwned state entry
  -- the place is what the journal leaves of its first files: at each path the last that was placed
  pub place : IsKeptBy (Some files) (Some state.place) state.journal
  pub last : HoldsLast (Some files) (Some state.place) state.journal
  pub numbered : AreNumberedFrom 1 state.journal
  pub within : length state.journal ≤ state.limit
  pub full : (n : ℕ) (a : Action H) → state.actions n ≡ Some a → TellsFull state a

-- ---- what stays

-- a decision that was made, an entry and a reply stay
pub record Keeps {H : Type 0} (before now : Action H) : Type 0 where
  pub decision : before.decision ≢ decisions.Undecided → now.decision ≡ before.decision
  pub entry : (entry : Entry) → before.entry ≡ Some entry → now.entry ≡ Some entry
  pub reply : (reply : Reply) → before.reply ≡ Some reply → now.reply ≡ Some reply

-- an action is still there, and keeps them
pub record Persists {H : Type 0} (before : Action H) (found : Option (Action H)) : Type 0 where
  pub now : Action H
  pub there : found ≡ Some now
  pub keeps : Keeps before now
