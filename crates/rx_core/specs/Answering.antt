-- What a client may be answered.
use Rattle.std.specs.Prelude.{◌≡◌, ◌≢◌, ℕ, ◌<◌, None, Some, length}
use Rattle.rx_board.specs.declared.journal.Entry.{Entry}
use Rattle.rx_core.specs.Actions.{Action, won}
use Rattle.rx_core.specs.Attempts.{Finished, end_in}
use Rattle.rx_core.specs.Replies.{Reply}
use Rattle.rx_core.specs.States.{State}
use Rattle.rx_world.specs.declared.attempts.Attempt.{Attempt}
use Rattle.rx_world.specs.declared.attempts.Cause.TheVariants as local_causes
use Rattle.rx_world.specs.declared.attempts.End.TheVariants.{Failed}
use Rattle.rx_world.specs.declared.attempts.Origin.{Origin}
use Rattle.rx_world.specs.declared.decisions.Decision.TheVariants as decisions
use Rattle.rx_world.specs.declared.outcomes.Exit.{Exit}
use Rattle.rx_world.specs.declared.remote_causes.RemoteCause.TheVariants as remote_causes

-- the outcome that won has this exit and origin, and all its files were placed
pub record IsDone {H : Type 0} (a : Action H) (exit : Exit) (origin : Origin) : Type 0 where
  pub finished : Finished
  pub won_is : won a ≡ Some finished
  pub exit_is : exit ≡ finished.outcome.exit
  pub origin_is : origin ≡ finished.origin
  pub entry : Entry
  pub entry_is : a.entry ≡ Some entry
  pub whole : entry.placed ≡ length entry.files

-- so many files were placed, and these are fewer than the entry has
pub record IsShort {H : Type 0} (a : Action H) (placed : ℕ) : Type 0 where
  pub entry : Entry
  pub entry_is : a.entry ≡ Some entry
  pub placed_is : placed ≡ entry.placed
  pub fewer : entry.placed < length entry.files

-- nothing is to be published, and no attempt ended for want of memory
pub record HasFailed {H : Type 0} (a : Action H) : Type 0 where
  pub nothing : a.decision ≡ decisions.Nothing
  pub local : end_in a.local ≢ Some (Failed local_causes.NoMemory)
  pub remote : end_in a.remote ≢ Some (Failed remote_causes.NoMemory)

-- it is decided for an attempt, and nothing was published since the journal is full
pub record HasNoRoom {H : Type 0} (state : State H) (a : Action H) : Type 0 where
  pub attempt : Attempt
  pub decision_is : a.decision ≡ decisions.By attempt
  pub no_entry : a.entry ≡ None
  pub full : length state.journal ≡ state.limit

-- each reply by its cause
abbrev pub HasReplyCause : {H : Type 0} → State H → Action H → Reply → Type 0
HasReplyCause state a (Reply.Done exit origin) = IsDone a exit origin
HasReplyCause state a (Reply.PlaceFault placed) = IsShort a placed
HasReplyCause state a Reply.Cancelled = a.decision ≡ decisions.Cancelled
HasReplyCause state a Reply.AllFailed = HasFailed a
HasReplyCause state a Reply.JournalFull = HasNoRoom state a
HasReplyCause state a Reply.NoMemory = a.entry ≡ None

-- an action is answered once
pub record MayAnswer {H : Type 0} (state : State H) (reply : Reply) (a : Action H) : Type 0 where
  pub unanswered : a.reply ≡ None
  pub cause : HasReplyCause state a reply
