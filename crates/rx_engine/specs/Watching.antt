-- What a client that may cancel said behind its request while the attempts ran, and what became of the right to cancel.
use Rattle.std.specs.Prelude.{◌≡◌, ℕ, ◌≤◌, Bool, false, List, [], IfSome, is_some, length}
use Rattle.std.specs.Io.KnownBytes.{Consumes}
use Rattle.rx_race.specs.declared.slips.Seat.TheVariants.{Canceller}
use Rattle.rx_race.specs.declared.slips.Slip.{Slip}
use Rattle.rx_race.specs.declared.slips.Slip.TheVariants.{Unused}
use Rattle.rx_race.specs.Slips.{Ticket}
use Rattle.rx_session.specs.Cancels.{IsCancelBy, cancel_length}
use Rattle.rx_world.specs.declared.streams.Source as inputs
use Rattle.rx_engine.specs.declared.attempts.Heard.{Heard}
use Rattle.rx_engine.specs.declared.pending.Stage.{Stage}
use Rattle.rx_engine.specs.declared.pending.Stage.TheVariants as stages
use Rattle.rx_engine.specs.Racing.{is_cancelled}

-- what was heard is why the race was cancelled, where it was
abbrev pub TellsWhy : {I : Type 0} → inputs.Ghosts I → I → I → Heard → Type 0
TellsWhy i before after heard =
    IfSome heard.cancelled (λ reason. IsCancelBy reason heard.bytes.items (i.left after) (i.faults before) (i.faults after))

-- What was read between these states of the input is what was heard, and it cancelled the race where the right to cancel won.
pub record HasHeard {I : Type 0} (i : inputs.Ghosts I) (before after : I) (heard : Heard) (slip : Slip) : Type 0 where
  pub consumed : Consumes (i.left before) (i.left after) heard.bytes.items
  pub later : i.faults before ≤ i.faults after
  pub few : length heard.bytes.items ≤ cancel_length
  pub why : TellsWhy i before after heard
  pub cancelled_is : is_some heard.cancelled ≡ is_cancelled slip

-- a watcher heard this
pub record HasWatched {I : Type 0} (i : inputs.Ghosts I) (before after : I) (heard : Heard) (ticket : Ticket) : Type 0 where
  pub seat : ticket.seat ≡ Canceller
  pub heard_is : HasHeard i before after heard ticket.slip

-- nothing was read, and nobody cancelled
pub record IsUnheard {I : Type 0} (i : inputs.Ghosts I) (before after : I) (heard : Heard) (slip : Slip) : Type 0 where
  pub bytes_are : heard.bytes.items ≡ []
  pub slip_is : slip ≡ Unused
  pub left_is : i.left after ≡ i.left before
  pub faults_are : i.faults after ≡ i.faults before

-- the same of a session by whether its client may cancel: nothing is read of one that may not
pub record Listens {I : Type 0} (i : inputs.Ghosts I) (watch : Bool) (before after : I) (heard : Heard) (slip : Slip) : Type 0 where
  pub heard_is : HasHeard i before after heard slip
  pub unwatched : watch ≡ false → IsUnheard i before after heard slip

pub record HasListened {I : Type 0} (i : inputs.Ghosts I) (watch : Bool) (before after : I) (heard : Heard) (ticket : Ticket) : Type 0 where
  pub seat : ticket.seat ≡ Canceller
  pub listens : Listens i watch before after heard ticket.slip

-- ---- by stage

-- what was heard while a session came to this
abbrev pub heard_in : Stage → List ℕ
heard_in stages.Lost = []
heard_in (stages.ShutDown frame) = []
heard_in (stages.Refused answered) = []
heard_in (stages.Attempted attempted) = attempted.heard.bytes.items

-- the input was left alone, but for what was heard while attempts ran
abbrev pub ListensIn : {I : Type 0} → inputs.Ghosts I → Bool → I → I → Stage → Type 0
ListensIn i watch before after stages.Lost = (i.left after ≡ i.left before) × (i.faults after ≡ i.faults before)
ListensIn i watch before after (stages.ShutDown frame) = (i.left after ≡ i.left before) × (i.faults after ≡ i.faults before)
ListensIn i watch before after (stages.Refused answered) = (i.left after ≡ i.left before) × (i.faults after ≡ i.faults before)
ListensIn i watch before after (stages.Attempted attempted) =
    Listens i watch before after attempted.heard attempted.tally.passes.cancel
