-- The publication of an action: where it may come, and what it leaves.
use Rattle.std.specs.Prelude.{◌≡◌, ℕ, ◌+◌, ◌<◌, ◌≤◌, [], ◌∷◌, ◌++◌, Option, None, Some, length, take}
use Rattle.rx_board.specs.declared.journal.Entry.{Entry}
use Rattle.rx_core.specs.Actions.{Action, won}
use Rattle.rx_core.specs.Attempts.{Finished}
use Rattle.rx_core.specs.States.{State, with_change}
use Rattle.rx_world.specs.declared.outcomes.Outcome.{Outcome}
use Rattle.rx_world.specs.Causes.{Rose}
use Rattle.rx_world.specs.Files.{all_placed_by}
use Rattle.rx_world.specs.Outcomes.{listing}

-- It is decided for an attempt, nothing was published or answered, and the journal has room. All
-- files are placed, or fewer where the place's count of faults rises.
pub record MayPublish {H : Type 0} (state : State H) (placed faults : ℕ) (a : Action H)
    : Type 0 where
  pub finished : Finished
  pub won_is : won a ≡ Some finished
  pub no_entry : a.entry ≡ None
  pub no_reply : a.reply ≡ None
  pub room : length state.journal < state.limit
  pub within : placed ≤ length finished.outcome.files
  pub later : state.faults ≤ faults
  pub fewer : placed < length finished.outcome.files → Rose state.faults faults

-- the next entry, with the listing of the outcome's files
abbrev pub entry_of : {H : Type 0} → State H → Action H → ℕ → Outcome → Entry
entry_of state a placed outcome = record {
  number = length state.journal + 1;
  session = a.session;
  files = listing outcome.files;
  placed = placed;
}

abbrev pub with_entry : {H : Type 0} → Entry → Action H → Action H
with_entry entry a = record a { entry = Some entry }

-- one entry more, and its first files in the place
abbrev pub published : {H : Type 0} → ℕ → ℕ → ℕ → State H → Action H → Option Finished → State H
published n placed faults state a None = state
published n placed faults state a (Some finished) =
    let entry = entry_of state a placed finished.outcome in
    let files = take placed finished.outcome.files in
    record (with_change n (with_entry entry) state) {
      journal = state.journal ++ entry ∷ [];
      place = all_placed_by (λ file. file.path) files state.place;
      faults = faults;
    }

-- the action with this number is published
abbrev pub publish : {H : Type 0} → ℕ → ℕ → ℕ → State H → Option (Action H) → State H
publish n placed faults state None = state
publish n placed faults state (Some a) = published n placed faults state a (won a)
