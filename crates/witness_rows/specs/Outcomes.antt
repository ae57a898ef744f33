-- What a Done tells where its outcome is known.
use Rattle.std.specs.Prelude.{◌≡◌, ℕ, ℤ, List, [], ◌∷◌, Option, Some, length}
use Rattle.rx_board.specs.declared.journal.Entry.{Entry}
use Rattle.rx_engine.specs.Honest.{whole_entry}
use Rattle.rx_session.specs.declared.replies.Reply.{Reply}
use Rattle.rx_session.specs.declared.replies.Reply.TheVariants as reply
use Rattle.rx_world.specs.declared.attempts.Origin.{Origin}
use Rattle.rx_world.specs.declared.outcomes.Outcome.{Outcome}

-- its exit, and that the first session published all its files as the first entry
pub record TellsOutcome (outcome : Outcome) (journal : List Entry) (exit : ℤ) (stdout stderr : List ℕ) (placed : ℕ) : Type 0 where
  pub code_is : exit ≡ outcome.exit.code
  pub stdout_is : stdout ≡ outcome.exit.stdout
  pub stderr_is : stderr ≡ outcome.exit.stderr
  pub placed_is : placed ≡ length outcome.files
  pub journal_is : journal ≡ whole_entry 1 1 outcome ∷ []

-- where the session is done, it is done with this outcome
abbrev pub IsOutcomeIfDone : Outcome → List Entry → Option Reply → Type 0
IsOutcomeIfDone outcome journal answer =
    (exit : ℤ) (stdout stderr : List ℕ) (from : Origin) (number placed : ℕ) → answer ≡ Some (reply.Done exit stdout stderr from number placed) →
    TellsOutcome outcome journal exit stdout stderr placed
