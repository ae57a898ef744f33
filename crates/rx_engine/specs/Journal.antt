-- What a session does to the board: to its journal and to its place.
use Rattle.std.specs.Prelude.{◌≡◌, ◌≢◌, ℕ, ◌+◌, ◌<◌, ◌≤◌, List, [], ◌∷◌, ◌++◌, Option, None, Some, IsSome, MatchOption, length}
use Rattle.rx_board.specs.declared.journal.Entry.{Entry}
use Rattle.rx_board.specs.declared.journal.Receipt.{Receipt}
use Rattle.rx_board.specs.Board.{State}
use Rattle.rx_session.specs.declared.replies.Reply.{Reply}
use Rattle.rx_session.specs.declared.replies.Reply.TheVariants as reply
use Rattle.rx_world.specs.declared.attempts.Ended.{Ended}
use Rattle.rx_world.specs.declared.places.Place as places
use Rattle.rx_world.specs.declared.outcomes.KeptOutcome.{KeptOutcome}
use Rattle.rx_world.specs.declared.outcomes.Listed.{Listed}
use Rattle.rx_world.specs.Causes.{Rose}
use Rattle.rx_engine.specs.declared.transcripts.Transcript.{Transcript}
use Rattle.rx_engine.specs.Attempts.{first_done}

-- the files of an outcome, where there is one
abbrev pub files_in : Option KeptOutcome → List Listed
files_in (Some outcome) = outcome.files
files_in None = []

-- the files of the first outcome among these ends
abbrev pub files_of : List Ended → List Listed
files_of ends = files_in (first_done ends)

-- how many of the files were placed: fewer than all only under a place fault, for which the place's count rose
abbrev pub IsPlaced : ℕ → ℕ → ℕ → ℕ → Option Reply → Type 0
IsPlaced before now count placed (Some (reply.PlaceFault number short)) = (short ≡ placed) × (placed < count) × Rose before now
IsPlaced before now count placed (Some (reply.Done exit stdout stderr from number all)) = (all ≡ placed) × (placed ≡ count)
IsPlaced before now count placed (Some (reply.BadRequest bad)) = ⊥
IsPlaced before now count placed (Some (reply.NotRemotable cause)) = ⊥
IsPlaced before now count placed (Some (reply.InputMissing path)) = ⊥
IsPlaced before now count placed (Some (reply.InputChanged input)) = ⊥
IsPlaced before now count placed (Some (reply.SourceFault path)) = ⊥
IsPlaced before now count placed (Some (reply.TooLarge limit n path)) = ⊥
IsPlaced before now count placed (Some (reply.AllFailed failures)) = ⊥
IsPlaced before now count placed (Some (reply.Cancelled reason)) = ⊥
IsPlaced before now count placed (Some reply.JournalFull) = ⊥
IsPlaced before now count placed (Some reply.NoMemory) = ⊥
IsPlaced before now count placed (Some (reply.Blocked path)) = ⊥
IsPlaced before now count placed (Some (reply.InPlace cause)) = ⊥
IsPlaced before now count placed None = ⊥

-- one entry more, of these files and with the next number
pub record IsEntry (old new : List Entry) (before now session : ℕ) (receipt : Receipt) (files : List Listed) (answer : Option Reply) : Type 0 where
  pub placed : ℕ
  pub number_is : receipt.number ≡ length old + 1
  pub journal : new ≡ old ++ record { number = receipt.number; session = session; files = files; placed = placed } ∷ []
  pub placed_is : IsPlaced before now (length files) placed answer

-- A session with a receipt adds one entry, and each other one leaves the journal as it was. It is full exactly where that is answered.
pub record Enters (limit : ℕ) (old new : List Entry) (before now session : ℕ) (receipt : Option Receipt) (files : List Listed)
    (answer : Option Reply) : Type 0 where
  pub entry : MatchOption receipt (new ≡ old) (λ number. IsEntry old new before now session number files answer)
  pub room : IsSome receipt → length old ≢ limit
  pub full : answer ≡ Some reply.JournalFull → length old ≡ limit

-- the same of a transcript, whose entry has the files of the one outcome among its ends that was published
abbrev pub IsJournalled : ℕ → List Entry → List Entry → ℕ → ℕ → Transcript → Type 0
IsJournalled limit old new before now t = Enters limit old new before now t.number t.receipt (files_of t.ends) t.reply

-- the same of two states of a board
abbrev pub EntersBoard : {P : Type 0} → places.Ghosts P → State P → State P → ℕ → Option Receipt → List Listed → Option Reply → Type 0
EntersBoard p old new session receipt files answer =
    Enters old.limit old.journal new.journal (p.faults old.place) (p.faults new.place) session receipt files answer

abbrev pub JournalsBoard : {P : Type 0} → places.Ghosts P → State P → State P → Transcript → Type 0
JournalsBoard p old new t = IsJournalled old.limit old.journal new.journal (p.faults old.place) (p.faults new.place) t

-- the board's limit and the opening contents of its place stay, and the place's count of faults doesn't fall
pub record IsBoardAfter {P : Type 0} (p : places.Ghosts P) (old new : State P) : Type 0 where
  pub limit : new.limit ≡ old.limit
  pub opening : p.opening new.place ≡ p.opening old.place
  pub later : p.faults old.place ≤ p.faults new.place
