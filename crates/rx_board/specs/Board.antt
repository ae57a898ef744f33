-- What a board is, and what one publication does to it.
use Rattle.std.specs.Prelude.{◌≡◌, ℕ, ◌+◌, ◌≤◌, ◌<◌, List, [], ◌∷◌, ◌++◌, Option, length, take}
use Rattle.rx_world.specs.declared.outcomes.FileOut.{FileOut}
use Rattle.rx_world.specs.Causes.{Rose}
use Rattle.rx_world.specs.Outcomes.{listing}
use Rattle.rx_board.specs.declared.journal.Entry.{Entry}
use Rattle.rx_board.specs.declared.journal.Receipt.{Receipt}
use Rattle.rx_board.specs.declared.publish_fault.PublishFault.{PublishFault}
use Rattle.rx_board.specs.declared.publish_fault.PublishFault.TheVariants.{PlaceFault, JournalFull, NoMemory}
use Rattle.rx_board.specs.Journal.{AreNumberedFrom, IsKeptBy, count_short}
use Rattle.rx_board.specs.Placing.{PlacesAll}

-- a board: its place, its journal and the most entries of it
pub record State (P : Type 0) : Type 0 where
  pub place : P
  pub journal : List Entry
  pub limit : ℕ

-- the journal says what the place holds, has each number once, is no longer than it may be, and has
-- no more short entries than the place had faults
pub record IsKept (opening contents : Option (List FileOut)) (faults : ℕ) (journal : List Entry) (limit : ℕ) : Type 0 where
  pub kept : IsKeptBy opening contents journal
  pub numbered : AreNumberedFrom 1 journal
  pub within : length journal ≤ limit
  pub short : count_short journal ≤ faults

-- one entry more, with the next number and the files' listing, and so many files placed
pub record Publishes {P : Type 0} (contents : P → Option (List FileOut)) (old new : State P) (session : ℕ) (files : List FileOut) (receipt : Receipt) (placed : ℕ) : Type 0 where
  pub number : receipt.number ≡ length old.journal + 1
  pub journal : new.journal ≡ old.journal ++ record { number = receipt.number; session = session; files = listing files; placed = placed } ∷ []
  pub place : PlacesAll (contents old.place) (contents new.place) (take placed files)

-- all files were placed
abbrev pub IsWhole : {P : Type 0} → (P → Option (List FileOut)) → State P → State P → ℕ → List FileOut → Receipt → Type 0
IsWhole contents old new session files receipt = Publishes contents old new session files receipt (length files)

-- fewer were placed, and the place's count rose
pub record IsShort {P : Type 0} (contents : P → Option (List FileOut)) (faults : P → ℕ) (old new : State P) (session : ℕ) (files : List FileOut) (receipt : Receipt) (placed : ℕ) : Type 0 where
  pub publishes : Publishes contents old new session files receipt placed
  pub fewer : placed < length files
  pub rose : Rose (faults old.place) (faults new.place)

-- nothing was placed, since the journal has as many entries as it may have
pub record IsFull {P : Type 0} (old new : State P) (limit : ℕ) : Type 0 where
  pub limit_is : limit ≡ old.limit
  pub full : length old.journal ≡ old.limit
  pub same : new ≡ old

-- what each fault says
abbrev pub HasPublishCause : {P : Type 0} → (P → Option (List FileOut)) → (P → ℕ) → State P → State P → ℕ → List FileOut → PublishFault → Type 0
HasPublishCause contents faults old new session files (PlaceFault receipt placed) = IsShort contents faults old new session files receipt placed
HasPublishCause contents faults old new session files (JournalFull limit) = IsFull old new limit
HasPublishCause contents faults old new session files NoMemory = new ≡ old
