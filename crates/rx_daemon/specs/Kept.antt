-- What a run of sessions in threads keeps of them.
use Rattle.std.specs.Prelude.{◌≡◌, ◌<◌, ◌≤◌, ℕ, ◌+◌, Bool, true, List, [], ◌∷◌, All, Option, length}
use Rattle.std.specs.declared.sync.ledger.Blank.{Blank}
use Rattle.rx_board.specs.declared.journal.Entry.{Entry}
use Rattle.rx_board.specs.Board.{State}
use Rattle.rx_engine.specs.declared.pending.Pending.{Pending}
use Rattle.rx_engine.specs.declared.transcripts.Transcript.{Transcript}
use Rattle.rx_engine.specs.Journal.{IsJournalled}
use Rattle.rx_engine.specs.Meanings.{Meanings}
use Rattle.rx_engine.specs.Pending.{IsPending}
use Rattle.rx_engine.specs.Session.{IsSession}
use Rattle.rx_world.specs.declared.outcomes.FileOut.{FileOut}
use Rattle.rx_world.specs.declared.places.Place as places
use Rattle.rx_daemon.specs.declared.served.ServedDesk.{ServedDesk}
use Rattle.rx_daemon.specs.Fronts.{IsGiven}
use Rattle.rx_daemon.specs.Rights.{IsRight}
use Rattle.rx_daemon.specs.Threads.{AreInOrder, behind, is_asked, number_of, transcripts_of}

-- how many entries the journal of a run takes
abbrev pub run_limit : ℕ
run_limit = 262144

-- ---- sessions one after the other

-- a session between some states of its parts, and its part of the journal and of the place
pub record IsLink {P W B : Type 0} (m : Meanings P W B) (root : List ℕ) (limit : ℕ) (old new : List Entry) (before now : ℕ) (t : Transcript) : Type 0 where
  pub parts_old : P
  pub parts_new : P
  pub own : IsSession m root parts_old parts_new t
  pub journal : IsJournalled limit old new before now t
  pub later : before ≤ now

-- each goes on with the journal and the place where the one before it left them
abbrev pub Linked : {P W B : Type 0} → Meanings P W B → List ℕ → ℕ → List Entry → List Entry → ℕ → ℕ → List Transcript → Type 0
Linked m root limit old new before now [] = (new ≡ old) × (now ≡ before)
Linked m root limit old new before now (t ∷ ts) =
    (mid : List Entry) × (between : ℕ) × IsLink m root limit old mid before between t × Linked m root limit mid new between now ts

-- ---- in threads

-- The session served the desk of its number: all that its transcript tells is of this very desk, and so is the desk that it handed back.
pub record IsServed {D P W B : Type 0} (m : Meanings P W B) (parts : D → P) (root : List ℕ) (coming : Option (List D)) (gives : ℕ → D → Type 0)
    (before : ℕ) (rights : List Blank) (s : ServedDesk D) : Type 0 where
  pub was : D
  pub given : IsGiven coming gives before (number_of s) was
  pub right : IsRight rights (number_of s) s.right
  pub session : IsSession m root (parts was) (parts s.desk) s.transcript

-- the session of the desk of this number is pending
pub record IsPendingFor {D P W B : Type 0} (m : Meanings P W B) (parts : D → P) (root : List ℕ) (coming : Option (List D)) (gives : ℕ → D → Type 0)
    (before number : ℕ) (after : P) (pending : Pending) : Type 0 where
  pub was : D
  pub given : IsGiven coming gives before number was
  pub is_pending : IsPending m root (parts was) after pending

-- The board, the sessions that ended, in the order in which they published, how many ended, how many admissions are out, and whether a session was
-- asked to end the run.
pub record Sessions (D Q : Type 0) : Type 0 where
  pub board : State Q
  pub served : List (ServedDesk D)
  pub concluded : ℕ
  pub out : ℕ
  pub asked : Bool

-- Each session that ended is here, as if they had come one after the other. Behind the first that was asked to end the run there are no more than
-- were admitted then.
pub record IsKept {D P Q W B : Type 0} (m : Meanings P W B) (p : places.Ghosts Q) (parts : D → P) (root : List ℕ) (opening : Option (List FileOut))
    (coming : Option (List D)) (gives : ℕ → D → Type 0) (before : ℕ) (rights : List Blank) (most : ℕ) (kept : Sessions D Q) : Type 0 where
  pub limit : kept.board.limit ≡ run_limit
  pub opening_is : p.opening kept.board.place ≡ opening
  pub linked : Linked m root run_limit [] kept.board.journal 0 (p.faults kept.board.place) (transcripts_of kept.served)
  pub all_are : All (IsServed m parts root coming gives before rights) kept.served
  pub in_order : AreInOrder kept.served
  pub each : length kept.served ≡ kept.concluded
  pub within : kept.out ≤ most
  pub asked_is : kept.asked ≡ is_asked kept.served
  pub late : kept.asked ≡ true → length (behind kept.served) + kept.out < most
