-- A run of sessions in threads: each desk that left the front has its number, its session, and its place among those that published.
use Rattle.std.specs.Prelude.{◌≡◌, ℕ, ◌+◌, ◌-◌, ◌<◌, ◌≤◌, List, [], ◌∷◌, Bool, true, Option, if◌then◌else◌, length, map, slice_index_or}
use Rattle.std.specs.List.{list_any}
use Rattle.std.specs.List.Sorted.{IsPermutation}
use Rattle.rx_board.specs.declared.journal.Entry.{Entry}
use Rattle.rx_engine.specs.declared.transcripts.Transcript.{Transcript}
use Rattle.rx_engine.specs.Meanings.{Meanings}
use Rattle.rx_engine.specs.Quiet.{IsDoneOr, IsQuiet}
use Rattle.rx_engine.specs.Session.{IsSession}
use Rattle.rx_session.specs.declared.requests.Request.{Request}
use Rattle.rx_daemon.specs.declared.served.ServedDesk.{ServedDesk}
use Rattle.rx_daemon.specs.Fronts.{GivesAll}
use Rattle.rx_daemon.specs.Proxy.{IsLegal, asks_to_end}
use Rattle.rx_daemon.specs.Serves.{Serves}

abbrev pub number_of : {D : Type 0} → ServedDesk D → ℕ
number_of s = s.transcript.number

abbrev pub transcripts_of : {D : Type 0} → List (ServedDesk D) → List Transcript
transcripts_of {D} ss = map (λ (s : ServedDesk D). s.transcript) ss

-- the desk of a session's number, among those that left the front
abbrev pub desk_of : {D : Type 0} → List D → ServedDesk D → D
desk_of left s = slice_index_or left (number_of s - 1) s.desk

-- ---- numbers and places

-- the session at each place has its number
abbrev pub AreNumbered : {D : Type 0} → List (ServedDesk D) → Type 0
AreNumbered {D} served = (k : ℕ) (d : ServedDesk D) → k < length served → number_of (slice_index_or served k d) ≡ k + 1

-- in the order in which they published
abbrev pub AreInOrder : {D : Type 0} → List (ServedDesk D) → Type 0
AreInOrder {D} published = (k : ℕ) (d : ServedDesk D) → k < length published → (slice_index_or published k d).before ≡ k

-- of the first so many each has a greater number than the one before it
abbrev pub Rises : {D : Type 0} → ℕ → List (ServedDesk D) → Type 0
Rises {D} n served = (j k : ℕ) (d : ServedDesk D) → j ≤ k → k < n → number_of (slice_index_or served j d) + (k - j) ≤ number_of (slice_index_or served k d)

-- ---- the end of the run

abbrev pub asks : {D : Type 0} → ServedDesk D → Bool
asks s = asks_to_end s.transcript.read

-- one of these sessions was asked to end the run
abbrev pub is_asked : {D : Type 0} → List (ServedDesk D) → Bool
is_asked ss = list_any asks ss

-- those behind the first that was asked to end the run
abbrev pub behind : {D : Type 0} → List (ServedDesk D) → List (ServedDesk D)
behind [] = []
behind (s ∷ ss) = if asks s then ss else behind ss

-- ---- what is handed back

-- These desks left the front. At each place stands one that a front of the kind gives there, its session between it and the desk that is handed
-- back, and the session's number.
pub record AreServed {D P W B : Type 0} (m : Meanings P W B) (parts : D → P) (root : List ℕ) (gives : ℕ → D → Type 0) (before : ℕ) (left : List D)
    (served : List (ServedDesk D)) : Type 0 where
  pub count : length left ≡ length served
  pub numbered : AreNumbered served
  pub kinds : (k : ℕ) (desk : D) → k < length left → gives (before + (k + 1)) (slice_index_or left k desk)
  pub sessions : (k : ℕ) (desk : D) (s : ServedDesk D) → k < length left →
      IsSession m root (parts (slice_index_or left k desk)) (parts (slice_index_or served k s).desk) (slice_index_or served k s).transcript

-- Each session goes on with the journal and the place where the one that published before it left them.
abbrev pub Chained : {D : Type 0} → (D → D → List Entry → List Entry → ℕ → ℕ → ℕ → Transcript → Type 0) → List D → List Entry → List Entry → ℕ → ℕ → List (ServedDesk D) → Type 0
Chained S left old new before now [] = (new ≡ old) × (now ≡ before)
Chained S left old new before now (s ∷ ss) =
    (mid : List Entry) × (between : ℕ) × S (desk_of left s) s.desk old mid before between (number_of s) s.transcript × Chained S left mid new between now ss

-- The sessions in the order in which they published, as each tells. In that order the journal is their entries, and fewer than so many published
-- behind the first that was asked to end the run.
pub record HavePublished {D P W B : Type 0} (m : Meanings P W B) (parts : D → P) (root : List ℕ) (limit most : ℕ) (journal : List Entry) (faults : ℕ)
    (left : List D) (served : List (ServedDesk D)) : Type 0 where
  pub published : List (ServedDesk D)
  pub all_are : IsPermutation published served
  pub in_order : AreInOrder published
  pub chained : Chained (Serves m parts root limit) left [] journal 0 faults published
  pub legal : IsLegal 1 journal (transcripts_of published)
  pub late : is_asked published ≡ true → length (behind published) < most

-- each quiet session is done
abbrev pub AreDone : {D P W B : Type 0} → Meanings P W B → (D → P) → List ℕ → List D → List (ServedDesk D) → Type 0
AreDone {D} m parts root left served =
    (k : ℕ) (desk : D) (s : ServedDesk D) → k < length left → (bytes : List ℕ) (asked : Request) →
    IsQuiet m root (parts (slice_index_or left k desk)) (parts (slice_index_or served k s).desk) bytes asked →
    IsDoneOr asked (slice_index_or served k s).transcript.ending (slice_index_or served k s).transcript.reply

-- The desks that left the front, in its order, and what was done of each. Each quiet session is done where the journal took all entries and the
-- place never failed.
pub record HaveRun {D P W B : Type 0} (m : Meanings P W B) (parts : D → P) (root : List ℕ) (limit : ℕ) (gives : ℕ → D → Type 0)
    (old new : Option (List D)) (before most : ℕ) (journal : List Entry) (faults : ℕ) (served : List (ServedDesk D)) : Type 0 where
  pub left : List D
  pub given : GivesAll old new left
  pub each : AreServed m parts root gives before left served
  pub order : HavePublished m parts root limit most journal faults left served
  pub done : length journal < limit → faults ≡ 0 → AreDone m parts root left served
