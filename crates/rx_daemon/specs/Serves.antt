-- The sessions of a run.
use Rattle.std.specs.Prelude.{◌≡◌, ◌<◌, ◌≤◌, ℕ, List, [], ◌∷◌, Option, length}
use Rattle.rx_board.specs.declared.journal.Entry.{Entry}
use Rattle.rx_engine.specs.declared.transcripts.Transcript.{Transcript}
use Rattle.rx_engine.specs.Answers.{asked_of}
use Rattle.rx_engine.specs.Honest.{IsCleanIfDone, IsHonest}
use Rattle.rx_engine.specs.Journal.{IsJournalled}
use Rattle.rx_engine.specs.Meanings.{Meanings}
use Rattle.rx_engine.specs.Quiet.{IsDoneOr, IsQuiet}
use Rattle.rx_engine.specs.Session.{IsSession}
use Rattle.rx_session.specs.declared.requests.Request.{Request}
use Rattle.rx_world.specs.declared.sources.SourceEntry.{SourceEntry}
use Rattle.rx_daemon.specs.Proxy.{Runs}

-- One session of a run: its own part, its number and its part of the journal; and in an honest world a Done is a clean run.
pub record Serves {D P W B : Type 0} (m : Meanings P W B) (parts : D → P) (root : List ℕ) (limit : ℕ) (desk back : D)
    (old new : List Entry) (before now number : ℕ) (t : Transcript) : Type 0 where
  pub own : IsSession m root (parts desk) (parts back) t
  pub number_is : t.number ≡ number
  pub journal : IsJournalled limit old new before now t
  pub later : before ≤ now
  pub clean : (bytes : List ℕ) (asked : Request) (entries : List SourceEntry) →
      IsHonest m root (parts desk) bytes asked entries →
      IsCleanIfDone m.world.tool entries (asked_of asked) old new t

-- each of these sessions that was quiet is done
abbrev pub EachDone : {D : Type 0} → (D → D → List ℕ → Request → Type 0) → List D → List D → List Transcript → Type 0
EachDone Quiet [] [] [] = Unit {0}
EachDone Quiet (desk ∷ desks) (back ∷ backs) (t ∷ ts) =
    ((bytes : List ℕ) (asked : Request) → Quiet desk back bytes asked → IsDoneOr asked t.ending t.reply) × EachDone Quiet desks backs ts
EachDone Quiet desks backs ts = ⊥

-- A run, and that each quiet session of it is done where the journal took all entries and the place never failed.
pub record RunsDone {D P W B : Type 0} (coming_old coming_new : Option (List D)) (m : Meanings P W B) (parts : D → P) (root : List ℕ)
    (limit : ℕ) (journal : List Entry) (faults : ℕ) (handed : List D) (transcripts : List Transcript) : Type 0 where
  pub runs : Runs coming_old coming_new (Serves m parts root limit) [] journal 0 faults handed transcripts
  pub done : length journal < limit → faults ≡ 0 →
      EachDone (λ desk back bytes asked. IsQuiet m root (parts desk) (parts back) bytes asked) runs.left handed transcripts
