-- Sessions one after the other: what they leave only grows.
use Rattle.std.proofs.Common.{◌≡◌, ℕ, ◌+◌, ◌≤◌, List, [], ◌∷◌, ap, arith, length, length-append}
use Rattle.std.specs.Prelude.{MatchOption, None, Option, Some}
use Rattle.rx_board.specs.declared.journal.Entry.{Entry}
use Rattle.rx_board.specs.declared.journal.Receipt.{Receipt}
use Rattle.rx_engine.specs.declared.transcripts.Transcript.{Transcript}
use Rattle.rx_engine.specs.Journal.{IsEntry, files_of}
use Rattle.rx_engine.specs.Meanings.{Meanings}
use Rattle.rx_session.specs.declared.replies.Reply.{Reply}
use Rattle.rx_world.specs.declared.outcomes.Listed.{Listed}
use Rattle.rx_daemon.specs.declared.served.ServedDesk.{ServedDesk}
use Rattle.rx_daemon.specs.Kept.{IsLink, Linked}
use Rattle.rx_daemon.specs.Proxy.{Served}
use Rattle.rx_daemon.specs.Serves.{Serves}
use Rattle.rx_daemon.specs.Threads.{Chained, desk_of, number_of, transcripts_of}

-- a session drops no entry
pub longer-at : (old new : List Entry) (before now session : ℕ) (receipt : Option Receipt) (files : List Listed) (answer : Option Reply)
    → MatchOption receipt (new ≡ old) (λ number. IsEntry old new before now session number files answer) → length old ≤ length new
longer-at old new before now session None files answer h = omega (arith, ap length h)
longer-at old new before now session (Some receipt) files answer h =
    omega (arith, ap length h.journal, length-append old (record { number = receipt.number; session = session; files = files; placed = h.placed } ∷ []))

-- the journal and the count of the place only grow
pub record AreLater (old new : List Entry) (before now : ℕ) : Type 0 where
  pub journal : length old ≤ length new
  pub place : before ≤ now

pub grows : {P W B : Type 0} (m : Meanings P W B) (root : List ℕ) (limit : ℕ) (old new : List Entry) (before now : ℕ) (ts : List Transcript)
    → Linked m root limit old new before now ts → AreLater old new before now
grows m root limit old new before now [] h = record { journal = omega (arith, ap length h.0); place = omega (arith, h.1) }
grows m root limit old new before now (t ∷ ts) h =
    let rest = grows m root limit h.0 new h.1 now ts h.3 in
    let first = longer-at old h.0 before h.1 t.number t.receipt (files_of t.ends) t.reply h.2.journal.entry in
    record { journal = omega (arith, first, rest.journal); place = omega (arith, h.2.later, rest.place) }

module _ {D P W B : Type 0} (m : Meanings P W B) (parts : D → P) (root : List ℕ) (limit : ℕ) where
  link : (desk back : D) (old new : List Entry) (before now number : ℕ) (t : Transcript)
      → Serves m parts root limit desk back old new before now number t → IsLink m root limit old new before now t
  link desk back old new before now number t h =
      record { parts_old = parts desk; parts_new = parts back; own = h.own; journal = h.journal; later = h.later }

  -- those that were served in turn
  pub linked : (n : ℕ) (old new : List Entry) (before now : ℕ) (ds es : List D) (ts : List Transcript)
      → Served (Serves m parts root limit) n old new before now ds es ts → Linked m root limit old new before now ts
  linked n old new before now [] [] [] h = h
  linked n old new before now (d ∷ ds) (e ∷ es) (t ∷ ts) h =
      (h.0, h.1, link d e old h.0 before h.1 n t h.2, linked (n + 1) h.0 new h.1 now ds es ts h.3)
  linked n old new before now [] (y ∷ es) ts h = absurd h
  linked n old new before now [] [] (z ∷ ts) h = absurd h
  linked n old new before now (x ∷ ds) [] ts h = absurd h
  linked n old new before now (x ∷ ds) (y ∷ es) [] h = absurd h

  -- those that were served in threads
  pub linked-in-threads : (left : List D) (old new : List Entry) (before now : ℕ) (ss : List (ServedDesk D))
      → Chained (Serves m parts root limit) left old new before now ss → Linked m root limit old new before now (transcripts_of ss)
  linked-in-threads left old new before now [] h = h
  linked-in-threads left old new before now (s ∷ ss) h =
      (h.0, h.1, link (desk_of left s) s.desk old h.0 before h.1 (number_of s) s.transcript h.2, linked-in-threads left h.0 new h.1 now ss h.3)
