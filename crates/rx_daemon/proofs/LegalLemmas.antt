-- The journal of a run is its sessions' entries.
use Rattle.std.proofs.Common.{◌≡◌, ℕ, ◌+◌, List, [], ◌∷◌, ◌++◌, refl, ap, sym, ◌∙◌, append_assoc, append-nil, length, length-append, arith, subst}
use Rattle.std.specs.Prelude.{MatchOption, None, Option, Some}
use Rattle.rx_board.specs.declared.journal.Entry.{Entry}
use Rattle.rx_board.specs.declared.journal.Receipt.{Receipt}
use Rattle.rx_engine.specs.declared.transcripts.Transcript.{Transcript}
use Rattle.rx_engine.specs.Journal.{IsEntry, IsJournalled, files_of}
use Rattle.rx_engine.specs.Meanings.{Meanings}
use Rattle.rx_world.specs.declared.outcomes.Listed.{Listed}
use Rattle.rx_session.specs.declared.replies.Reply.{Reply}
use Rattle.rx_daemon.specs.Kept.{Linked}
use Rattle.rx_daemon.specs.Proxy.{IsEntryOf, IsLegal, Runs}
use Rattle.rx_daemon.specs.Serves.{Serves}
use Rattle.rx_daemon.proofs.LinkLemmas.{linked}

-- what a session added
record Adds (old new : List Entry) (t : Transcript) : Type 0 where
  added : List Entry
  journal : new ≡ old ++ added
  entry : IsEntryOf (length old + 1) t added

adds-at : (old new : List Entry) (before now session : ℕ) (t : Transcript) (receipt : Option Receipt) (files : List Listed) (answer : Option Reply) → t.receipt ≡ receipt → session ≡ t.number → MatchOption receipt (new ≡ old) (λ number. IsEntry old new before now session number files answer) → Adds old new t
adds-at old new before now session t None files answer e s h = record { added = []; journal = h ∙ sym (append-nil old); entry = rw e refl }
adds-at old new before now session t (Some receipt) files answer e s h = record {
  added = record { number = receipt.number; session = session; files = _; placed = h.placed } ∷ [];
  journal = h.journal;
  entry = rw e (_, refl, refl, h.number_is, s);
}

adds : (limit : ℕ) (old new : List Entry) (before now : ℕ) (t : Transcript) → IsJournalled limit old new before now t → Adds old new t
adds limit old new before now t h = adds-at old new before now t.number t t.receipt (files_of t.ends) t.reply refl refl h.entry

-- what the sessions from here on added is legal
pub legal : {P W B : Type 0} (m : Meanings P W B) (root : List ℕ) (limit : ℕ) (old new : List Entry) (before now : ℕ) (ts : List Transcript)
    → Linked m root limit old new before now ts → (journal : List Entry) × (new ≡ old ++ journal) × IsLegal (length old + 1) journal ts
legal m root limit old new before now [] h = ([], h.0 ∙ sym (append-nil old), refl)
legal m root limit old new before now (t ∷ ts) h =
    let a = adds limit old h.0 before h.1 t h.2.journal in
    let more = legal m root limit h.0 new h.1 now ts h.3 in
    let q : length h.0 + 1 ≡ length old + 1 + length a.added = omega (arith, ap length a.journal, length-append old a.added) in (
      a.added ++ more.0,
      more.1 ∙ ap (λ s. s ++ more.0) a.journal ∙ append_assoc old a.added more.0,
      (a.added, more.0, refl, a.entry, subst (λ n. IsLegal n more.0 ts) q more.2),
    )

pub run_legal : {P W B : Type 0} (m : Meanings P W B) (root : List ℕ) (limit : ℕ) (new : List Entry) (now : ℕ) (ts : List Transcript)
    → Linked m root limit [] new 0 now ts → IsLegal 1 new ts
run_legal m root limit new now ts h =
    let found = legal m root limit [] new 0 now ts h in
    rw found.1 found.2

-- of sessions in turn
pub legal-in-turn : {D P W B : Type 0} (a b : Option (List D)) (m : Meanings P W B) (parts : D → P) (root : List ℕ) (limit : ℕ) (new : List Entry) (now : ℕ)
    (es : List D) (ts : List Transcript) → Runs a b (Serves m parts root limit) [] new 0 now es ts → IsLegal 1 new ts
legal-in-turn a b m parts root limit new now es ts h =
    run_legal m root limit new now ts (linked m parts root limit 1 [] new 0 now h.left es ts h.served)
