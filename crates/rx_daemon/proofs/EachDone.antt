-- Each quiet session of a run is done.
use Rattle.std.proofs.Common.{◌≡◌, ◌≢◌, ℕ, ◌+◌, ◌<◌, ◌≤◌, List, [], ◌∷◌, arith, length}
use Rattle.std.specs.Prelude.{Option}
use Rattle.std.specs.List.{AllByRecursion}
use Rattle.rx_board.specs.declared.journal.Entry.{Entry}
use Rattle.rx_engine.specs.declared.transcripts.Transcript.{Transcript}
use Rattle.rx_engine.specs.Journal.{IsJournalled, files_of}
use Rattle.rx_engine.specs.Meanings.{Meanings}
use Rattle.rx_engine.specs.Quiet.{IsDoneOr, IsQuiet}
use Rattle.rx_engine.specs.Session.{IsSession}
use Rattle.rx_engine.proofs.Quiet.{complete}
use Rattle.rx_session.specs.declared.requests.Request.{Request}
use Rattle.rx_world.specs.Causes.{Rose}
use Rattle.rx_daemon.specs.declared.served.ServedDesk.{ServedDesk}
use Rattle.rx_daemon.specs.Kept.{Linked}
use Rattle.rx_daemon.specs.Proxy.{Runs, Served}
use Rattle.rx_daemon.specs.Serves.{EachDone, RunsDone, Serves}
use Rattle.rx_daemon.specs.Threads.{Chained, desk_of}
use Rattle.rx_daemon.proofs.LinkLemmas.{grows, linked, linked-in-threads, longer-at}

rose-zero : (before now : ℕ) → Rose before now → now ≡ 0 → ⊥
rose-zero before now h e = grind (arith, h, e)

module _ {P W B : Type 0} (m : Meanings P W B) (root : List ℕ) (limit : ℕ) where
  -- one session, where those after it leave room in the journal, and the place never failed
  once : (was back : P) (old mid new : List Entry) (before between now : ℕ) (t : Transcript) (ts : List Transcript) → IsSession m root was back t
      → IsJournalled limit old mid before between t → Linked m root limit mid new between now ts → length new < limit → now ≡ 0
      → (bytes : List ℕ) (asked : Request) → IsQuiet m root was back bytes asked → IsDoneOr asked t.ending t.reply
  once was back old mid new before between now t ts own journal rest room quiet bytes asked q =
      let later = grows m root limit mid new between now ts rest in
      let first = longer-at old mid before between t.number t.receipt (files_of t.ends) t.reply journal.entry in
      let fits : length old ≢ limit = λ e. absurd (omega (arith, e, first, later.journal, room)) in
      let never : Rose before between → ⊥ = λ rose. rose-zero before between rose (omega (arith, later.place, quiet)) in
      complete m root was back limit old mid before between t bytes asked own journal q (record { room = fits; place = never })

module _ {D P W B : Type 0} (m : Meanings P W B) (parts : D → P) (root : List ℕ) (limit : ℕ) where
  each-done : (n : ℕ) (old new : List Entry) (before now : ℕ) (ds es : List D) (ts : List Transcript)
      → Served (Serves m parts root limit) n old new before now ds es ts → length new < limit → now ≡ 0
      → EachDone (λ desk back bytes asked. IsQuiet m root (parts desk) (parts back) bytes asked) ds es ts
  each-done n old new before now [] [] [] h room quiet = tt
  each-done n old new before now (d ∷ ds) (e ∷ es) (t ∷ ts) h room quiet = (
    once m root limit (parts d) (parts e) old h.0 new before h.1 now t ts h.2.own h.2.journal (linked m parts root limit (n + 1) h.0 new h.1 now ds es ts h.3) room quiet,
    each-done (n + 1) h.0 new h.1 now ds es ts h.3 room quiet,
  )
  each-done n old new before now [] (y ∷ es) ts h room quiet = absurd h
  each-done n old new before now [] [] (z ∷ ts) h room quiet = absurd h
  each-done n old new before now (x ∷ ds) [] ts h room quiet = absurd h
  each-done n old new before now (x ∷ ds) (y ∷ es) [] h room quiet = absurd h

  pub runs-done : (a b : Option (List D)) (new : List Entry) (now : ℕ) (es : List D) (ts : List Transcript)
      → Runs a b (Serves m parts root limit) [] new 0 now es ts → RunsDone a b m parts root limit new now es ts
  runs-done a b new now es ts h = record {
    runs = h;
    done = λ room quiet. each-done 1 [] new 0 now h.left es ts h.served room quiet;
  }

  -- ---- in threads

  -- where the session between these desks was quiet it is done
  abbrev pub IsDone : List D → ServedDesk D → Type 0
  IsDone left s =
      (bytes : List ℕ) (asked : Request) → IsQuiet m root (parts (desk_of left s)) (parts s.desk) bytes asked
      → IsDoneOr asked s.transcript.ending s.transcript.reply

  pub each-done-in-threads : (left : List D) (old new : List Entry) (before now : ℕ) (ss : List (ServedDesk D))
      → Chained (Serves m parts root limit) left old new before now ss → length new < limit → now ≡ 0 → AllByRecursion (IsDone left) ss
  each-done-in-threads left old new before now [] h room quiet = tt
  each-done-in-threads left old new before now (s ∷ ss) h room quiet = (
    once m root limit (parts (desk_of left s)) (parts s.desk) old h.0 new before h.1 now s.transcript _ h.2.own h.2.journal (linked-in-threads m parts root limit left h.0 new h.1 now ss h.3) room quiet,
    each-done-in-threads left h.0 new h.1 now ss h.3 room quiet,
  )
