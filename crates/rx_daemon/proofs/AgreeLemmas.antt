-- A journal is that of its sessions.
use Rattle.std.proofs.Common.{◌≡◌, ◌<◌, ◌≤◌, ◌∙◌, ℕ, ◌+◌, ◌-◌, List, [], ◌∷◌, ◌++◌, ap, arith, get_or, length, length-append, refl, subst, sym, take}
use Rattle.std.specs.Prelude.{All, MatchOption, None, Option, Some, option_map, slice_get}
use Rattle.std.specs.List.{AllByRecursion, sum_by}
use Rattle.std.specs.List.Sorted.{IsPermutation}
use Rattle.std.proofs.lemmas.List.{take_all}
use Rattle.std.proofs.lemmas.List.Elements.{recursion_from_All}
use Rattle.std.proofs.lemmas.List.Sorted.{All-permutation, IsPermutation-map, IsPermutation-sym, sum_by-IsPermutation}
use Rattle.std.proofs.lemmas.List.Sums.{sum_by-cons}
use Rattle.std.proofs.lemmas.Option.{slice_get-map}
use Rattle.rx_board.specs.declared.journal.Entry.{Entry}
use Rattle.rx_board.specs.declared.journal.Receipt.{Receipt}
use Rattle.rx_engine.specs.declared.transcripts.Transcript.{Transcript}
use Rattle.rx_engine.specs.Journal.{IsEntry, IsPlaced, files_of}
use Rattle.rx_engine.specs.Meanings.{Meanings}
use Rattle.rx_session.specs.declared.replies.Reply.{Reply}
use Rattle.rx_session.specs.declared.replies.Reply.TheVariants as reply
use Rattle.rx_daemon.specs.declared.served.ServedDesk.{ServedDesk}
use Rattle.rx_daemon.specs.Agreeing.{Agrees, IsToldIn, placed_in, receipts_of}
use Rattle.rx_daemon.specs.Kept.{Linked}
use Rattle.rx_daemon.specs.Threads.{AreNumbered, number_of, transcripts_of}
use Rattle.rx_daemon.proofs.KeptLemmas.{places-more}
use Rattle.rx_daemon.proofs.ServeLemmas.{placed}

-- what was placed is what the reply tells
placed-told : (before now count n : ℕ) (answer : Option Reply) → IsPlaced before now count n answer → placed_in answer ≡ Some n
placed-told before now count n None h = absurd h
placed-told before now count n (Some (reply.Done exit stdout stderr from number all)) h = ap Some h.0
placed-told before now count n (Some (reply.PlaceFault number short)) h = ap Some h.0
placed-told before now count n (Some (reply.BadRequest bad)) h = absurd h
placed-told before now count n (Some (reply.NotRemotable cause)) h = absurd h
placed-told before now count n (Some (reply.InputMissing path)) h = absurd h
placed-told before now count n (Some (reply.InputChanged input)) h = absurd h
placed-told before now count n (Some (reply.SourceFault path)) h = absurd h
placed-told before now count n (Some (reply.TooLarge limit size path)) h = absurd h
placed-told before now count n (Some (reply.AllFailed failures)) h = absurd h
placed-told before now count n (Some (reply.Cancelled reason)) h = absurd h
placed-told before now count n (Some reply.JournalFull) h = absurd h
placed-told before now count n (Some reply.NoMemory) h = absurd h
placed-told before now count n (Some (reply.Blocked path)) h = absurd h
placed-told before now count n (Some (reply.InPlace cause)) h = absurd h

-- the entries so far
record AreTold (ts : List Transcript) (journal : List Entry) : Type 0 where
  numbers : (k : ℕ) (e : Entry) → k < length journal → (get_or journal k e).number ≡ k + 1
  told : (k : ℕ) (e : Entry) → k < length journal → IsToldIn ts (get_or journal k e)

step : (ts : List Transcript) (old mid : List Entry) (before between : ℕ) (t : Transcript) (receipt : Option Receipt) → t.receipt ≡ receipt
    → MatchOption receipt (mid ≡ old) (λ number. IsEntry old mid before between t.number number (files_of t.ends) t.reply)
    → slice_get ts (t.number - 1) ≡ Some t → AreTold ts old → AreTold ts mid × (receipts_of t + length old ≡ length mid)
step ts old mid before between t None is h at told = (subst (AreTold ts) (sym h) told, rw (is, h) (omega arith))
step ts old mid before between t (Some receipt) is h at told =
    let entry : Entry = record { number = receipt.number; session = t.number; files = files_of t.ends; placed = h.placed } in
    let is_told : IsToldIn ts entry = record {
      by = t;
      at = at;
      tells = record {
        session = refl;
        receipt = is;
        files = refl;
        placed = placed-told before between _ h.placed t.reply h.placed_is;
      };
    } in (
      subst (AreTold ts) (sym h.journal) (record {
        numbers = places-more (λ k (e : Entry). e.number ≡ k + 1) old entry told.numbers h.number_is;
        told = places-more (λ k (e : Entry). IsToldIn ts e) old entry told.told is_told;
      }),
      rw (is, h.journal) (omega (arith, length-append old (entry ∷ []))),
    )

record HaveTold (ts after : List Transcript) (old new : List Entry) : Type 0 where
  all : AreTold ts new
  count : sum_by receipts_of after + length old ≡ length new

tell : {P W B : Type 0} (m : Meanings P W B) (root : List ℕ) (limit : ℕ) (ts : List Transcript) (old new : List Entry) (before now : ℕ)
    (after : List Transcript) → Linked m root limit old new before now after
    → AllByRecursion (λ (t : Transcript). slice_get ts (t.number - 1) ≡ Some t) after → AreTold ts old → HaveTold ts after old new
tell m root limit ts old new before now [] h at told =
    record { all = subst (AreTold ts) (sym h.0) told; count = omega (arith, ap length h.0) }
tell m root limit ts old new before now (t ∷ after) h at told =
    let one = step ts old h.0 before h.1 t t.receipt refl h.2.journal.entry at.0 told in
    let rest = tell m root limit ts h.0 new h.1 now after h.3 at.1 one.0 in
    let sum : sum_by receipts_of (t ∷ after) ≡ receipts_of t + sum_by receipts_of after = sum_by-cons receipts_of t after in
    record { all = rest.all; count = omega (arith, rest.count, one.1, sum) }

at-all : {D : Type 0} (served ss : List (ServedDesk D)) → AllByRecursion (λ s. slice_get served (number_of s - 1) ≡ Some s) ss
    → AllByRecursion (λ (t : Transcript). slice_get (transcripts_of served) (t.number - 1) ≡ Some t) (transcripts_of ss)
at-all served [] h = tt
at-all {D = D} served (s ∷ ss) h = (
  slice_get-map (λ (x : ServedDesk D). x.transcript) served (number_of s - 1) ∙ ap (option_map (λ (x : ServedDesk D). x.transcript)) h.0,
  at-all served ss h.1,
)

-- the sum over all of them
pub sum-told : {D : Type 0} (i : ℕ) (served : List (ServedDesk D)) → length served ≤ i
    → sum_by (λ (s : ServedDesk D). receipts_of s.transcript) (take i served) ≡ sum_by receipts_of (transcripts_of served)
sum-told {D = D} i served end = ap (sum_by receipts_at) (take_all i served end) ∙ by-one served where
  receipts_at : ServedDesk D → ℕ
  receipts_at s = receipts_of s.transcript

  by-one : (ss : List (ServedDesk D)) → sum_by receipts_at ss ≡ sum_by receipts_of (transcripts_of ss)
  by-one [] = refl
  by-one (s ∷ ss) =
      let one : sum_by receipts_at (s ∷ ss) ≡ receipts_at s + sum_by receipts_at ss = sum_by-cons receipts_at s ss in
      let other : sum_by receipts_of (transcripts_of (s ∷ ss)) ≡ receipts_of s.transcript + sum_by receipts_of (transcripts_of ss) =
      sum_by-cons receipts_of s.transcript (transcripts_of ss) in
      omega (arith, one, other, by-one ss)

-- what is handed back agrees
pub agrees-always : {D P W B : Type 0} (m : Meanings P W B) (root : List ℕ) (limit : ℕ) (published served : List (ServedDesk D)) (journal : List Entry)
    (faults : ℕ) → IsPermutation published served → AreNumbered served → Linked m root limit [] journal 0 faults (transcripts_of published)
    → Agrees journal (transcripts_of served)
agrees-always {D = D} m root limit published served journal faults same numbered h =
    let at = All-permutation (λ s. slice_get served (number_of s - 1) ≡ Some s) served published (IsPermutation-sym published served same) (placed served numbered) in
    let all = at-all served published (recursion_from_All (λ s. slice_get served (number_of s - 1) ≡ Some s) published at) in
    let told = tell m root limit (transcripts_of served) [] journal 0 faults (transcripts_of published) h all
    (record { numbers = λ k e lt. absurd (omega (arith, lt)); told = λ k e lt. absurd (omega (arith, lt)) }) in
    let sum = sum_by-IsPermutation receipts_of (transcripts_of published) (transcripts_of served)
    (IsPermutation-map (λ (s : ServedDesk D). s.transcript) published served same) in
    record { count = omega (arith, sum, told.count); numbers = told.all.numbers; told = told.all.told }
