-- No two sessions have one number, in whatever order: what the steps of a core need of sessions that published one after the other.
use Rattle.std.proofs.Common.{◌≡◌, ◌<◌, ℕ, suc, ◌+◌, ◌==◌, Bool, false, true, List, [], ◌∷◌, arith, get_or, length}
use Rattle.std.specs.Prelude.{◌≢◌}
use Rattle.std.specs.List.{AllByRecursion, IsDistinct}
use Rattle.std.specs.List.Sorted.{IsPermutation}
use Rattle.std.proofs.lemmas.Bool.Decides.{nat_tests}
use Rattle.std.proofs.lemmas.List.Elements.{All-from_recursion, recursion_from_All}
use Rattle.std.proofs.lemmas.List.Sorted.{All-permutation, IsPermutation-map, IsPermutation-sym}
use Rattle.std.proofs.lemmas.Map.Keys.{IsDistinct-IsPermutation}
use Rattle.rx_board.specs.declared.journal.Entry.{Entry}
use Rattle.rx_core.specs.Remote.{Rules}
use Rattle.rx_core.specs.States.{State}
use Rattle.rx_engine.specs.declared.transcripts.Transcript.{Transcript}
use Rattle.rx_remote.specs.Marks.{Turn}
use Rattle.rx_world.specs.declared.outcomes.FileOut.{FileOut}
use Rattle.rx_daemon.specs.declared.served.ServedDesk.{ServedDesk}
use Rattle.rx_daemon.specs.CoreRuns.{AreInState, IsCoreRun, IsInState}
use Rattle.rx_daemon.specs.Threads.{AreNumbered, number_of, transcripts_of}
use Rattle.rx_daemon.proofs.CoreRuns.{AreApart}

abbrev same-number : {D : Type 0} → ServedDesk D → ServedDesk D → Bool
same-number x y = number_of x == number_of y

flips : {D : Type 0} (x y : ServedDesk D) → same-number x y ≡ same-number y x
flips x y = grind (arith, nat_tests)

-- numbered from n on
From : {D : Type 0} → ℕ → List (ServedDesk D) → Type 0
From {D} n xs = (k : ℕ) (d : ServedDesk D) → k < length xs → number_of (get_or xs k d) ≡ n + k

apart-from : {D : Type 0} (n : ℕ) (xs : List (ServedDesk D)) → From n xs → IsDistinct same-number xs
unfolding IsDistinct From
apart-from n [] h = tt
apart-from n (x ∷ xs) h =
    let first : number_of x ≡ n + 0 = h 0 x (omega arith) in (
      recursion_from_All (λ y. same-number x y ≡ false) xs (λ k d lt.
          let later : number_of (get_or xs k d) ≡ n + suc k = h (suc k) d (omega (arith, lt)) in
          let other : number_of x ≢ number_of (get_or xs k d) = λ e. absurd (omega (arith, e, first, later)) in
          grind (arith, nat_tests, other)),
      apart-from (n + 1) xs (λ k d lt. let later : number_of (get_or xs k d) ≡ n + suc k = h (suc k) d (omega (arith, lt)) in omega (arith, later)),
    )

apart : {D : Type 0} (published served : List (ServedDesk D)) → IsPermutation published served → AreNumbered served → IsDistinct same-number published
unfolding From
apart published served same numbered =
    IsDistinct-IsPermutation same-number flips served published (IsPermutation-sym published served same) (apart-from 1 served (λ k d lt. omega (arith, numbered k d lt)))

other-numbers : {D : Type 0} (s : ServedDesk D) (ss : List (ServedDesk D)) → AllByRecursion (λ x. same-number s x ≡ false) ss
    → AllByRecursion (λ (t : Transcript). t.number ≡ number_of s → ⊥) (transcripts_of ss)
other-numbers s [] h = tt
other-numbers s (x ∷ ss) h =
    (λ e. absurd (let is : same-number s x ≡ true = grind (arith, nat_tests, e) in let not = h.0 in cc), other-numbers s ss h.1)

told-apart : {D : Type 0} (ss : List (ServedDesk D)) → IsDistinct same-number ss → AreApart (transcripts_of ss)
unfolding IsDistinct
told-apart [] h = tt
told-apart (s ∷ ss) h = (other-numbers s ss h.0, told-apart ss h.1)

pub apart-in-threads : {D : Type 0} (published served : List (ServedDesk D)) → IsPermutation published served → AreNumbered served
    → AreApart (transcripts_of published)
apart-in-threads published served same numbered = told-apart published (apart published served same numbered)

-- what holds in a state of those that published holds of them in their order
pub in-state-sorted : {D H : Type 0} (state : State H) (published served : List (ServedDesk D)) → IsPermutation published served
    → AreInState state (transcripts_of published) → AreInState state (transcripts_of served)
in-state-sorted {D = D} state published served same h =
    let sorted = IsPermutation-map (λ (s : ServedDesk D). s.transcript) published served same in
    recursion_from_All (IsInState state) (transcripts_of served)
    (All-permutation (IsInState state) (transcripts_of published) (transcripts_of served) sorted (All-from_recursion (IsInState state) (transcripts_of published) h))

pub core-sorted : {D : Type 0} (rules : Rules Turn) (files : List FileOut) (limit : ℕ) (journal : List Entry) (published served : List (ServedDesk D))
    → IsPermutation published served → IsCoreRun rules files limit journal (transcripts_of published)
    → IsCoreRun rules files limit journal (transcripts_of served)
core-sorted rules files limit journal published served same h = record {
  state = h.state;
  reached = h.reached;
  limit_is = h.limit_is;
  journal_is = h.journal_is;
  each = in-state-sorted h.state published served same h.each;
}
