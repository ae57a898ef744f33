-- Sessions in the order of their numbers.
use Rattle.std.proofs.Common.{◌≡◌, ◌<◌, ◌≤◌, ℕ, zero, suc, ◌+◌, ◌-◌, List, [], ◌∷◌, ap, arith, get_or, inl, inr, length, refl, take}
use Rattle.std.specs.Prelude.{All}
use Rattle.std.specs.List.{sum_by}
use Rattle.std.specs.declared.sync.ledger.Blank.{Blank}
use Rattle.std.proofs.lemmas.Bool.{cases_lt}
use Rattle.std.proofs.lemmas.List.Elements.{All-get_or}
use Rattle.std.proofs.lemmas.List.Sums.{sum_by-cons}
use Rattle.std.proofs.lemmas.Option.{slice_get_within}
use Rattle.rx_daemon.specs.declared.served.ServedDesk.{ServedDesk}
use Rattle.rx_daemon.specs.Rights.{IsRight}
use Rattle.rx_daemon.specs.Threads.{AreNumbered, number_of}
use Rattle.rx_daemon.specs.Threads.{Rises}

pub rises-more : {D : Type 0} (i : ℕ) (xs : List (ServedDesk D)) → Rises i xs → 0 < i
    → ((d : ServedDesk D) → number_of (get_or xs (i - 1) d) < number_of (get_or xs i d)) → Rises (i + 1) xs
rises-more i xs h some next j k d le lt =
    elim (cases_lt k i) [
      | inl inside ↦ h j k d le inside
      | inr past ↦
          let at : k ≡ i = omega (arith, past, lt) in
          elim (cases_lt j i) [
            | inl before ↦
                let below = h j (i - 1) d (omega (arith, before)) (omega (arith, some)) in
                let last = next d in
                let same = ap (λ m. number_of (get_or xs m d)) at in
                omega (arith, below, last, same, at, before)
            | inr here ↦
                let both : j ≡ k = omega (arith, here, le, at) in
                let same = ap (λ m. number_of (get_or xs m d)) both in
                omega (arith, same, both)
          ]
    ]

-- the least number is 1
least : {D : Type 0} (rights : List Blank) (xs : List (ServedDesk D)) → All (λ s. IsRight rights (number_of s) s.right) xs → (d : ServedDesk D) → 0 < length xs
    → 1 ≤ number_of (get_or xs 0 d)
least rights xs all d some =
    let right = All-get_or (λ s. IsRight rights (number_of s) s.right) xs 0 d some all in
    let lt = slice_get_within rights right.place _ right.right_is in
    omega (arith, right.number_is, lt)

-- where the last number is at most as many as there are, each is at its place
pub numbered : {D : Type 0} (rights : List Blank) (xs : List (ServedDesk D)) → All (λ s. IsRight rights (number_of s) s.right) xs → Rises (length xs) xs
    → ((d : ServedDesk D) → number_of (get_or xs (length xs - 1) d) ≤ length xs) → AreNumbered xs
numbered rights xs all up last k d lt =
    let first = least rights xs all d (omega (arith, lt)) in
    let low = up 0 k d (omega arith) lt in
    let high = up k (length xs - 1) d (omega (arith, lt)) (omega (arith, lt)) in
    let end = last d in
    omega (arith, first, low, high, end, lt)

-- the sum so far
pub sum-more : {X : Type 0} (f : X → ℕ) (xs : List X) (i : ℕ) (d : X) → i < length xs → sum_by f (take (i + 1) xs) ≡ sum_by f (take i xs) + f (get_or xs i d)
sum-more f [] i d lt = absurd (omega arith)
sum-more f (x ∷ xs) zero d lt = omega arith
sum-more f (x ∷ xs) (suc i) d lt =
    let next : suc i + 1 ≡ suc (i + 1) = omega arith in
    let first = ap (λ m. sum_by f (take m (x ∷ xs))) next in
    let long : sum_by f (take (suc (i + 1)) (x ∷ xs)) ≡ f x + sum_by f (take (i + 1) xs) = sum_by-cons f x (take (i + 1) xs) in
    let short : sum_by f (take (suc i) (x ∷ xs)) ≡ f x + sum_by f (take i xs) = sum_by-cons f x (take i xs) in
    let last : f (get_or (x ∷ xs) (suc i) d) ≡ f (get_or xs i d) = refl in
    omega (arith, first, long, short, last, sum-more f xs i d (omega (arith, lt)))
