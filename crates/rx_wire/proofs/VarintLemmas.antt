-- Reading a number, byte by byte, as the loop does.
use Rattle.std.proofs.Common.{◌≡◌, ℕ, zero, suc, ◌+◌, ◌-◌, ◌*◌, ◌/◌, ◌%◌, ◌^◌, ◌<◌, ◌≤◌, true, false, List, [], ◌∷◌, ◌++◌, length, get_or, drop, Result, Ok, Err, nat_lt, nat_le, refl, sym, ap, ◌∙◌, arith, add-zero, lit<, subst, append_assoc}
use Rattle.std.proofs.lemmas.List.{drop_more, drop_all, take_all, take-append-le, length-take}
use Rattle.std.proofs.lemmas.Bool.{lt-ltb, le-ltb, le-leb, lt-leb}
use Rattle.std.proofs.Math.Nat.{pow-le-pow_right, pow-suc}
use Rattle.rx_wire.specs.declared.faults.WireFault.{WireFault}
use Rattle.rx_wire.specs.declared.faults.WireFault.TheVariants.{Truncated, VarintTooLong}
use Rattle.rx_base.specs.Results.{◌>>=◌}
use Rattle.rx_wire.specs.Varints.{varint_in, varint_at, groups, shortest}
use Rattle.rx_wire.specs.Out.{IsFront}

-- what stands before the rest of a number: its value, the rest's weight, and how many bytes
abbrev pub with_low : ℕ → ℕ → ℕ → Result (ℕ × ℕ) WireFault → Result (ℕ × ℕ) WireFault
with_low value weight n read = read >>= λ v. Ok (value + weight * v.0, n + v.1)

-- i bytes of the number at an offset are read, and the rest completes it
pub record IsReading (bytes : List ℕ) (at i value weight : ℕ) : Type 0 where
  pub so_far : with_low value weight i (varint_in at (9 - i) (drop (at + i) bytes)) ≡ varint_in at 9 (drop at bytes)
  pub worth : weight ≡ 128 ^ i
  pub below : value < weight
  pub within : at + i ≤ length bytes

with_nothing : (read : Result (ℕ × ℕ) WireFault) → with_low 0 1 0 read ≡ read
with_nothing (Ok v) =
    let a : 0 + 1 * v.0 ≡ v.0 = omega arith in
    let b : 0 + v.1 ≡ v.1 = omega arith in
    rw (a, b) refl
with_nothing (Err e) = refl

pub starts : (bytes : List ℕ) (at : ℕ) → at ≤ length bytes → IsReading bytes at 0 0 1
starts bytes at le = record { so_far = rw add-zero (with_nothing (varint_in at 9 (drop at bytes))); worth = refl; below = lit< tt; within = omega arith }

with_more : (value weight n c : ℕ) (read : Result (ℕ × ℕ) WireFault) → with_low value weight n (read >>= λ high. Ok (c + 128 * high.0, high.1 + 1)) ≡ with_low (value + c * weight) (weight * 128) (n + 1) read
with_more value weight n c (Err e) = refl
with_more value weight n c (Ok v) =
    let a : value + weight * (c + 128 * v.0) ≡ value + c * weight + weight * 128 * v.0 = omega arith in
    let b : n + (v.1 + 1) ≡ n + 1 + v.1 = omega arith in
    rw (a, b) refl

-- ---- one more byte

weight_small : (i weight : ℕ) → weight ≡ 128 ^ i → i ≤ 9 → weight ≤ 2 ^ 63
weight_small i weight e le = rw e (pow-le-pow_right (lit< tt) le)

low_small : (value weight c : ℕ) → value < weight → c < 128 → value + c * weight < weight * 128
low_small value weight c below lt =
    let p : c * weight ≤ 127 * weight = grind arith in
    omega arith

pub low_fits : (bytes : List ℕ) (at i value weight c : ℕ) → IsReading bytes at i value weight → i < 9 → c < 128 → value + c * weight < 2 ^ 63
low_fits bytes at i value weight c r lt small =
    let p = low_small value weight c r.below small in
    let w : weight * 128 ≡ 128 ^ suc i = rw r.worth (sym (pow-suc 128 i)) in
    let le : suc i ≤ 9 = omega arith in
    let q : 128 ^ suc i ≤ 128 ^ 9 = pow-le-pow_right (lit< tt) le in
    omega arith

-- the byte is not the last
pub goes_on : (bytes : List ℕ) (at i value weight b : ℕ) → IsReading bytes at i value weight → i < 9 → at + i < length bytes → b ≡ get_or bytes (at + i) 0 → 128 ≤ b → b < 256
    → IsReading bytes at (i + 1) (value + b % 128 * weight) (weight * 128)
unfolding varint_in
goes_on bytes at i value weight b r lt inside is high byte =
    let k : 9 - i ≡ suc (9 - (i + 1)) = omega arith in
    let low : b - 128 ≡ b % 128 = omega arith in
    let place : at + (i + 1) ≡ at + i + 1 = omega arith in
    let up : i + 1 ≡ suc i = omega arith in
    let test : nat_lt b 128 ≡ false = le-ltb _ _ high in
    let one : with_low value weight i (varint_in at (9 - i) (drop (at + i) bytes)) ≡ with_low (value + (b - 128) * weight) (weight * 128) (i + 1) (varint_in at (9 - (i + 1)) (drop (at + i + 1) bytes)) =
    rw (k, drop_more bytes (at + i) 0 inside, ← is, test) (with_more value weight i (b - 128) (varint_in at (9 - (i + 1)) (drop (at + i + 1) bytes))) in
    record {
      so_far = rw (place, ← low) (sym one ∙ r.so_far);
      worth = rw (r.worth, up, pow-suc) refl;
      below = low_small value weight (b % 128) r.below (omega arith);
      within = omega arith;
    }

-- the byte is the last
pub ends : (bytes : List ℕ) (at i value weight b : ℕ) → IsReading bytes at i value weight → i < 9 → at + i < length bytes → b ≡ get_or bytes (at + i) 0 → b < 128
    → varint_at bytes at ≡ Ok (value + b % 128 * weight, at + i + 1)
unfolding varint_in varint_at
ends bytes at i value weight b r lt inside is low =
    let k : 9 - i ≡ suc (9 - (i + 1)) = omega arith in
    let test : nat_lt b 128 ≡ true = lt-ltb _ _ low in
    let whole : b % 128 ≡ b = omega arith in
    let one : with_low value weight i (varint_in at (9 - i) (drop (at + i) bytes)) ≡ Ok (value + weight * b, i + 1) =
    rw (k, drop_more bytes (at + i) 0 inside, ← is, test) refl in
    let product : value + weight * b ≡ value + b * weight = omega arith in
    let sum : at + (i + 1) ≡ at + i + 1 = omega arith in
    rw (sym r.so_far ∙ one, product, whole, sum) refl

-- there is no byte
pub is_cut : (bytes : List ℕ) (at i value weight : ℕ) → IsReading bytes at i value weight → length bytes ≤ at + i → varint_at bytes at ≡ Err (Truncated at)
unfolding varint_in varint_at
is_cut bytes at i value weight r le =
    let one : with_low value weight i (varint_in at (9 - i) (drop (at + i) bytes)) ≡ Err (Truncated at) = rw (drop_all (at + i) bytes le) refl in
    rw (sym r.so_far ∙ one) refl

-- the tenth byte
pub tenth : (bytes : List ℕ) (at value weight b : ℕ) → IsReading bytes at 9 value weight → at + 9 < length bytes → b ≡ get_or bytes (at + 9) 0 → b ≤ 1
    → varint_at bytes at ≡ Ok (value + b * weight, at + 10)
unfolding varint_in varint_at
tenth bytes at value weight b r inside is low =
    let test : nat_le b 1 ≡ true = le-leb _ _ low in
    let one : with_low value weight 9 (varint_in at 0 (drop (at + 9) bytes)) ≡ Ok (value + weight * b, 10) = rw (drop_more bytes (at + 9) 0 inside, ← is, test) refl in
    let product : value + weight * b ≡ value + b * weight = omega arith in
    rw (sym r.so_far ∙ one, product) refl

pub too_long : (bytes : List ℕ) (at value weight b : ℕ) → IsReading bytes at 9 value weight → at + 9 < length bytes → b ≡ get_or bytes (at + 9) 0 → 1 < b
    → varint_at bytes at ≡ Err (VarintTooLong at)
unfolding varint_in varint_at
too_long bytes at value weight b r inside is high =
    let test : nat_le b 1 ≡ false = lt-leb _ _ high in
    let one : with_low value weight 9 (varint_in at 0 (drop (at + 9) bytes)) ≡ Err (VarintTooLong at) = rw (drop_more bytes (at + 9) 0 inside, ← is, test) refl in
    rw (sym r.so_far ∙ one) refl

pub at_nine : (bytes : List ℕ) (at i value weight : ℕ) → IsReading bytes at i value weight → 9 ≤ i → i ≤ 9 → IsReading bytes at 9 value weight
at_nine bytes at i value weight r low high =
    let e : i ≡ 9 = omega arith in
    subst (λ (k : ℕ). IsReading bytes at k value weight) e r

pub last_fits : (bytes : List ℕ) (at value weight b : ℕ) → IsReading bytes at 9 value weight → b ≤ 1 → value + b * weight < 2 ^ 64
last_fits bytes at value weight b r le =
    let w : weight ≡ 2 ^ 63 = r.worth in
    let below = r.below in
    let p : b * weight ≤ 1 * weight = grind arith in
    omega arith

-- ---- writing

-- what is still to write completes the number
pub record IsWriting (old : List ℕ) (value : ℕ) (now : List ℕ) (rest begun len : ℕ) : Type 0 where
  pub left : ℕ
  pub small : rest < 128 ^ suc left
  pub so_far : now ++ groups left rest ≡ old ++ shortest value
  pub front : IsFront old now
  pub long : len + suc left ≡ begun + 10

IsFront-refl : (xs : List ℕ) → IsFront xs xs
IsFront-refl xs = record { same = take_all (length xs) xs (omega arith) }

pub IsFront-push : (old now : List ℕ) (b : ℕ) → IsFront old now → IsFront old (now ++ b ∷ [])
IsFront-push old now b f =
    let le : length old ≤ length now = omega (arith, length-take (length old) now, ap length f.same) in
    record { same = take-append-le (length old) now (b ∷ []) le ∙ f.same }

pub writes_first : (old : List ℕ) (value len : ℕ) → value < 2 ^ 64 → IsWriting old value old value len len
unfolding shortest
writes_first old value len lt = record { left = 9; small = omega arith; so_far = refl; front = IsFront-refl old; long = omega arith }

more_at : (old : List ℕ) (value : ℕ) (now : List ℕ) (rest left begun len next : ℕ) → 128 ≤ rest → rest < 128 ^ suc left → now ++ groups left rest ≡ old ++ shortest value → IsFront old now → len + suc left ≡ begun + 10 → next ≡ len + 1
    → IsWriting old value (now ++ (rest % 128 + 128) ∷ []) (rest / 128) begun next
unfolding groups
more_at old value now rest zero begun len next high small so_far front long e = absurd (omega arith)
more_at old value now rest (suc k) begun len next high small so_far front long e =
    let power = pow-suc 128 (suc k) in
    let test : nat_lt rest 128 ≡ false = le-ltb _ _ high in
    record {
      left = k;
      small = omega arith;
      so_far = rw append_assoc (rw test at so_far);
      front = IsFront-push old now (rest % 128 + 128) front;
      long = omega arith;
    }

pub writes_more : (old : List ℕ) (value : ℕ) (now : List ℕ) (rest begun len next : ℕ) → 128 ≤ rest → IsWriting old value now rest begun len → next ≡ len + 1 → IsWriting old value (now ++ (rest % 128 + 128) ∷ []) (rest / 128) begun next
writes_more old value now rest begun len next high w e = more_at old value now rest w.left begun len next high w.small w.so_far w.front w.long e

last_at : (old : List ℕ) (value : ℕ) (now : List ℕ) (rest left : ℕ) → rest < 128 → now ++ groups left rest ≡ old ++ shortest value → now ++ rest ∷ [] ≡ old ++ shortest value
unfolding groups
last_at old value now rest zero low so_far = so_far
last_at old value now rest (suc k) low so_far =
    let test : nat_lt rest 128 ≡ true = lt-ltb _ _ low in
    rw test at so_far

pub writes_last : (old : List ℕ) (value : ℕ) (now : List ℕ) (rest begun len : ℕ) → rest < 128 → IsWriting old value now rest begun len → now ++ rest ∷ [] ≡ old ++ shortest value
writes_last old value now rest begun len low w = last_at old value now rest w.left low w.so_far
