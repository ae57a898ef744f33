-- The value of digits, one after the other.
use Rattle.std.proofs.Common.{◌≡◌, ◌<◌, ◌≤◌, ℕ, ◌+◌, ◌-◌, ◌*◌, suc, List, [], ◌∷◌, true, Some, None, arith, refl, sym, drop, get_or, nat_le, nat_lt, length, if◌then◌else◌}
use Rattle.std.specs.Char.{digit_value, is_ascii_digit}
use Rattle.std.specs.Cmp.{first_so, second_so}
use Rattle.std.specs.List.{list_all}
use Rattle.std.proofs.Math.Seq.{drop-cons}
use Rattle.std.specs.Str.Parse.{digits_value, digits_value_after}
use Rattle.rx_wrap.specs.Numbers.{number_in, seconds_in}
use Rattle.std.proofs.lemmas.Bool.{leb-true, lt-ltb}
use Rattle.std.proofs.lemmas.Str.{digit_value_digit}

-- a digit's code and its value
pub record IsDigit (c : ℕ) : Type 0 where
  pub low : 48 ≤ c
  pub high : c ≤ 57
  pub value : digit_value c ≡ c - 48

pub digit_is : (c : ℕ) → is_ascii_digit c ≡ true → IsDigit c
digit_is c e =
    let low : 48 ≤ c = leb-true 48 c (first_so (nat_le 48 c) (nat_le c 57) e) in
    let high : c ≤ 57 = leb-true c 57 (second_so (nat_le 48 c) (nat_le c 57) e) in
    record { low = low; high = high; value = omega (arith, low, high, digit_value_digit c (low, high)) }

-- more digits make no number less
pub digits_grow : (digits : List ℕ) (n : ℕ) → n ≤ digits_value_after 10 n digits
digits_grow [] n = omega arith
digits_grow (c ∷ digits) n = omega (arith, digits_grow digits (n * 10 + digit_value c))

-- a number past the most stays past it
pub past_most : (most value : ℕ) (digits rest : List ℕ) → most < value → digits_value_after 10 value rest ≡ digits_value 10 digits → (if nat_lt most (digits_value 10 digits) then None else Some (digits_value 10 digits)) ≡ None
past_most most value digits rest past is =
    let more : most < digits_value 10 digits = omega (arith, past, digits_grow rest value, is) in
    rw (lt-ltb most (digits_value 10 digits) more) refl

-- the same after one more digit
pub past_at : (most value i digit : ℕ) (digits : List ℕ) → i < length digits → list_all is_ascii_digit (drop i digits) ≡ true → digit ≡ get_or digits i 0 - 48 → most < value * 10 + digit → digits_value_after 10 value (drop i digits) ≡ digits_value 10 digits → None ≡ (if nat_lt most (digits_value 10 digits) then None else Some (digits_value 10 digits))
past_at most value i digit digits lt all is past e =
    let split : drop i digits ≡ get_or digits i 0 ∷ drop (suc i) digits = drop-cons digits i 0 lt in
    let more = rw split at e in
    let test = rw split at all in
    let one = digit_is (get_or digits i 0) (first_so (is_ascii_digit (get_or digits i 0)) (list_all is_ascii_digit (drop (suc i) digits)) test) in
    let past' : most < value * 10 + digit_value (get_or digits i 0) = omega (arith, past, is, one.value, one.low) in
    sym (past_most most (value * 10 + digit_value (get_or digits i 0)) digits (drop (suc i) digits) past' more)

-- no digits are no time
pub no_seconds : (text : List ℕ) → length text ≡ 0 → seconds_in text ≡ None
unfolding seconds_in number_in
no_seconds [] e = refl
no_seconds (c ∷ text) e = absurd (omega (arith, e))
