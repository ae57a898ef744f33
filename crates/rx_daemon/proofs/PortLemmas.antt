-- Texts of decimal digits that no port is read from.
use Rattle.std.proofs.Common.{◌≡◌, ◌<◌, ◌≤◌, ℕ, ◌^◌, List, [], ◌∷◌, Bool, true, false, arith, refl, ◌==◌}
use Rattle.std.specs.Char.{digit_value, is_ascii_digit}
use Rattle.std.specs.Cmp.{first_so, second_so}
use Rattle.std.specs.Int.{is_in_range}
use Rattle.std.specs.List.{list_all}
use Rattle.std.specs.Str.Parse.{AllDigits, IsNumeral, digits_value, without_leading_plus}
use Rattle.std.proofs.lemmas.Bool.{false_from_ne_true, eqb-true, leb-true}
use Rattle.std.proofs.lemmas.Str.{digit_value_digit}

-- a digit's code
at_least : (c : ℕ) → is_ascii_digit c ≡ true → 48 ≤ c
at_least c e = leb-true 48 c (first_so _ _ e)

at_most : (c : ℕ) → is_ascii_digit c ≡ true → c ≤ 57
at_most c e = leb-true c 57 (second_so _ _ e)

-- and its value
value_below : (c : ℕ) → is_ascii_digit c ≡ true → digit_value c < 10
value_below c e = omega (arith, at_least c e, at_most c e, digit_value_digit c (at_least c e, at_most c e))

all_digits : (text : List ℕ) → list_all is_ascii_digit text ≡ true → AllDigits 10 text
all_digits [] e = tt
all_digits (c ∷ cs) e = (value_below c (first_so _ _ e), all_digits cs (second_so _ _ e))

no_plus_at : (c : ℕ) (cs : List ℕ) (is_plus : Bool) → (c == 43) ≡ is_plus → 48 ≤ c → without_leading_plus (c ∷ cs) ≡ c ∷ cs
no_plus_at c cs true is e = absurd (omega (arith, eqb-true c 43 is, e))
no_plus_at c cs false is e = rw is refl

no_plus : (text : List ℕ) → list_all is_ascii_digit text ≡ true → without_leading_plus text ≡ text
no_plus [] e = refl
no_plus (c ∷ cs) e = no_plus_at c cs (c == 43) refl (at_least c (first_so _ _ e))

in_range_most : (most n : ℕ) → is_in_range 1 most n ≡ true → n ≤ most
in_range_most most n e = leb-true n most (second_so _ _ e)

-- what isn't a numeral of 16 bits is no number up to a smaller one
pub no_number : (most : ℕ) → most < 2 ^ 16 → (text : List ℕ) → list_all is_ascii_digit text ≡ true
    → (IsNumeral 10 (without_leading_plus text) × (digits_value 10 (without_leading_plus text) < 2 ^ 16) → ⊥)
    → is_in_range 1 most (digits_value 10 text) ≡ false
no_number most small [] e refused = refl
no_number most small (c ∷ cs) e refused = false_from_ne_true _ (λ fits.
    (rw (no_plus (c ∷ cs) e) at refused)
    ((omega arith, all_digits (c ∷ cs) e), omega (arith, small, in_range_most most (digits_value 10 (c ∷ cs)) fits)))

-- nor is it a port
pub no_port : (text : List ℕ) → list_all is_ascii_digit text ≡ true
    → (IsNumeral 10 (without_leading_plus text) × (digits_value 10 (without_leading_plus text) < 2 ^ 16) → ⊥)
    → is_in_range 1 65535 (digits_value 10 text) ≡ false
no_port = no_number 65535 (omega arith)
