-- Versions read of their text.
use Rattle.std.proofs.Common.{◌≡◌, ℕ, ℤ, pos, negsuc, suc, ◌+◌, ◌-◌, ◌*◌, ◌<◌, ◌≤◌, Bool, true, false, List, [], ◌∷◌, ◌++◌, Option, None, Some, Result, Ok, Err, refl, ap, ◌∙◌, arith, append_assoc}
use Rattle.std.specs.Prelude.{FitsSigned, nat_lt, unwrap_or}
use Rattle.std.specs.Int.{w32}
use Rattle.std.specs.Char.{digit_value}
use Rattle.std.specs.Fmt.{decimal, signed_decimal}
use Rattle.std.specs.Str.Parse.{AllDigits, IsNumeral, digits_value, digits_value_after}
use Rattle.std.proofs.lemmas.Bool.{le-leb, le-ltb, lt-ltb}
use Rattle.std.proofs.lemmas.Fmt.{decimal_is_IsNumeral}
use Rattle.std.proofs.lemmas.List.{append-nil}
use Rattle.std.proofs.lemmas.Str.Parse.{digit_from_value}
use Rattle.rx_base.specs.Results.{◌>>=◌}
use Rattle.rx_base.proofs.ByteLists.{bytes_eq-itself}
use Rattle.rx_world.specs.declared.versions.SemVer.{SemVer}
use Rattle.rx_session.specs.declared.reply_fault.ReplyFault.{ReplyFault}
use Rattle.rx_session.specs.declared.version_numbers.NumberSoFar.{NumberSoFar}
use Rattle.rx_session.specs.declared.version_numbers.NumberStep.{NumberStep}
use Rattle.rx_session.specs.declared.version_numbers.NumberStep.TheVariants.{Ended}
use Rattle.rx_session.specs.Typed.{AreInt32}
use Rattle.rx_session.specs.Versions.{after, before, dotted, ended, is_digit, most, no_number, numbers_from, signed_of, so_far, step_of, version_text, versions_of, versions_text}

is_digit_true : (c : ℕ) → 48 ≤ c → c ≤ 57 → is_digit c ≡ true
is_digit_true c low high = rw (le-leb 48 c low, le-leb c 57 high) refl

digit_is : (c : ℕ) → 48 ≤ c → c ≤ 57 → digit_value c ≡ c - 48
digit_is c low high =
    let above : nat_lt c 48 ≡ false = le-ltb c 48 low in
    let below : nat_lt c 58 ≡ true = lt-ltb c 58 (omega arith) in
    rw (above, below) refl

value_grows : (n : ℕ) (ds : List ℕ) → n ≤ digits_value_after 10 n ds
value_grows n [] = omega arith
value_grows n (d ∷ ds) = omega (arith, value_grows (n * 10 + digit_value d) ds)

digit_at : (negative : Bool) (value : Option ℕ) (v d x : ℕ) (text : List ℕ) → unwrap_or value 0 ≡ v → 48 ≤ d → d ≤ 57 → x ≡ d - 48 → v * 10 + x ≤ most
    → numbers_from (so_far negative value) (d ∷ text) ≡ numbers_from (so_far negative (Some (v * 10 + x))) text
unfolding numbers_from step_of ended
digit_at negative value v d x text e low high is le =
    let fits : nat_lt most (v * 10 + (d - 48)) ≡ false = le-ltb most (v * 10 + (d - 48)) (omega (arith, is)) in
    rw (is_digit_true d low high, e, is, fits) refl

one_digit : (negative : Bool) (value : Option ℕ) (v d : ℕ) (text : List ℕ) → unwrap_or value 0 ≡ v → digit_value d < 10 → v * 10 + digit_value d ≤ most
    → numbers_from (so_far negative value) (d ∷ text) ≡ numbers_from (so_far negative (Some (v * 10 + digit_value d))) text
one_digit negative value v d text e small le =
    let range = digit_from_value d small in
    let low : 48 ≤ d = omega (arith, range) in
    let high : d ≤ 57 = omega (arith, range) in
    digit_at negative value v d (digit_value d) text e low high (digit_is d low high) le

more_digits : (negative : Bool) (v : ℕ) (ds rest : List ℕ) → AllDigits 10 ds → digits_value_after 10 v ds ≤ most
    → numbers_from (so_far negative (Some v)) (ds ++ rest) ≡ numbers_from (so_far negative (Some (digits_value_after 10 v ds))) rest
more_digits negative v [] rest all le = refl
more_digits negative v (d ∷ ds) rest all le =
    let small : v * 10 + digit_value d ≤ most = omega (arith, value_grows (v * 10 + digit_value d) ds) in
    one_digit negative (Some v) v d (ds ++ rest) refl all.0 small ∙ more_digits negative (v * 10 + digit_value d) ds rest all.1 le

numeral_read : (negative : Bool) (ds rest : List ℕ) → IsNumeral 10 ds → digits_value 10 ds ≤ most
    → numbers_from (so_far negative None) (ds ++ rest) ≡ numbers_from (so_far negative (Some (digits_value 10 ds))) rest
numeral_read negative [] rest numeral le = absurd (omega (arith, numeral.0))
numeral_read negative (d ∷ ds) rest numeral le =
    let small : 0 * 10 + digit_value d ≤ most = omega (arith, value_grows (0 * 10 + digit_value d) ds) in
    one_digit negative None 0 d (ds ++ rest) refl numeral.1.0 small ∙ more_digits negative (0 * 10 + digit_value d) ds rest numeral.1.1 le

decimal_read : (negative : Bool) (n : ℕ) (rest : List ℕ) → n ≤ most → numbers_from (so_far negative None) (decimal n ++ rest) ≡ numbers_from (so_far negative (Some n)) rest
decimal_read negative n rest le =
    let numeral = decimal_is_IsNumeral n (omega arith) in
    rw numeral.1 at (numeral_read negative (decimal n) rest numeral.0 (omega (arith, numeral.1)))

-- ---- a signed number before a dot, a dash or the end

not_negative : (n : ℕ) → n < most → signed_of false (Some n) ≡ Ok (pos n)
unfolding signed_of
not_negative n lt = rw (lt-ltb n most lt) refl

signed_read : (number : ℤ) (rest : List ℕ) (given : Result (List ℤ) ReplyFault) → FitsSigned w32 number
    → ((negative : Bool) (n : ℕ) → numbers_from (so_far negative (Some n)) rest ≡ (signed_of negative (Some n) >>= (λ last. before last given)))
    → numbers_from (so_far false None) (signed_decimal number ++ rest) ≡ before number given
unfolding numbers_from step_of signed_of
signed_read (pos n) rest given fits ends =
    let small : n < most = omega (arith, fits.sfits) in
    decimal_read false n rest (omega arith) ∙ ends false n ∙ rw (not_negative n small) refl
signed_read (negsuc n) rest given fits ends =
    let small : suc n ≤ most = omega (arith, fits.sfits) in
    decimal_read true (suc n) rest small ∙ ends true (suc n)

abbrev ended_at : ℤ → Result NumberStep ReplyFault
ended_at n = Ok (Ended n)

ended_then : (number : Result ℤ ReplyFault) (others : NumberSoFar → Result (List ℤ) ReplyFault)
    → (number >>= (λ n. ended_at n)) >>= (λ step. after others step) ≡ (number >>= (λ last. before last (others no_number)))
ended_then (Ok n) others = refl
ended_then (Err fault) others = refl

at_dot : (text : List ℕ) (negative : Bool) (n : ℕ) → numbers_from (so_far negative (Some n)) (46 ∷ text) ≡ (signed_of negative (Some n) >>= (λ last. before last (numbers_from no_number text)))
unfolding numbers_from step_of ended
at_dot text negative n = ended_then (signed_of negative (Some n)) (λ so. numbers_from so text)

at_dash : (text : List ℕ) (negative : Bool) (n : ℕ) → numbers_from (so_far negative (Some n)) (45 ∷ text) ≡ (signed_of negative (Some n) >>= (λ last. before last (numbers_from no_number text)))
unfolding numbers_from step_of ended
at_dash text negative n = ended_then (signed_of negative (Some n)) (λ so. numbers_from so text)

at_end : (negative : Bool) (n : ℕ) → numbers_from (so_far negative (Some n)) [] ≡ (signed_of negative (Some n) >>= (λ last. before last (Ok [])))
unfolding numbers_from
at_end negative n = refl

before_dot : (number : ℤ) (text : List ℕ) → FitsSigned w32 number → numbers_from (so_far false None) (signed_decimal number ++ 46 ∷ text) ≡ before number (numbers_from (so_far false None) text)
before_dot number text fits = signed_read number (46 ∷ text) (numbers_from (so_far false None) text) fits (at_dot text)

before_dash : (number : ℤ) (text : List ℕ) → FitsSigned w32 number → numbers_from (so_far false None) (signed_decimal number ++ 45 ∷ text) ≡ before number (numbers_from (so_far false None) text)
before_dash number text fits = signed_read number (45 ∷ text) (numbers_from (so_far false None) text) fits (at_dash text)

at_last : (number : ℤ) → FitsSigned w32 number → numbers_from (so_far false None) (signed_decimal number) ≡ before number (Ok [])
at_last number fits = rw (append-nil (signed_decimal number)) at (signed_read number [] (Ok []) fits at_end)

-- ---- two versions

regrouped : (low high : SemVer) → versions_text low high
    ≡ signed_decimal low.major ++ 46 ∷ (signed_decimal low.minor ++ 46 ∷ (signed_decimal low.patch ++ 45 ∷ (signed_decimal high.major ++ 46 ∷ (signed_decimal high.minor ++ 46 ∷ signed_decimal high.patch))))
unfolding version_text dotted
regrouped low high = simp append_assoc refl

pub versions_again : (low high : SemVer) → AreInt32 low → AreInt32 high → versions_of (versions_text low high) ≡ Ok (low, high)
unfolding versions_of
versions_again low high l h =
    let numbers : numbers_from (so_far false None) (versions_text low high) ≡ Ok (low.major ∷ low.minor ∷ low.patch ∷ high.major ∷ high.minor ∷ high.patch ∷ []) =
    ap (numbers_from (so_far false None)) (regrouped low high)
    ∙ (rw (before_dot low.major _ l.0, before_dot low.minor _ l.1, before_dash low.patch _ l.2, before_dot high.major _ h.0, before_dot high.minor _ h.1, at_last high.patch h.2) refl) in
    rw (numbers, bytes_eq-itself (versions_text low high)) refl
