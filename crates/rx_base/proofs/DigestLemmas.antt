-- Lower-case digits are written again as they were read.
use Rattle.std.proofs.Common.{◌≡◌, ℕ, zero, suc, ◌+◌, ◌*◌, ◌/◌, ◌%◌, ◌<◌, ◌==◌, Bool, true, ◌&&◌, ◌||◌, inl, inr, List, [], ◌∷◌, length, get_or, slice_index, Option, Some, None, unwrap_or, Result, Ok, Err, refl, sym, ap, ◌∙◌, arith}
use Rattle.std.proofs.lemmas.Bool.{and_parts, cases_lt, eqb-true}
use Rattle.std.proofs.lemmas.Bool.Decides.{nat_tests}
use Rattle.std.proofs.lemmas.List.Elements.{All-head, All-tail}
use Rattle.std.specs.Prelude.{not, MatchResult, IsErrAnd, IfOk, IsOk, is_ok, ◌↔◌}
use Rattle.std.proofs.lemmas.Result.{err_from_is_err_and}
use Rattle.hex.proofs.HexLemmas.{IsOk-decode_sized, decode_of-even, decode_sized-ok, decode_sized-twice}
use Rattle.std.specs.List.{AllPass}
use Rattle.std.specs.Result.{result_unwrap_or}
use Rattle.hex.specs.Hex.{decode_pairs, digit_or_error, decode_sized, hex_digit_value, is_hex_digit, encode_lower, encode_with, lower_digits, pair_value, value_at, ◌>>=◌}
use Rattle.hex.specs.declared.error.FromHexError.{FromHexError}
use Rattle.rx_base.specs.HashText.{is_lower_digit}

-- ---- one digit, by trying each

abbrev writes_back : ℕ → Bool
writes_back c = not (is_lower_digit c) || (slice_index lower_digits (unwrap_or (hex_digit_value c) 99) == c)

abbrev all_write_back : ℕ → Bool
all_write_back zero = true
all_write_back (suc n) = writes_back n && all_write_back n

all_write_back-at : (n k : ℕ) → all_write_back n ≡ true → k < n → writes_back k ≡ true
all_write_back-at zero k h lt = absurd (omega arith)
all_write_back-at (suc n) k h lt =
    let parts = and_parts (writes_back n) (all_write_back n) h in
    elim (cases_lt k n) [
      | inl below ↦ all_write_back-at n k parts.1 below
      | inr top ↦
          let e : k ≡ n = omega arith in
          rw e parts.0
    ]

is_lower_digit-small : (c : ℕ) → is_lower_digit c ≡ true → c < 103
is_lower_digit-small c h = grind (arith, nat_tests)

digit_back : (c v : ℕ) → is_lower_digit c ≡ true → hex_digit_value c ≡ Some v → slice_index lower_digits v ≡ c
digit_back c v lower read =
    let t : writes_back c ≡ true = all_write_back-at 103 c refl (is_lower_digit-small c lower) in
    eqb-true (slice_index lower_digits v) c (rw (lower, read) at t)

hex_digit_value-small : (c v : ℕ) → hex_digit_value c ≡ Some v → v < 16
hex_digit_value-small c v h = grind (arith)

-- ---- what `?` shows

bind_ok : {A B : Type 0} (r : Result A FromHexError) (f : A → Result B FromHexError) (y : B) → (r >>= f) ≡ Ok y → (x : A) × (r ≡ Ok x) × (f x ≡ Ok y)
bind_ok (Ok x) f y h = (x, refl, h)
bind_ok (Err e) f y h = cc h

digit_read : (c i : ℕ) (o : Option ℕ) (v : ℕ) → digit_or_error c i o ≡ Ok v → o ≡ Some v
digit_read c i (Some w) v h = ap Some (ap (λ (r : Result ℕ FromHexError). result_unwrap_or r 0) h)
digit_read c i None v h = cc h

abbrev passes : ℕ → Type 0
passes c = is_lower_digit c ≡ true

-- ---- all digits

pub encode_lower-decode_pairs : (i : ℕ) (s bytes : List ℕ) → AllPass is_lower_digit s → decode_pairs i s ≡ Ok bytes → encode_lower bytes ≡ s
unfolding decode_pairs encode_with
encode_lower-decode_pairs i [] bytes low h =
    let e : [] ≡ bytes = ap (λ (r : Result (List ℕ) FromHexError). result_unwrap_or r []) h in
    rw (← e) refl
encode_lower-decode_pairs i (a ∷ []) bytes low h = cc h
encode_lower-decode_pairs i (a ∷ b ∷ rest) bytes low h =
    let tail = All-tail passes a (b ∷ rest) low in
    let p0 = bind_ok (pair_value a b i) _ bytes h in
    let p1 = bind_ok (value_at a i) _ p0.0 p0.1 in
    let p2 = bind_ok (value_at b (i + 1)) _ p0.0 p1.2 in
    let p3 = bind_ok (decode_pairs (i + 2) rest) _ bytes p0.2 in
    let ra = digit_read a i (hex_digit_value a) p1.0 p1.1 in
    let rb = digit_read b (i + 1) (hex_digit_value b) p2.0 p2.1 in
    let va = hex_digit_value-small a p1.0 ra in
    let vb = hex_digit_value-small b p2.0 rb in
    let byte : p1.0 * 16 + p2.0 ≡ p0.0 = ap (λ (r : Result ℕ FromHexError). result_unwrap_or r 0) p2.2 in
    let whole : p0.0 ∷ p3.0 ≡ bytes = ap (λ (r : Result (List ℕ) FromHexError). result_unwrap_or r []) p3.2 in
    let high : p0.0 / 16 ≡ p1.0 = omega arith in
    let lower : p0.0 % 16 ≡ p2.0 = omega arith in
    let first : slice_index lower_digits (p0.0 / 16) ≡ a = rw high (digit_back a p1.0 (All-head passes a (b ∷ rest) low) ra) in
    let second : slice_index lower_digits (p0.0 % 16) ≡ b = rw lower (digit_back b p2.0 (All-head passes b rest tail) rb) in
    rw (← whole, first, second) (ap (λ (t : List ℕ). a ∷ b ∷ t) (encode_lower-decode_pairs (i + 2) rest p3.0 (All-tail passes b rest tail) p3.1))

-- ---- a hash

is_hex_digit-lower : (c : ℕ) → is_lower_digit c ≡ true → is_hex_digit c ≡ true
is_hex_digit-lower c h = grind (arith, nat_tests)

hash_back : (s bytes : List ℕ) → AllPass is_lower_digit s → decode_sized s 32 ≡ Ok bytes → s ≡ encode_lower bytes
hash_back s bytes low h =
    let len = decode_sized-ok s 32 bytes h in
    let even : length s % 2 ≡ 0 = omega arith in
    sym (encode_lower-decode_pairs 0 s bytes low (sym (decode_of-even s even) ∙ sym (decode_sized-twice s 32 len) ∙ h))

-- what is read is written so
pub hash_is : {E : Type 0} (Q : FromHexError → E → Type 0) (s : List ℕ) (hash : Result (List ℕ) FromHexError) (r : Result (List ℕ) E) → AllPass is_lower_digit s
    → hash ≡ decode_sized s 32 → MatchResult hash (λ x. r ≡ Ok x) (λ e. IsErrAnd r (Q e)) → IfOk r (λ x. s ≡ encode_lower x)
hash_is Q s (Ok x) r low e m = rw m (hash_back s x low (sym e))
hash_is Q s (Err e) r low h m = let p = err_from_is_err_and r m in rw p.1 tt

-- which texts are read
pub is_read : {E : Type 0} (s : List ℕ) (hash : Result (List ℕ) FromHexError) (r : Result (List ℕ) E) → AllPass is_lower_digit s
    → hash ≡ decode_sized s 32 → is_ok r ≡ is_ok hash → IsOk r ↔ ((length s ≡ 64) × AllPass is_lower_digit s)
is_read s hash r low e same =
    let which = IsOk-decode_sized s 32 in (
      λ ok. ((which.0 (ap is_ok (sym e) ∙ sym same ∙ ok)).0, low),
      λ h. same ∙ ap is_ok e ∙ which.1 (h.0, λ k d lt. is_hex_digit-lower (get_or s k d) (h.1 k d lt)),
    )
