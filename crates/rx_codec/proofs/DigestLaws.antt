-- Digests, read and written.
use Rattle.std.proofs.Common.{◌≡◌, ℕ, zero, suc, ◌/◌, ◌%◌, ◌<◌, ◌≤◌, ◌^◌, ◌∷◌, inl, inr, slice_index, ◌==◌, Bool, true, false, ◌&&◌, List, [], length, Ok, Err, refl, sym, ap, ◌∙◌, nat_lt, eq-eqb, arith}
use Rattle.std.specs.List.{AllPass, list_all}
use Rattle.std.proofs.lemmas.Bool.{and_parts, cases_lt, eqb-true, lt-ltb, le-ltb}
use Rattle.std.proofs.lemmas.List.{append-nil, get_or_past}
use Rattle.rx_codec.specs.Contents.{number_in, number_put, text_in, text_put}
use Rattle.rx_codec.specs.FieldBytes.{contents, numbered}
use Rattle.rx_codec.proofs.ContentLaws.{contents-append, contents-numbered, number_again, text_again}
use Rattle.std.proofs.lemmas.List.Sums.{AllPass-from_list_all, list_all-from_AllPass}
use Rattle.hex.specs.Hex.{IsBytes, encode_lower, encode_with, decode_sized, lower_digits}
use Rattle.hex.proofs.HexLemmas.{decode_sized-encode_lower, decode_sized-ok, length-encode_with}
use Rattle.rx_base.specs.declared.digests.Digest.{Digest}
use Rattle.rx_base.specs.HashText.{is_lower_digit}
use Rattle.rx_codec.specs.Digests.{digest_fields, digest_from, digest_of_parts}
use Rattle.rx_codec.specs.declared.faults.MessageFault.TheVariants.{BadValue}

abbrev IsHashText : List ℕ → Type 0
IsHashText text = (length text ≡ 64) × AllPass is_lower_digit text

test_true : (text : List ℕ) → IsHashText text → (length text == 64 && list_all is_lower_digit text) ≡ true
test_true text h = rw (eq-eqb (length text) 64 h.0, list_all-from_AllPass is_lower_digit text h.1) refl

read_at : (text hash : List ℕ) (size : ℕ) → IsHashText text → length hash ≡ 32 → IsBytes hash → text ≡ encode_lower hash → size < 2 ^ 63
    → digest_of_parts text size ≡ Ok (record { hash = hash; size = size })
unfolding digest_of_parts
read_at text hash size h len b e lt =
    let back : decode_sized text 32 ≡ Ok hash = ap (λ (t : List ℕ). decode_sized t 32) e ∙ decode_sized-encode_lower hash 32 len b in
    let small : nat_lt size (2 ^ 63) ≡ true = lt-ltb size (2 ^ 63) lt in
    rw (test_true text h, small, back) refl

pub size_refused : (text : List ℕ) (size : ℕ) → IsHashText text → 2 ^ 63 ≤ size → digest_of_parts text size ≡ Err (BadValue 2)
unfolding digest_of_parts
size_refused text size h le =
    let large : nat_lt size (2 ^ 63) ≡ false = le-ltb size (2 ^ 63) le in
    rw (test_true text h, large) refl

pub hash_refused : (text : List ℕ) (size : ℕ) → (IsHashText text → ⊥) → digest_of_parts text size ≡ Err (BadValue 1)
unfolding digest_of_parts
hash_refused text size other =
    elim (length text == 64 && list_all is_lower_digit text) as (λ t. (length text == 64 && list_all is_lower_digit text) ≡ t → digest_of_parts text size ≡ Err (BadValue 1)) [
      | true ↦ λ e.
          let p = and_parts (length text == 64) (list_all is_lower_digit text) e in
          absurd (other (eqb-true (length text) 64 p.0, AllPass-from_list_all is_lower_digit text p.1))
      | false ↦ λ e. rw e refl
    ] refl

-- ---- digits that are written

abbrev is_digit_at : ℕ → Bool
is_digit_at k = is_lower_digit (slice_index lower_digits k)

abbrev are_digits : ℕ → Bool
are_digits zero = true
are_digits (suc n) = is_digit_at n && are_digits n

are_digits-at : (n k : ℕ) → are_digits n ≡ true → k < n → is_digit_at k ≡ true
are_digits-at zero k h lt = absurd (omega arith)
are_digits-at (suc n) k h lt =
    let parts = and_parts (is_digit_at n) (are_digits n) h in
    elim (cases_lt k n) [
      | inl below ↦ are_digits-at n k parts.1 below
      | inr top ↦
          let e : k ≡ n = omega arith in
          rw e parts.0
    ]

digits_pass : (xs : List ℕ) → IsBytes xs → list_all is_lower_digit (encode_with lower_digits xs) ≡ true
unfolding encode_with
digits_pass [] h = refl
digits_pass (b ∷ rest) h =
    let fits : b < 256 = h 0 in
    let high = are_digits-at 16 (b / 16) refl (omega arith) in
    let low = are_digits-at 16 (b % 16) refl (omega arith) in
    rw (high, low) (digits_pass rest (λ k. h (suc k)))

hash_text : (hash : List ℕ) → length hash ≡ 32 → IsBytes hash → IsHashText (encode_lower hash)
hash_text hash len h =
    (omega (arith, decode_sized-ok (encode_lower hash) 32 hash (decode_sized-encode_lower hash 32 len h)), AllPass-from_list_all is_lower_digit (encode_lower hash) (digits_pass hash h))

-- a digest is read as it was written
pub digest_again : (digest : Digest) → length digest.hash ≡ 32 → IsBytes digest.hash → digest.size < 2 ^ 63 → digest_from (digest_fields digest) ≡ Ok digest
unfolding digest_from digest_fields
digest_again digest len h lt =
    let hash : text_in (contents 1 (digest_fields digest)) ≡ encode_lower digest.hash =
    ap text_in (contents-append 1 (numbered 1 (text_put (encode_lower digest.hash))) (numbered 2 (number_put digest.size)) ∙ rw (contents-numbered 1 1 (text_put (encode_lower digest.hash)), contents-numbered 1 2 (number_put digest.size)) (append-nil (text_put (encode_lower digest.hash)))) ∙ text_again (encode_lower digest.hash) in
    let size : number_in (contents 2 (digest_fields digest)) ≡ digest.size =
    ap number_in (contents-append 2 (numbered 1 (text_put (encode_lower digest.hash))) (numbered 2 (number_put digest.size)) ∙ rw (contents-numbered 2 1 (text_put (encode_lower digest.hash)), contents-numbered 2 2 (number_put digest.size)) refl) ∙ number_again digest.size in
    rw (hash, size) (read_at (encode_lower digest.hash) digest.hash digest.size (hash_text digest.hash len h) len h refl lt)

-- ---- digits that are read

-- past the digits of the table there is none
small : (k : ℕ) → is_digit_at k ≡ true → k < 16
small k h =
    elim (cases_lt k 16) [
      | inl below ↦ below
      | inr past ↦ absurd (cc (sym h ∙ ap is_lower_digit (get_or_past lower_digits k 0 past)))
    ]

bytes_of : (xs : List ℕ) → list_all is_lower_digit (encode_with lower_digits xs) ≡ true → IsBytes xs
unfolding encode_with
bytes_of [] h i = omega arith
bytes_of (b ∷ rest) h zero =
    let p = and_parts (is_digit_at (b / 16)) (is_digit_at (b % 16) && list_all is_lower_digit (encode_with lower_digits rest)) h in
    let high = small (b / 16) p.0 in
    omega arith
bytes_of (b ∷ rest) h (suc i) =
    let p = and_parts (is_digit_at (b / 16)) (is_digit_at (b % 16) && list_all is_lower_digit (encode_with lower_digits rest)) h in
    let q = and_parts (is_digit_at (b % 16)) (list_all is_lower_digit (encode_with lower_digits rest)) p.1 in
    bytes_of rest q.1 i

-- what `read_hash` read
pub digest_read : (text hash : List ℕ) (size : ℕ) → IsHashText text → text ≡ encode_lower hash → size < 2 ^ 63 → digest_of_parts text size ≡ Ok (record { hash = hash; size = size })
digest_read text hash size h e lt =
    let len : length hash ≡ 32 = omega (arith, length-encode_with lower_digits hash, ap length e, h.0) in
    let digits : list_all is_lower_digit (encode_lower hash) ≡ true = ap (list_all is_lower_digit) (sym e) ∙ list_all-from_AllPass is_lower_digit text h.1 in
    read_at text hash size h len (bytes_of hash digits) e lt
