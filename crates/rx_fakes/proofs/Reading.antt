-- A read from bytes in memory.
use Rattle.std.proofs.Common.{◌≡◌, ℕ, ◌+◌, ◌<◌, ◌≤◌, List, [], ◌++◌, ◌∙◌, arith, drop, drop_of_length-le, length, length-drop, max, min, refl, sym, take}
use Rattle.std.proofs.lemmas.List.{drop-drop, drop-take, take-append-drop, take-take}

-- what is left goes on after the bytes that were copied
pub left_after : (bytes new : List ℕ) (at count : ℕ) → take count new ≡ take count (drop at bytes) → drop at bytes ≡ take count new ++ drop (at + count) bytes
left_after bytes new at count copied = rw (copied, ← drop-drop count at bytes) (sym (take-append-drop count (drop at bytes)))

-- no byte is copied into some room only at the end
pub left_ends : (bytes old : List ℕ) (at most count : ℕ) → at ≤ length bytes → count ≡ min (min (length (drop at bytes)) (length old)) (max most 1) → count ≡ 0 → 0 < length old → drop (at + count) bytes ≡ []
left_ends bytes old at most count within counted none room = drop_of_length-le bytes (omega (arith, within, counted, none, room, length-drop at bytes))

-- what was received goes on by the bytes that were copied
pub taken_after : (bytes new : List ℕ) (at count : ℕ) → take count new ≡ take count (drop at bytes) → take (at + count) bytes ≡ take at bytes ++ take count new
taken_after bytes new at count copied =
    let front : take at (take (at + count) bytes) ≡ take at bytes = take-take at (at + count) bytes (omega arith) in
    sym (take-append-drop at (take (at + count) bytes)) ∙ rw (front, drop-take at count bytes, copied) refl
