-- A frame that is read is sound, and is the same whatever follows it.
use Rattle.std.proofs.Common.{◌≡◌, ℕ, ◌+◌, ◌-◌, ◌≤◌, true, false, cond, not, ◌&&◌, ◌||◌, List, [], ◌∷◌, ◌++◌, length, get_or, take, drop, refl, sym, ap, subst, ◌∙◌, Ok, nat_lt, arith, length-append, length-drop, length-take}
use Rattle.std.proofs.lemmas.Bool.{ltb-true, ltb-false, lt-ltb, le-ltb, or_parts, not-false}
use Rattle.std.proofs.lemmas.List.{drop-append-le, take-append-le}
use Rattle.std.proofs.Math.ListN.{get_or-append}
use Rattle.rx_h2frame.specs.Head.{Header, header_of, is_padded, pad_length_size, priority_size, fits_kind, is_wrong_size, is_wrong_stream}
use Rattle.rx_h2frame.specs.Frame.{Whole, Complete, padding, is_wrong_padding, whole_of, payload_of, next, IsSound}
use Rattle.rx_h2frame.proofs.NextLemmas.{payload_complete, next_long, next_short, next_grown}

pub right_size : (largest : ℕ) (h : Header) → is_wrong_size largest h ≡ false → (h.size ≤ largest) × (pad_length_size h + priority_size h ≤ h.size) × (fits_kind h.kind h.flags h.size ≡ true)
right_size largest h e =
    let a = or_parts (nat_lt largest h.size || nat_lt h.size (pad_length_size h + priority_size h)) (not (fits_kind h.kind h.flags h.size)) e in
    let b = or_parts (nat_lt largest h.size) (nat_lt h.size (pad_length_size h + priority_size h)) a.0 in
    (ltb-false _ _ b.0, ltb-false _ _ b.1, not-false _ a.1)

pub unpadded_length : (h : Header) (p : List ℕ) → h.size ≤ length p → is_padded h ≡ false → priority_size h ≡ 0 → length (whole_of h p).body ≡ h.size
unpadded_length h p long bare none =
    let front : pad_length_size h + priority_size h ≡ 0 = rw bare (rw none refl) in
    let back : padding h p ≡ 0 = rw bare refl in
    omega (arith, front, back, long, length-take (h.size - (pad_length_size h + priority_size h + padding h p)) (drop (pad_length_size h + priority_size h) p), length-drop (pad_length_size h + priority_size h) p)

pub whole_sound : (largest : ℕ) (h : Header) (p : List ℕ) → is_wrong_size largest h ≡ false → is_wrong_stream h.kind h.stream ≡ false → h.size ≤ length p → IsSound largest (whole_of h p)
whole_sound largest h p e t long =
    let s = right_size largest h e in
    record {
      size = s.0;
      body = omega (arith, length-take (h.size - (pad_length_size h + priority_size h + padding h p)) (drop (pad_length_size h + priority_size h) p));
      fits = s.2;
      stream = t;
      unpadded = unpadded_length h p long;
    }

pub payload_sound : (largest : ℕ) (h : Header) (p : List ℕ) (w : Whole) → payload_of largest h p ≡ Ok (Complete w) → IsSound largest w × (w.size ≤ length p)
payload_sound largest h p w r =
    let k = payload_complete largest h p w r in
    let long : h.size ≤ length p = ltb-false _ _ k.all in
    (subst (IsSound largest) k.same (whole_sound largest h p k.size k.stream long), subst (λ (x : Whole). x.size ≤ length p) k.same long)

pub next_sound : (largest : ℕ) (a : List ℕ) (w : Whole) → next largest a ≡ Ok (Complete w) → IsSound largest w × (w.size + 9 ≤ length a)
next_sound largest a w r =
    elim (nat_lt (length a) 9) as (λ v. nat_lt (length a) 9 ≡ v → IsSound largest w × (w.size + 9 ≤ length a)) [
      | true ↦ λ is. let s = next_short largest a (ltb-true _ _ is) in cc
      | false ↦ λ is.
          let long : 9 ≤ length a = ltb-false _ _ is in
          let k = payload_sound largest (header_of a) (drop 9 a) w (sym (next_long largest a long) ∙ r) in
          (k.0, omega (arith, long, k.1, length-drop 9 a))
    ] refl

-- the padding is read from the first byte, so more bytes don't change it
pub padding_stays : (h : Header) (p q : List ℕ) → pad_length_size h + priority_size h ≤ length p → padding h (p ++ q) ≡ padding h p
padding_stays h p q long =
    elim (is_padded h) as (λ b. cond b 1 0 + priority_size h ≤ length p → cond b (get_or (p ++ q) 0 0) 0 ≡ cond b (get_or p 0 0) 0) [
      | true ↦ λ l. get_or-append p q 0 0 (omega (arith, l))
      | false ↦ λ l. refl
    ] long

-- there is room for the padding exactly where the test says so
pub padding_fits : (h : Header) (p : List ℕ) → pad_length_size h + priority_size h ≤ h.size → h.size ≤ length p → is_wrong_padding h p ≡ false → pad_length_size h + priority_size h + padding h p ≤ h.size
padding_fits h [] front long e =
    let none : padding h [] ≡ 0 = elim (is_padded h) as (λ b. cond b (get_or {A = ℕ} [] 0 0) 0 ≡ 0) [ true ↦ refl | false ↦ refl ] in
    omega (arith, none, front)
padding_fits h (x ∷ p) front long e = ltb-false _ _ (rw (lt-ltb 0 (length (x ∷ p)) (omega arith)) at e)

pub fitting_is_right : (h : Header) (p : List ℕ) → pad_length_size h + priority_size h + padding h p ≤ h.size → is_wrong_padding h p ≡ false
fitting_is_right h p fits = elim (nat_lt 0 (length p)) as (λ b. (b && nat_lt h.size (pad_length_size h + priority_size h + padding h p)) ≡ false) [ true ↦ le-ltb _ _ fits | false ↦ refl ]

pub whole_stays : (h : Header) (p q : List ℕ) → h.size ≤ length p → pad_length_size h + priority_size h ≤ h.size → whole_of h (p ++ q) ≡ whole_of h p
whole_stays h p q long front =
    let m = pad_length_size h + priority_size h in
    let same : padding h (p ++ q) ≡ padding h p = padding_stays h p q (omega (arith, long, front)) in
    let back : drop m (p ++ q) ≡ drop m p ++ q = drop-append-le m p q (omega (arith, long, front)) in
    let few : h.size - (m + padding h p) ≤ length (drop m p) = omega (arith, long, front, length-drop m p) in
    let body : take (h.size - (m + padding h (p ++ q))) (drop m (p ++ q)) ≡ take (h.size - (m + padding h p)) (drop m p) =
    ap (λ (n : ℕ). take (h.size - (m + n)) (drop m (p ++ q))) same
    ∙ (ap (take (h.size - (m + padding h p))) back ∙ take-append-le (h.size - (m + padding h p)) (drop m p) q few) in
    ap (λ (b : List ℕ). let w : Whole = record { kind = h.kind; flags = h.flags; stream = h.stream; body = b; size = h.size } in w) body

pub payload_whole : (largest : ℕ) (h : Header) (p : List ℕ) → is_wrong_size largest h ≡ false → is_wrong_stream h.kind h.stream ≡ false → is_wrong_padding h p ≡ false → h.size ≤ length p → payload_of largest h p ≡ Ok (Complete (whole_of h p))
unfolding payload_of
payload_whole largest h p size stream padding long = rw (size, stream, padding, le-ltb (length p) h.size long) refl

pub payload_stays : (largest : ℕ) (h : Header) (p q : List ℕ) (w : Whole) → payload_of largest h p ≡ Ok (Complete w) → payload_of largest h (p ++ q) ≡ Ok (Complete w)
payload_stays largest h p q w r =
    let k = payload_complete largest h p w r in
    let long : h.size ≤ length p = ltb-false _ _ k.all in
    let s = right_size largest h k.size in
    let fits : pad_length_size h + priority_size h + padding h p ≤ h.size = padding_fits h p s.1 long k.padding in
    let same : padding h (p ++ q) ≡ padding h p = padding_stays h p q (omega (arith, long, s.1)) in
    let right : is_wrong_padding h (p ++ q) ≡ false = fitting_is_right h (p ++ q) (omega (arith, fits, same)) in
    payload_whole largest h (p ++ q) k.size k.stream right (omega (arith, long, length-append p q))
    ∙ (ap (λ (x : Whole). Ok (Complete x)) (whole_stays h p q long s.1) ∙ ap (λ (x : Whole). Ok (Complete x)) k.same)

-- A whole frame is the same whatever follows.
pub next_stays : (largest : ℕ) (a b : List ℕ) (w : Whole) → next largest a ≡ Ok (Complete w) → next largest (a ++ b) ≡ Ok (Complete w)
next_stays largest a b w r =
    elim (nat_lt (length a) 9) as (λ v. nat_lt (length a) 9 ≡ v → next largest (a ++ b) ≡ Ok (Complete w)) [
      | true ↦ λ is. let s = next_short largest a (ltb-true _ _ is) in cc
      | false ↦ λ is. let long : 9 ≤ length a = ltb-false _ _ is in next_grown largest a b long ∙ payload_stays largest (header_of a) (drop 9 a) b w (sym (next_long largest a long) ∙ r)
    ] refl
