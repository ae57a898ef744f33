-- Bytes that come later change nothing of a refusal or of a frame, and one byte more is one that lacks less.
use Rattle.std.proofs.Common.{◌≡◌, ℕ, ◌+◌, ◌-◌, ◌<◌, ◌≤◌, ◌⊎◌, Bool, true, false, cond, List, [], ◌∷◌, ◌++◌, length, get_or, drop, refl, sym, ap, ◌∙◌, inl, inr, Result, Ok, Err, nat_lt, ltb, arith, length-append, lit<}
use Rattle.std.proofs.Math.ListN.{get_or-append}
use Rattle.std.proofs.lemmas.List.{drop-append-le}
use Rattle.std.proofs.lemmas.Bool.{ltb-true, ltb-false, lt-ltb, le-ltb}
use Rattle.rx_h2frame.specs.declared.frame.FrameFault.{FrameFault}
use Rattle.rx_h2frame.specs.declared.frame.FrameFault.TheVariants.{FrameSize, BadPadding, BadStreamId}
use Rattle.rx_h2frame.specs.Head.{Header, header_of, is_wrong_size, is_wrong_stream}
use Rattle.rx_h2frame.specs.Frame.{Whole, Seen, Complete, Lacks, padding, is_wrong_padding, whole_of, payload_of, next}

-- the tests of a payload, over variables
abbrev pub chain : Bool → Bool → Bool → Bool → ℕ → Whole → Result Seen FrameFault
chain size stream padding short m w = cond size (Err FrameSize) (cond stream (Err BadStreamId) (cond padding (Err BadPadding) (cond short (Ok (Lacks m)) (Ok (Complete w)))))

pub chain_refused : (s t p q n o : Bool) (m k : ℕ) (c d : Whole) (e : FrameFault) → (p ≡ true → q ≡ true) → chain s t p n m c ≡ Err e → chain s t q o k d ≡ Err e
chain_refused true t p q n o m k c d e f h = h
chain_refused false true p q n o m k c d e f h = h
chain_refused false false true q n o m k c d e f h = rw (f refl) h
chain_refused false false false q true o m k c d e f h = cc
chain_refused false false false q false o m k c d e f h = cc

pub chain_lacks : (s t p q n o : Bool) (m k l : ℕ) (c d : Whole) → chain s t p n m c ≡ Ok (Lacks l) → (n ≡ true → o ≡ true) → (chain s t q o k d ≡ Ok (Lacks k)) ⊎ (chain s t q o k d ≡ Err BadPadding)
chain_lacks true t p q n o m k l c d h f = cc
chain_lacks false true p q n o m k l c d h f = cc
chain_lacks false false true q n o m k l c d h f = cc
chain_lacks false false false true true o m k l c d h f = inr refl
chain_lacks false false false false true o m k l c d h f = inl (rw (f refl) refl)
chain_lacks false false false q false o m k l c d h f = cc

-- what it means that so many bytes are lacking
pub chain_count : (s t p n : Bool) (m l : ℕ) (c : Whole) → chain s t p n m c ≡ Ok (Lacks l) → (n ≡ true) × (m ≡ l)
chain_count true t p n m l c h = cc
chain_count false true p n m l c h = cc
chain_count false false true n m l c h = cc
chain_count false false false true m l c h = (refl, cc)
chain_count false false false false m l c h = cc

-- what it means that a frame is whole
pub record IsComplete (s t p n : Bool) (c d : Whole) : Type 0 where
  pub size : s ≡ false
  pub stream : t ≡ false
  pub padding : p ≡ false
  pub all : n ≡ false
  pub same : c ≡ d

pub chain_complete : (s t p n : Bool) (m : ℕ) (c d : Whole) → chain s t p n m c ≡ Ok (Complete d) → IsComplete s t p n c d
chain_complete true t p n m c d h = cc
chain_complete false true p n m c d h = cc
chain_complete false false true n m c d h = cc
chain_complete false false false true m c d h = cc
chain_complete false false false false m c d h = record { size = refl; stream = refl; padding = refl; all = refl; same = cc }

pub header_of-append : (a b : List ℕ) → 9 ≤ length a → header_of (a ++ b) ≡ header_of a
header_of-append a b h =
    let byte : (i : ℕ) → i < 9 → get_or (a ++ b) i 0 ≡ get_or a i 0 = λ i small. get_or-append a b 0 i (omega (arith, h, small)) in
    let b0 : get_or (a ++ b) 0 0 ≡ get_or a 0 0 = byte 0 (lit< tt) in
    let b1 : get_or (a ++ b) 1 0 ≡ get_or a 1 0 = byte 1 (lit< tt) in
    let b2 : get_or (a ++ b) 2 0 ≡ get_or a 2 0 = byte 2 (lit< tt) in
    let b3 : get_or (a ++ b) 3 0 ≡ get_or a 3 0 = byte 3 (lit< tt) in
    let b4 : get_or (a ++ b) 4 0 ≡ get_or a 4 0 = byte 4 (lit< tt) in
    let b5 : get_or (a ++ b) 5 0 ≡ get_or a 5 0 = byte 5 (lit< tt) in
    let b6 : get_or (a ++ b) 6 0 ≡ get_or a 6 0 = byte 6 (lit< tt) in
    let b7 : get_or (a ++ b) 7 0 ≡ get_or a 7 0 = byte 7 (lit< tt) in
    let b8 : get_or (a ++ b) 8 0 ≡ get_or a 8 0 = byte 8 (lit< tt) in
    cc

-- a test of the padding stays true
pub wrong_padding_stays : (h : Header) (p q : List ℕ) → is_wrong_padding h p ≡ true → is_wrong_padding h (p ++ q) ≡ true
wrong_padding_stays h [] q e = cc
wrong_padding_stays h (x ∷ p) q e =
    let old : ltb 0 (length (x ∷ p)) ≡ true = lt-ltb 0 (length (x ∷ p)) (omega arith) in
    let new : ltb 0 (length (x ∷ (p ++ q))) ≡ true = lt-ltb 0 (length (x ∷ (p ++ q))) (omega arith) in
    rw new (rw old at e)

pub payload_refused : (largest : ℕ) (h : Header) (p q : List ℕ) (e : FrameFault) → payload_of largest h p ≡ Err e → payload_of largest h (p ++ q) ≡ Err e
unfolding payload_of
payload_refused largest h p q e r =
    chain_refused (is_wrong_size largest h) (is_wrong_stream h.kind h.stream) (is_wrong_padding h p) (is_wrong_padding h (p ++ q)) (nat_lt (length p) h.size) (nat_lt (length (p ++ q)) h.size) _ _ (whole_of h p) (whole_of h (p ++ q)) e (wrong_padding_stays h p q) r

pub payload_count : (largest : ℕ) (h : Header) (p : List ℕ) (n : ℕ) → payload_of largest h p ≡ Ok (Lacks n) → (length p + n ≡ h.size) × (0 < n)
unfolding payload_of
payload_count largest h p n r =
    let k = chain_count (is_wrong_size largest h) (is_wrong_stream h.kind h.stream) (is_wrong_padding h p) (nat_lt (length p) h.size) (h.size - length p) n (whole_of h p) r in
    let lt : length p < h.size = ltb-true (length p) h.size k.0 in
    (omega (arith, lt, k.1), omega (arith, lt, k.1))

pub payload_complete : (largest : ℕ) (h : Header) (p : List ℕ) (w : Whole) → payload_of largest h p ≡ Ok (Complete w) → IsComplete (is_wrong_size largest h) (is_wrong_stream h.kind h.stream) (is_wrong_padding h p) (nat_lt (length p) h.size) (whole_of h p) w
unfolding payload_of
payload_complete largest h p w r =
    chain_complete (is_wrong_size largest h) (is_wrong_stream h.kind h.stream) (is_wrong_padding h p) (nat_lt (length p) h.size) (h.size - length p) (whole_of h p) w r

pub payload_lacks : (largest : ℕ) (h : Header) (p q : List ℕ) (n : ℕ) → payload_of largest h p ≡ Ok (Lacks n) → length q < n → (payload_of largest h (p ++ q) ≡ Ok (Lacks (n - length q))) ⊎ (payload_of largest h (p ++ q) ≡ Err BadPadding)
unfolding payload_of
payload_lacks largest h p q n r few =
    let count : length p + n ≡ h.size = (payload_count largest h p n r).0 in
    let k : h.size - length (p ++ q) ≡ n - length q = omega (arith, count, few, length-append p q) in
    let short : length (p ++ q) < h.size = omega (arith, count, few, length-append p q) in
    let f = chain_lacks (is_wrong_size largest h) (is_wrong_stream h.kind h.stream) (is_wrong_padding h p) (is_wrong_padding h (p ++ q)) (nat_lt (length p) h.size) (nat_lt (length (p ++ q)) h.size) (h.size - length p) (h.size - length (p ++ q)) n (whole_of h p) (whole_of h (p ++ q)) r (λ _. lt-ltb (length (p ++ q)) h.size short) in
    elim f [ inl e ↦ inl (e ∙ ap (λ x. Ok (Lacks x)) k) | inr e ↦ inr e ]

-- bytes with a whole header, and with the front of one
pub next_long : (largest : ℕ) (a : List ℕ) → 9 ≤ length a → next largest a ≡ payload_of largest (header_of a) (drop 9 a)
unfolding next
next_long largest a h = rw (le-ltb (length a) 9 h) refl

pub next_short : (largest : ℕ) (a : List ℕ) → length a < 9 → next largest a ≡ Ok (Lacks (9 - length a))
unfolding next
next_short largest a h = rw (lt-ltb (length a) 9 h) refl

pub next_grown : (largest : ℕ) (a b : List ℕ) → 9 ≤ length a → next largest (a ++ b) ≡ payload_of largest (header_of a) (drop 9 a ++ b)
next_grown largest a b h =
    next_long largest (a ++ b) (omega (arith, h, length-append a b)) ∙ (ap (λ x. payload_of largest x (drop 9 (a ++ b))) (header_of-append a b h) ∙ ap (payload_of largest (header_of a)) (drop-append-le 9 a b h))

-- What is refused stays refused, whatever follows.
pub next_refused : (largest : ℕ) (a b : List ℕ) (e : FrameFault) → next largest a ≡ Err e → next largest (a ++ b) ≡ Err e
next_refused largest a b e r =
    elim (nat_lt (length a) 9) as (λ v. nat_lt (length a) 9 ≡ v → next largest (a ++ b) ≡ Err e) [
      | true ↦ λ is. let s = next_short largest a (ltb-true _ _ is) in cc
      | false ↦ λ is. let long : 9 ≤ length a = ltb-false _ _ is in next_grown largest a b long ∙ payload_refused largest (header_of a) (drop 9 a) b e (sym (next_long largest a long) ∙ r)
    ] refl

-- As long as fewer come than are lacking, the rest is lacking, or the padding is refused.
pub next_lacks : (largest : ℕ) (a b : List ℕ) (n : ℕ) → next largest a ≡ Ok (Lacks n) → length b < n → (next largest (a ++ b) ≡ Ok (Lacks (n - length b))) ⊎ (next largest (a ++ b) ≡ Err BadPadding)
next_lacks largest a b n r few =
    elim (nat_lt (length a) 9) as (λ v. nat_lt (length a) 9 ≡ v → (next largest (a ++ b) ≡ Ok (Lacks (n - length b))) ⊎ (next largest (a ++ b) ≡ Err BadPadding)) [
      | true ↦ λ is.
          let s = next_short largest a (ltb-true _ _ is) in
          let n_is : n ≡ 9 - length a = cc in
          let k : 9 - length (a ++ b) ≡ n - length b = omega (arith, n_is, few, length-append a b) in
          inl (next_short largest (a ++ b) (omega (arith, n_is, few, length-append a b)) ∙ ap (λ x. Ok (Lacks x)) k)
      | false ↦ λ is.
          let long : 9 ≤ length a = ltb-false _ _ is in
          let f = payload_lacks largest (header_of a) (drop 9 a) b n (sym (next_long largest a long) ∙ r) few in
          elim f [ inl e ↦ inl (next_grown largest a b long ∙ e) | inr e ↦ inr (next_grown largest a b long ∙ e) ]
    ] refl

-- Something is lacking where bytes are lacking.
pub next_some : (largest : ℕ) (a : List ℕ) (n : ℕ) → next largest a ≡ Ok (Lacks n) → 0 < n
next_some largest a n r =
    elim (nat_lt (length a) 9) as (λ v. nat_lt (length a) 9 ≡ v → 0 < n) [
      | true ↦ λ is.
          let short : length a < 9 = ltb-true _ _ is in
          let s = next_short largest a short in
          let n_is : n ≡ 9 - length a = cc in omega (arith, n_is, short)
      | false ↦ λ is. (payload_count largest (header_of a) (drop 9 a) n (sym (next_long largest a (ltb-false _ _ is)) ∙ r)).1
    ] refl
