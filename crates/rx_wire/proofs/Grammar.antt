-- What is read as a number is spelled so, and what is spelled so is read.
use Rattle.std.proofs.Common.{◌≡◌, ℕ, zero, suc, ◌+◌, ◌-◌, ◌*◌, ◌/◌, ◌%◌, ◌^◌, ◌<◌, ◌≤◌, ◌⊎◌, inl, inr, Bool, true, false, cond, List, [], ◌∷◌, ◌++◌, length, get_or, take, drop, Result, Ok, Err, nat_lt, nat_le, refl, sym, ap, ◌∙◌, arith, lit<, subst, append_assoc}
use Rattle.std.proofs.lemmas.Bool.{lt-ltb, le-ltb, le-leb, ltb-true, ltb-false, leb-true, cases_lt}
use Rattle.std.proofs.lemmas.List.{drop-drop, drop_at, length-append, length-drop, length-take-le, take-append-drop, get_or-drop}
use Rattle.std.proofs.Math.Nat.{pow-suc, one-le-pow}
use Rattle.rx_wire.specs.declared.faults.WireFault.{WireFault}
use Rattle.rx_wire.specs.declared.faults.WireFault.TheVariants.{VarintTooLong}
use Rattle.rx_base.specs.Results.{◌>>=◌}
use Rattle.rx_base.proofs.ResultLemmas.{bind_ok}
use Rattle.rx_wire.specs.Varints.{Spells, IsVarint, varint_in, varint_at, groups, shortest}

-- every element is a byte
abbrev pub IsBytes : List ℕ → Type 0
IsBytes bytes = (i : ℕ) → get_or bytes i 0 < 256

pub IsBytes-tail : (b : ℕ) (bytes : List ℕ) → IsBytes (b ∷ bytes) → IsBytes bytes
IsBytes-tail b bytes h i = h (suc i)

-- ---- what an answer shows

abbrev done : {A : Type 0} → A → Result A WireFault
done x = Ok x

pub ok_is : {A : Type 0} (x y : A) → done x ≡ done y → x ≡ y
ok_is x y e = cc

-- which way a test went
pub chosen : {A : Type 0} (t : Bool) (x y z : Result A WireFault) → cond t x y ≡ z → ((t ≡ true) × (x ≡ z)) ⊎ ((t ≡ false) × (y ≡ z))
chosen true x y z e = inl (refl, e)
chosen false x y z e = inr (refl, e)

-- ---- numbers that are read

-- the number stands at the front, in at most k more bytes than one
pub record StandsAt (bytes : List ℕ) (k n len : ℕ) : Type 0 where
  pub text : List ℕ
  pub rest : List ℕ
  pub parts : bytes ≡ text ++ rest
  pub size : length text ≡ len
  pub spelled : Spells text n
  pub short : len ≤ suc k
  pub fits : n < 2 * 128 ^ k

Spells-more : (b : ℕ) (text : List ℕ) (n high : ℕ) → 128 ≤ b → n + 128 ≡ b + 128 * high → Spells text high → Spells (b ∷ text) n
Spells-more b [] n high le e s = absurd s
Spells-more b (c ∷ text) n high le e s = (le, high, e, s)

one_byte : (b : ℕ) (bytes : List ℕ) (k n len : ℕ) → b < 128 → b < 2 * 128 ^ k → done {A = ℕ × ℕ} (b, 1) ≡ Ok (n, len) → StandsAt (b ∷ bytes) k n len
one_byte b bytes k n len small fits e =
    let p = ok_is {A = ℕ × ℕ} (b, 1) (n, len) e in
    subst (λ (v : ℕ × ℕ). StandsAt (b ∷ bytes) k v.0 v.1) p (record { text = b ∷ []; rest = bytes; parts = refl; size = refl; spelled = (small, refl); short = omega arith; fits = fits })

pub stands : (at k : ℕ) (bytes : List ℕ) (n len : ℕ) → IsBytes bytes → varint_in at k bytes ≡ Ok (n, len) → StandsAt bytes k n len
unfolding varint_in
stands at k [] n len h e = absurd cc
stands at zero (b ∷ bytes) n len h e =
    elim (chosen {A = ℕ × ℕ} (nat_le b 1) (Ok (b, 1)) (Err (VarintTooLong at)) (Ok (n, len)) e) [
      | inl p ↦
          let le = leb-true _ _ p.0 in
          one_byte b bytes 0 n len (omega arith) (omega arith) p.1
      | inr p ↦ absurd (cc (p.1))
    ]
stands at (suc k) (b ∷ bytes) n len h e =
    let power : 1 ≤ 128 ^ k = one-le-pow k 128 (lit< tt) in
    let more : 128 ^ suc k ≡ 128 ^ k * 128 = pow-suc 128 k in
    elim (chosen {A = ℕ × ℕ} (nat_lt b 128) (Ok (b, 1)) (varint_in at k bytes >>= λ high. Ok (b - 128 + 128 * high.0, high.1 + 1)) (Ok (n, len)) e) [
      | inl p ↦
          let lt = ltb-true _ _ p.0 in
          one_byte b bytes (suc k) n len lt (omega arith) p.1
      | inr p ↦
          let le : 128 ≤ b = ltb-false _ _ p.0 in
          let byte : b < 256 = h 0 in
          let r = bind_ok (varint_in at k bytes) (λ high. Ok (b - 128 + 128 * high.0, high.1 + 1)) (n, len) p.1 in
          let ih = stands at k bytes r.0.0 r.0.1 (IsBytes-tail b bytes h) r.1 in
          let v = ok_is {A = ℕ × ℕ} (b - 128 + 128 * r.0.0, r.0.1 + 1) (n, len) r.2 in
          let n-is : b - 128 + 128 * r.0.0 ≡ n = ap (λ (q : ℕ × ℕ). q.0) v in
          let len-is : r.0.1 + 1 ≡ len = ap (λ (q : ℕ × ℕ). q.1) v in
          let size = ih.size in
          let short = ih.short in
          let fits = ih.fits in
          record {
            text = b ∷ ih.text;
            rest = ih.rest;
            parts = ap (λ (bs : List ℕ). b ∷ bs) ih.parts;
            size = omega arith;
            spelled = Spells-more b ih.text n r.0.0 le (omega arith) ih.spelled;
            short = omega arith;
            fits = omega arith;
          }
    ]

-- ---- what is spelled is read

pub again : (at k : ℕ) (text : List ℕ) (n : ℕ) (rest : List ℕ) → Spells text n → length text ≤ suc k → n < 2 * 128 ^ k → varint_in at k (text ++ rest) ≡ Ok (n, length text)
unfolding varint_in
again at k [] n rest s le lt = absurd s
again at zero (b ∷ []) n rest s le lt =
    let test : nat_le b 1 ≡ true = le-leb _ _ (omega arith) in
    rw (test, s.1) refl
again at (suc k) (b ∷ []) n rest s le lt =
    let test : nat_lt b 128 ≡ true = lt-ltb _ _ s.0 in
    rw (test, s.1) refl
again at zero (b ∷ c ∷ text) n rest s le lt = absurd (omega arith)
again at (suc k) (b ∷ c ∷ text) n rest s le lt =
    let more : 128 ^ suc k ≡ 128 ^ k * 128 = pow-suc 128 k in
    let high = s.1 in
    let is : n + 128 ≡ b + 128 * high = s.2 in
    let test : nat_lt b 128 ≡ false = le-ltb _ _ s.0 in
    let ih = again at k (c ∷ text) high rest s.3 (omega arith) (omega arith) in
    let value : b - 128 + 128 * high ≡ n = omega arith in
    rw (test, ih, value) (ap (λ (len : ℕ). Ok (n, len)) (omega arith))

-- ---- what is written is spelled so

pub Spells-groups : (k n : ℕ) → n < 128 ^ suc k → Spells (groups k n) n
unfolding groups
Spells-groups zero n lt = (lt, refl)
Spells-groups (suc k) n lt =
    let more : 128 ^ suc (suc k) ≡ 128 ^ suc k * 128 = pow-suc 128 (suc k) in
    elim (cases_lt n 128) [
      | inl low ↦
          let test : nat_lt n 128 ≡ true = lt-ltb _ _ low in
          rw test (low, refl)
      | inr high ↦
          let test : nat_lt n 128 ≡ false = le-ltb _ _ high in
          rw test (Spells-more (n % 128 + 128) (groups k (n / 128)) n (n / 128) (omega arith) (omega arith) (Spells-groups k (n / 128) (omega arith)))
    ]

pub length-groups : (k n : ℕ) → length (groups k n) ≤ suc k
unfolding groups
length-groups zero n = omega arith
length-groups (suc k) n =
    elim (cases_lt n 128) [
      | inl low ↦
          let test : nat_lt n 128 ≡ true = lt-ltb _ _ low in
          rw test (omega arith)
      | inr high ↦
          let test : nat_lt n 128 ≡ false = le-ltb _ _ high in
          let ih = length-groups k (n / 128) in
          rw test (omega arith)
    ]

-- the shortest spelling is one
pub IsVarint-shortest : (n : ℕ) → n < 2 ^ 64 → IsVarint (shortest n) n
unfolding shortest
IsVarint-shortest n lt = record { spelled = Spells-groups 9 n (omega arith); short = length-groups 9 n; fits = lt }

-- ---- at an offset

-- from one offset to another the bytes are these
pub record Spans (all : List ℕ) (at end : ℕ) (text : List ℕ) : Type 0 where
  pub parts : drop at all ≡ text ++ drop end all
  pub size : end ≡ at + length text

spans_from : (all : List ℕ) (at : ℕ) (text rest : List ℕ) → drop at all ≡ text ++ rest → Spans all at (at + length text) text
spans_from all at text rest e =
    let d : drop (at + length text) all ≡ rest = sym (drop-drop (length text) at all) ∙ ap (drop (length text)) e ∙ drop_at text rest (length text) refl in
    record { parts = rw d e; size = refl }

pub Spans-then : (all : List ℕ) (a b c : ℕ) (x y : List ℕ) → Spans all a b x → Spans all b c y → Spans all a c (x ++ y)
Spans-then all a b c x y p q =
    let size = length-append x y in
    let p_size = p.size in
    let q_size = q.size in
    record { parts = p.parts ∙ ap (λ (t : List ℕ). x ++ t) q.parts ∙ sym (append_assoc x y (drop c all)); size = omega arith }

-- n bytes from an offset on
pub Spans-take : (all : List ℕ) (at n : ℕ) → n ≤ length all - at → Spans all at (at + n) (take n (drop at all))
Spans-take all at n le =
    let d : drop n (drop at all) ≡ drop (at + n) all = drop-drop n at all in
    let size : length (take n (drop at all)) ≡ n = length-take-le n (drop at all) (omega (arith, length-drop at all)) in
    record { parts = rw (← d) (sym (take-append-drop n (drop at all))); size = omega arith }

IsBytes-drop : (n : ℕ) (bytes : List ℕ) → IsBytes bytes → IsBytes (drop n bytes)
IsBytes-drop n bytes h i = rw get_or-drop (h (n + i))

-- a number that was read at an offset
pub number_stands : (all : List ℕ) (at n end : ℕ) → IsBytes all → varint_at all at ≡ Ok (n, end) → (text : List ℕ) × Spans all at end text × IsVarint text n
unfolding varint_at
number_stands all at n end h e =
    let r = bind_ok (varint_in at 9 (drop at all)) (λ found. Ok (found.0, at + found.1)) (n, end) e in
    let s = stands at 9 (drop at all) r.0.0 r.0.1 (IsBytes-drop at all h) r.1 in
    let v = ok_is {A = ℕ × ℕ} (r.0.0, at + r.0.1) (n, end) r.2 in
    let size = s.size in
    let short = s.short in
    let spans : Spans all at (at + r.0.1) s.text = subst (λ (k : ℕ). Spans all at (at + k) s.text) size (spans_from all at s.text s.rest s.parts) in
    let fits = s.fits in
    let is : IsVarint s.text r.0.0 = record { spelled = s.spelled; short = omega arith; fits = omega arith } in
    let both = subst (λ (q : ℕ × ℕ). Spans all at q.1 s.text × IsVarint s.text q.0) v (spans, is) in
    (s.text, both.0, both.1)

-- a number that is spelled at an offset
pub number_again : (all : List ℕ) (at : ℕ) (text rest : List ℕ) (n : ℕ) → drop at all ≡ text ++ rest → IsVarint text n → varint_at all at ≡ Ok (n, at + length text)
unfolding varint_at
number_again all at text rest n e v =
    let fits = v.fits in
    rw (e, again at 9 text n rest v.spelled v.short (omega arith)) refl
