-- Bytes that are read in pieces are read as one.
use Rattle.std.proofs.Common.{◌≡◌, ℕ, ◌+◌, ◌-◌, ◌<◌, ◌≤◌, drop, Bool, true, false, cond, List, [], ◌∷◌, ◌++◌, length, get_or, refl, sym, ap, ◌∙◌, nat_eq, nat_lt, arith, length-append, append_assoc, lit<, None, Some}
use Rattle.std.proofs.Math.ListN.{get_or-append}
use Rattle.std.proofs.lemmas.Bool.{ltb-true, ltb-false, lt-ltb, le-ltb}
use Rattle.std.proofs.lemmas.Bool.Decides.{nat_tests}
use Rattle.rx_h2conn.proofs.PieceLemmas.{IsCut}
use Rattle.rx_grpc.specs.declared.end.End.{End}
use Rattle.rx_grpc.specs.Framing.{Next, Whole, Lacks, IsCompressed, IsTooLarge, size_of, sized, next_message}
use Rattle.rx_grpc.specs.Heard.{Heard, settled, more, byte, read}

-- the tests of a message, over variables
abbrev pub chain : Bool → Bool → Bool → Bool → Bool → ℕ → ℕ → List ℕ → Next
chain empty flag front large short m n body =
    cond empty (Lacks 1) (cond flag IsCompressed (cond front (Lacks m) (cond large IsTooLarge (cond short (Lacks n) (Whole body)))))

-- what it means that two bytes or more are lacking
pub data Lacking (empty flag front large short : Bool) (m n k : ℕ) : Type 0 where
  InPrefix : empty ≡ false → flag ≡ false → front ≡ true → m ≡ k → Lacking empty flag front large short m n k
  InBody : empty ≡ false → flag ≡ false → front ≡ false → large ≡ false → short ≡ true → n ≡ k → Lacking empty flag front large short m n k

pub chain_lacks : (e c f l s : Bool) (m n k : ℕ) (body : List ℕ) → chain e c f l s m n body ≡ Lacks k → 2 ≤ k → Lacking e c f l s m n k
chain_lacks true c f l s m n k body h two = let one : 1 ≡ k = cc in absurd (omega (arith, one, two))
chain_lacks false true f l s m n k body h two = absurd cc
chain_lacks false false true l s m n k body h two = InPrefix refl refl refl cc
chain_lacks false false false true s m n k body h two = absurd cc
chain_lacks false false false false true m n k body h two = InBody refl refl refl refl refl cc
chain_lacks false false false false false m n k body h two = absurd cc

pub message_chain : (text : List ℕ) → next_message text ≡ chain (nat_eq (length text) 0) (nat_lt 0 (get_or text 0 0)) (nat_lt (length text) 5) (nat_lt 4194304 (size_of text)) (nat_lt (length text) (size_of text + 5)) (5 - length text) (size_of text + 5 - length text) (drop 5 text)
unfolding next_message sized
message_chain text = refl

pub size_of-append : (a b : List ℕ) → 5 ≤ length a → size_of (a ++ b) ≡ size_of a
size_of-append a b h =
    let at : (i : ℕ) → i < 5 → get_or (a ++ b) i 0 ≡ get_or a i 0 = λ i small. get_or-append a b 0 i (omega (arith, h, small)) in
    let b1 : get_or (a ++ b) 1 0 ≡ get_or a 1 0 = at 1 (lit< tt) in
    let b2 : get_or (a ++ b) 2 0 ≡ get_or a 2 0 = at 2 (lit< tt) in
    let b3 : get_or (a ++ b) 3 0 ≡ get_or a 3 0 = at 3 (lit< tt) in
    let b4 : get_or (a ++ b) 4 0 ≡ get_or a 4 0 = at 4 (lit< tt) in
    cc

pub message_lacking : (text : List ℕ) (k : ℕ) → next_message text ≡ Lacks k → 2 ≤ k → Lacking (nat_eq (length text) 0) (nat_lt 0 (get_or text 0 0)) (nat_lt (length text) 5) (nat_lt 4194304 (size_of text)) (nat_lt (length text) (size_of text + 5)) (5 - length text) (size_of text + 5 - length text) k
message_lacking text k h two = chain_lacks (nat_eq (length text) 0) (nat_lt 0 (get_or text 0 0)) (nat_lt (length text) 5) (nat_lt 4194304 (size_of text)) (nat_lt (length text) (size_of text + 5)) (5 - length text) (size_of text + 5 - length text) k (drop 5 text) (sym (message_chain text) ∙ h) two

-- one byte more is one that lacks less
pub message_lacks : (text : List ℕ) (b k : ℕ) → next_message text ≡ Lacks k → 2 ≤ k → next_message (text ++ b ∷ []) ≡ Lacks (k - 1)
message_lacks text b k h two =
    let grown = length-append text (b ∷ []) in
    elim (message_lacking text k h two) [
      | InPrefix e c f m ↦
          let short : length text < 5 = ltb-true _ _ f in
          let some : 0 < length text = grind (arith, nat_tests) in
          let flag : get_or (text ++ b ∷ []) 0 0 ≡ get_or text 0 0 = get_or-append text (b ∷ []) 0 0 some in
          let e2 : nat_eq (length (text ++ b ∷ [])) 0 ≡ false = grind (arith, nat_tests) in
          let c2 : nat_lt 0 (get_or (text ++ b ∷ []) 0 0) ≡ false = rw flag c in
          let f2 : nat_lt (length (text ++ b ∷ [])) 5 ≡ true = lt-ltb _ _ (omega (arith, grown, m, two)) in
          let n2 : 5 - length (text ++ b ∷ []) ≡ k - 1 = omega (arith, grown, m, two) in
          message_chain (text ++ b ∷ []) ∙ rw (e2, c2, f2, n2) refl
      | InBody e c f l s n ↦
          let long : 5 ≤ length text = ltb-false _ _ f in
          let flag : get_or (text ++ b ∷ []) 0 0 ≡ get_or text 0 0 = get_or-append text (b ∷ []) 0 0 (omega (arith, long)) in
          let size = size_of-append text (b ∷ []) long in
          let e2 : nat_eq (length (text ++ b ∷ [])) 0 ≡ false = grind (arith, nat_tests) in
          let c2 : nat_lt 0 (get_or (text ++ b ∷ []) 0 0) ≡ false = rw flag c in
          let f2 : nat_lt (length (text ++ b ∷ [])) 5 ≡ false = le-ltb _ _ (omega (arith, grown, long)) in
          let l2 : nat_lt 4194304 (size_of (text ++ b ∷ [])) ≡ false = rw size l in
          let s2 : nat_lt (length (text ++ b ∷ [])) (size_of (text ++ b ∷ []) + 5) ≡ true = lt-ltb _ _ (omega (arith, grown, n, two, size)) in
          let n2 : size_of (text ++ b ∷ []) + 5 - length (text ++ b ∷ []) ≡ k - 1 = omega (arith, grown, n, two, size) in
          message_chain (text ++ b ∷ []) ∙ rw (e2, c2, f2, l2, s2, n2) refl
    ]

pub message_some : (text : List ℕ) (k : ℕ) → next_message text ≡ Lacks k → 0 < k
unfolding next_message sized
message_some text k h = grind (arith, nat_tests)

-- as many bytes as are lacking, or fewer, are judged when they are there
pub byte_ready : (h : Heard) (b : ℕ) → h.end ≡ None → byte h b ≡ settled (more h (b ∷ []))
unfolding byte
byte_ready h b none = rw none refl

pub settled_lacks : (h : Heard) (n : ℕ) → next_message h.rest ≡ Lacks n → settled h ≡ h
unfolding settled
settled_lacks h n e = rw e refl

pub read_front : (h : Heard) (n b : ℕ) (p : List ℕ) → h.end ≡ None → next_message h.rest ≡ Lacks n → length (b ∷ p) ≤ n → read h (b ∷ p) ≡ settled (more h (b ∷ p))
read_front h n b [] none lacks few = byte_ready h b none
read_front h n b (c ∷ p) none lacks few =
    let two : 2 ≤ n = omega (arith, few) in
    let goes = message_lacks h.rest b n lacks two in
    let one : byte h b ≡ more h (b ∷ []) = byte_ready h b none ∙ settled_lacks (more h (b ∷ [])) (n - 1) goes in
    let later : read (more h (b ∷ [])) (c ∷ p) ≡ settled (more (more h (b ∷ [])) (c ∷ p)) = read_front (more h (b ∷ [])) (n - 1) c p none goes (omega (arith, few)) in
    let same : more (more h (b ∷ [])) (c ∷ p) ≡ more h (b ∷ c ∷ p) = ap (λ (x : List ℕ). record h { rest = x }) (append_assoc h.rest (b ∷ []) (c ∷ p)) in
    ap (λ (x : Heard). read x (c ∷ p)) one ∙ (later ∙ ap settled same)

pub read_append : (h : Heard) (a b : List ℕ) → read h (a ++ b) ≡ read (read h a) b
read_append h [] b = refl
read_append h (x ∷ a) b = read_append (byte h x) a b

pub byte_ended : (h : Heard) (e : End) (b : ℕ) → h.end ≡ Some e → byte h b ≡ h
unfolding byte
byte_ended h e b is = rw is refl

pub read_ended : (h : Heard) (e : End) (p : List ℕ) → h.end ≡ Some e → read h p ≡ h
read_ended h e [] is = refl
read_ended h e (x ∷ p) is = rw (byte_ended h e x is) (read_ended h e p is)

-- what is kept while bytes are left
pub record IsReading (start now : Heard) (lacking : ℕ) (piece left : List ℕ) : Type 0 where
  pub read_is : read now left ≡ read start piece
  pub ready : now.end ≡ None → next_message now.rest ≡ Lacks lacking

pub front_is_read : (now : Heard) (n : ℕ) (front : List ℕ) → now.end ≡ None → next_message now.rest ≡ Lacks n → 0 < length front → length front ≤ n → read now front ≡ settled (more now front)
front_is_read now n [] none lacks some few = absurd (omega arith)
front_is_read now n (b ∷ front) none lacks some few = read_front now n b front none lacks few

pub reading_goes_on : (start now new : Heard) (n m : ℕ) (piece left front back : List ℕ) → IsReading start now n piece left → now.end ≡ None → IsCut n left front back → new ≡ settled (more now front) → (new.end ≡ None → next_message new.rest ≡ Lacks m) → IsReading start new m piece back
reading_goes_on start now new n m piece left front back h none k is ready = record {
  read_is =
      ap (λ (x : Heard). read x back) (is ∙ sym (front_is_read now n front none (h.ready none) k.some k.few))
      ∙ (sym (read_append now front back) ∙ (ap (read now) (sym k.whole) ∙ h.read_is));
  ready = ready;
}

pub reading_ends : (start now : Heard) (n : ℕ) (piece left : List ℕ) → IsReading start now n piece left → length left ≡ 0 → now ≡ read start piece
reading_ends start now n piece [] h e = h.read_is
reading_ends start now n piece (b ∷ left) h e = absurd (omega arith)

pub reading_stops : (start now : Heard) (n : ℕ) (piece left : List ℕ) (e : End) → IsReading start now n piece left → now.end ≡ Some e → now ≡ read start piece
reading_stops start now n piece left e h is = sym (read_ended now e left is) ∙ h.read_is

pub reading_stopped : (start now : Heard) (n : ℕ) (piece left : List ℕ) → IsReading start now n piece left → (now.end ≡ None → ⊥) → now ≡ read start piece
reading_stopped start now n piece left h not =
    elim now.end as (λ o. now.end ≡ o → now ≡ read start piece) [
      | None ↦ λ is. absurd (not is)
      | Some e ↦ λ is. reading_stops start now n piece left e h is
    ] refl
