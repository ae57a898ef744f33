-- What a link carries, piece by piece.
use Rattle.std.proofs.Common.{◌≡◌, ◌≤◌, ℕ, Bool, List, [], ◌∷◌, ◌++◌, length, take, drop, append-nil, append_assoc, refl, sym, ap, ◌∙◌, arith, Option, None, Some}
use Rattle.std.proofs.lemmas.List.{take-append-drop}
use Rattle.rx_world.specs.Links.{Wire, Goes, SameRule, Meets}
use Rattle.rx_grpc.specs.Moves.{carried}

pub goes_none : (w : Option Wire) → Goes w w (carried [] [])
goes_none None = tt
goes_none (Some w) = ap (λ (x : List ℕ). record { sent = x; received = w.received }) (sym (append-nil w.sent)) ∙ ap (λ (x : List ℕ). record { sent = w.sent ++ []; received = x }) (sym (append-nil w.received))

pub goes_trans : (a b c : Option Wire) (g f g2 f2 : List ℕ) → Goes a b (carried g f) → Goes b c (carried g2 f2) → Goes a c (carried (g ++ g2) (f ++ f2))
goes_trans None None None g f g2 f2 p q = tt
goes_trans None None (Some z) g f g2 f2 p q = absurd q
goes_trans None (Some y) c g f g2 f2 p q = absurd p
goes_trans (Some x) None c g f g2 f2 p q = absurd p
goes_trans (Some x) (Some y) None g f g2 f2 p q = absurd q
goes_trans (Some x) (Some y) (Some z) g f g2 f2 p q =
    q ∙ (ap (carried g2 f2) p
    ∙ (ap (λ (s : List ℕ). record { sent = s; received = (x.received ++ f) ++ f2 }) (append_assoc x.sent g g2)
    ∙ ap (λ (s : List ℕ). record { sent = x.sent ++ (g ++ g2); received = s }) (append_assoc x.received f f2)))

pub goes_sent : (a b : Option Wire) (bytes : List ℕ) (count : ℕ) → Goes a b (λ w. record w { sent = w.sent ++ take count bytes }) → Goes a b (carried (take count bytes) [])
goes_sent None None bytes count p = tt
goes_sent None (Some y) bytes count p = absurd p
goes_sent (Some x) None bytes count p = absurd p
goes_sent (Some x) (Some y) bytes count p = p ∙ ap (λ (s : List ℕ). record { sent = x.sent ++ take count bytes; received = s }) (sym (append-nil x.received))

pub goes_received : (a b : Option Wire) (bytes : List ℕ) (count : ℕ) → Goes a b (λ w. record w { received = w.received ++ take count bytes }) → Goes a b (carried [] (take count bytes))
goes_received None None bytes count p = tt
goes_received None (Some y) bytes count p = absurd p
goes_received (Some x) None bytes count p = absurd p
goes_received (Some x) (Some y) bytes count p = p ∙ ap (λ (s : List ℕ). record { sent = s; received = x.received ++ take count bytes }) (sym (append-nil x.sent))

-- what is kept while bytes are left to send
pub record IsSending (w0 w : Option Wire) (r0 r : List ℕ → List ℕ → Type 0) (e0 e : Bool) (k0 k : ℕ) (bytes left : List ℕ) : Type 0 where
  pub front : List ℕ
  pub whole : bytes ≡ front ++ left
  pub wire : Goes w0 w (carried front [])
  pub rule : SameRule r0 r
  pub meets : Meets w0 r0 → Meets w r
  pub ended : e ≡ e0
  pub later : k0 ≤ k

pub sending_starts : (w : Option Wire) (r : List ℕ → List ℕ → Type 0) (e : Bool) (k : ℕ) (bytes : List ℕ) → IsSending w w r r e e k k bytes bytes
sending_starts w r e k bytes = record { front = []; whole = refl; wire = goes_none w; rule = λ s t. ((λ x. x), (λ x. x)); meets = λ m. m; ended = refl; later = omega arith }

pub sending_goes_on : (w0 w n : Option Wire) (r0 r m : List ℕ → List ℕ → Type 0) (e0 e d : Bool) (k0 k j : ℕ) (bytes left rest : List ℕ) (count : ℕ) → IsSending w0 w r0 r e0 e k0 k bytes left → Goes w n (λ w. record w { sent = w.sent ++ take count left }) → SameRule r m → Meets n m → d ≡ e → k ≤ j → rest ≡ drop count left → IsSending w0 n r0 m e0 d k0 j bytes rest
sending_goes_on w0 w n r0 r m e0 e d k0 k j bytes left rest count is goes same meets ended later cut = record {
  front = is.front ++ take count left;
  whole = is.whole ∙ (ap (λ (x : List ℕ). is.front ++ x) (sym (take-append-drop count left)) ∙ (sym (append_assoc is.front (take count left) (drop count left)) ∙ ap (λ (x : List ℕ). (is.front ++ take count left) ++ x) (sym cut)));
  wire = goes_trans w0 w n is.front [] (take count left) [] is.wire (goes_sent w n left count goes);
  rule = λ s t. ((λ x. (same s t).0 ((is.rule s t).0 x)), (λ x. (is.rule s t).1 ((same s t).1 x)));
  meets = λ _. meets;
  ended = ended ∙ is.ended;
  later = omega (arith, is.later, later);
}

pub sending_ends : (w0 w : Option Wire) (r0 r : List ℕ → List ℕ → Type 0) (e0 e : Bool) (k0 k : ℕ) (bytes left : List ℕ) → IsSending w0 w r0 r e0 e k0 k bytes left → length left ≡ 0 → Goes w0 w (carried bytes [])
sending_ends w0 w r0 r e0 e k0 k bytes [] is none =
    let all : bytes ≡ is.front = is.whole ∙ append-nil is.front in
    rw all (is.wire)
sending_ends w0 w r0 r e0 e k0 k bytes (b ∷ left) is none = absurd (omega arith)
