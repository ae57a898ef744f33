-- A piece of 8,192 bytes passes no window whose credit was told.
use Rattle.std.proofs.Common.{◌≡◌, ℕ, ◌+◌, ◌-◌, ◌*◌, ◌/◌, ◌<◌, ◌≤◌, ◌⊎◌, inl, inr, true, false, not, ◌&&◌, List, [], ◌∷◌, ◌++◌, length, drop, get_or, refl, sym, ap, subst, ◌∙◌, nat_lt, arith, length-append, length-drop, None, Some, Result, Ok, Err}
use Rattle.std.proofs.Math.Bool.{and-false}
use Rattle.std.proofs.lemmas.Bool.{ltb-true, ltb-false, lt-ltb, le-ltb}
use Rattle.std.proofs.lemmas.List.{get_or_past}
use Rattle.rx_h2frame.specs.declared.frame.FrameFault.{FrameFault}
use Rattle.rx_h2frame.specs.Head.{header_of}
use Rattle.rx_h2frame.specs.Frame.{Whole, Seen, Complete, Lacks, next}
use Rattle.rx_h2frame.proofs.NextLemmas.{next_long, next_short, payload_complete}
use Rattle.rx_h2conn.specs.Session.{Session, Reading}
use Rattle.rx_h2conn.specs.Streams.{fresh, is_open, stream_at, is_dropped}
use Rattle.rx_h2conn.specs.Data.{passes_window}
use Rattle.rx_h2conn.specs.Ping.{is_flooded}
use Rattle.rx_h2conn.specs.Steps.{judged, settled, more, byte}
use Rattle.rx_h2conn.proofs.FedLemmas.{byte_ready, byte_failed}
use Rattle.rx_h2conn.specs.Paced.{Fits, AllFit, IsRestored}
use Rattle.rx_h2conn.proofs.UsesFrameLemmas.{uses_by}

-- a whole frame has its header and its payload
pub complete_size : (rest : List ℕ) (f : Whole) → next 16384 rest ≡ Ok (Complete f) → f.size + 9 ≤ length rest
complete_size rest f e =
    elim (nat_lt (length rest) 9) as (λ b. nat_lt (length rest) 9 ≡ b → f.size + 9 ≤ length rest) [
      | true ↦ λ is. let no : Ok (Lacks (9 - length rest)) ≡ Ok (Complete f) = sym (next_short 16384 rest (ltb-true _ _ is)) ∙ e in absurd cc
      | false ↦ λ is.
          let long : 9 ≤ length rest = ltb-false _ _ is in
          let k = payload_complete 16384 (header_of rest) (drop 9 rest) f (sym (next_long 16384 rest long) ∙ e) in
          let size : (header_of rest).size ≡ f.size = ap (λ (w : Whole). w.size) k.same in
          let there : (header_of rest).size ≤ length (drop 9 rest) = ltb-false _ _ k.all in
          omega (arith, long, size, there, length-drop 9 rest)
    ] refl

-- so many bytes of the piece are left, and there is room for what they can end
pub record HasRoom (r : Reading) (p : ℕ) : Type 0 where
  pub receive : p + length r.rest ≤ r.state.receive
  pub stream : (k : ℕ) → is_dropped (get_or r.state.streams k fresh) ≡ false → p + length r.rest ≤ (get_or r.state.streams k fresh).receive
  pub acks : ((r.state.acks ≡ 0) × (p ≤ 8192)) ⊎ (9 * r.state.acks + p + length r.rest ≤ 9216)

pub fits_window : (s : Session) (f : Whole) → f.size ≤ s.receive → (is_dropped (stream_at s f.stream) ≡ false → f.size ≤ (stream_at s f.stream).receive) → passes_window s f ≡ false
fits_window s f room stream =
    let first : nat_lt s.receive f.size ≡ false = le-ltb _ _ room in
    rw first (elim (is_dropped (stream_at s f.stream)) as (λ b. is_dropped (stream_at s f.stream) ≡ b → ((is_open s f.stream && not b) && nat_lt (stream_at s f.stream).receive f.size) ≡ false) [
      | true ↦ λ is. rw and-false refl
      | false ↦ λ is. let fits : nat_lt (stream_at s f.stream).receive f.size ≡ false = le-ltb _ _ (stream is) in rw fits (and-false _)
    ] refl)

pub fits_acks : (s : Session) → s.acks < 1024 → is_flooded s ≡ false
fits_acks s few = rw (lt-ltb s.acks 1024 few) refl

pub few_acks : (r : Reading) (p : ℕ) → HasRoom r (p + 1) → r.state.acks < 1024
few_acks r p h = elim h.acks [ inl x ↦ let none = x.0 in omega (arith, none) | inr x ↦ omega (arith, x) ]

pub fits_here : (r : Reading) (p b : ℕ) (f : Whole) → HasRoom r (p + 1) → next 16384 (r.rest ++ b ∷ []) ≡ Ok (Complete f) → Fits r.state f
fits_here r p b f h is =
    let size = complete_size (r.rest ++ b ∷ []) f is in
    let grown = length-append r.rest (b ∷ []) in
    record {
      window = fits_window r.state f (omega (arith, h.receive, size, grown)) (λ kept. omega (arith, h.stream (f.stream / 2) kept, size, grown));
      acks = fits_acks r.state (few_acks r p h);
    }

-- one byte more
pub room_judged : (x : Result Seen FrameFault) (r : Reading) (p b : ℕ) → HasRoom r (p + 1) → next 16384 (r.rest ++ b ∷ []) ≡ x → HasRoom (judged (more r (b ∷ [])) x) p
room_judged (Err e) r p b h is = record {
  receive = omega (arith, h.receive);
  stream = λ k kept. omega (arith, h.stream k kept);
  acks = elim h.acks [ inl y ↦ let none = y.0 in let few = y.1 in inl (none, omega (arith, few)) | inr y ↦ inr (omega (arith, y)) ];
}
room_judged (Ok (Lacks n)) r p b h is =
    let grown = length-append r.rest (b ∷ []) in
    record {
      receive = omega (arith, h.receive, grown);
      stream = λ k kept. omega (arith, h.stream k kept, grown);
      acks = elim h.acks [ inl y ↦ let none = y.0 in let few = y.1 in inl (none, omega (arith, few)) | inr y ↦ inr (omega (arith, y, grown)) ];
    }
room_judged (Ok (Complete f)) r p b h is =
    let grown = length-append r.rest (b ∷ []) in
    let size = complete_size (r.rest ++ b ∷ []) f is in
    let u = uses_by f.kind r.state f in
    record {
      receive = omega (arith, h.receive, grown, size, u.receive);
      stream = λ k kept. let at = u.stream k in omega (arith, h.stream k (at.dropped kept), at.receive, grown, size);
      acks = elim h.acks [ inl y ↦ let none = y.0 in let few = y.1 in inr (omega (arith, none, few, u.acks)) | inr y ↦ inr (omega (arith, y, u.acks, grown, size)) ];
    }

pub room_less : (r : Reading) (p : ℕ) → HasRoom r (p + 1) → HasRoom r p
room_less r p h = record {
  receive = omega (arith, h.receive);
  stream = λ k kept. omega (arith, h.stream k kept);
  acks = elim h.acks [ inl y ↦ let none = y.0 in let few = y.1 in inl (none, omega (arith, few)) | inr y ↦ inr (omega (arith, y)) ];
}

pub room_settled : (r : Reading) (p b : ℕ) → HasRoom r (p + 1) → HasRoom (settled (more r (b ∷ []))) p
unfolding settled
room_settled r p b h = room_judged (next 16384 (r.rest ++ b ∷ [])) r p b h refl

pub room_byte : (r : Reading) (p b : ℕ) → HasRoom r (p + 1) → HasRoom (byte r b) p
room_byte r p b h =
    elim r.state.fault as (λ o. r.state.fault ≡ o → HasRoom (byte r b) p) [
      | None ↦ λ is. subst (λ (x : Reading). HasRoom x p) (sym (byte_ready r b is)) (room_settled r p b h)
      | Some e ↦ λ is. subst (λ (x : Reading). HasRoom x p) (sym (byte_failed r e b is)) (room_less r p h)
    ] refl

pub all_fit : (piece : List ℕ) (r : Reading) → HasRoom r (length piece) → AllFit r piece
all_fit [] r h = tt
all_fit (b ∷ piece) r h =
    let one : HasRoom r (length piece + 1) = subst (λ (n : ℕ). HasRoom r n) (omega arith) h in
    ((λ f none is. fits_here r (length piece) b f one is), all_fit piece (byte r b) (room_byte r (length piece) b one))

-- a stream that isn't there has the window of a new one
pub stream_room : (r : Reading) → IsRestored r → (k : ℕ) → is_dropped (get_or r.state.streams k fresh) ≡ false → 1048576 ≤ (get_or r.state.streams k fresh).receive
stream_room r h k kept =
    elim (nat_lt k (length r.state.streams)) as (λ b. nat_lt k (length r.state.streams) ≡ b → 1048576 ≤ (get_or r.state.streams k fresh).receive) [
      | true ↦ λ is. omega (arith, h.streams k (ltb-true _ _ is) kept)
      | false ↦ λ is. rw (get_or_past r.state.streams k fresh (ltb-false _ _ is)) (omega arith)
    ] refl

pub restored_fits : (r : Reading) (piece : List ℕ) → IsRestored r → length piece ≤ 8192 → AllFit r piece
restored_fits r piece h few = all_fit piece r (record {
  receive = omega (arith, h.first, h.rest, few);
  stream = λ k kept. omega (arith, stream_room r h k kept, h.rest, few);
  acks = inl (h.acks, few);
})
