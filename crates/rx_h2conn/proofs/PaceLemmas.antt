-- Credit is whole again once the events and the output were taken.
use Rattle.std.proofs.Common.{◌≡◌, ℕ, ◌+◌, ◌/◌, ◌<◌, ◌≤◌, inl, inr, Bool, true, false, cond, not, ◌&&◌, ◌||◌, List, [], ◌∷◌, length, drop, get_or, length-set, length-drop, refl, sym, subst, ◌∙◌, nat_eq, nat_lt, arith, None, Some, Result, Ok, Err}
use Rattle.std.proofs.lemmas.Bool.{eqb-true, ltb-true, ltb-false, or_parts, and_parts}
use Rattle.std.proofs.lemmas.Bool.Decides.{nat_tests}
use Rattle.rx_h2frame.specs.declared.frame.FrameFault.{FrameFault}
use Rattle.rx_h2frame.specs.declared.frame.FrameFault.TheVariants.{FrameSize}
use Rattle.rx_h2frame.specs.Head.{Header, header_of, is_wrong_size, pad_length_size, priority_size, fits_kind}
use Rattle.rx_h2frame.specs.Frame.{Seen, Complete, Lacks, payload_of, next}
use Rattle.rx_h2frame.proofs.NextLemmas.{next_long, payload_count}
use Rattle.rx_h2conn.specs.declared.stream.Stream.{Stream}
use Rattle.rx_h2conn.specs.Session.{Session, Reading, Queued}
use Rattle.rx_h2conn.specs.Streams.{fresh, is_open, stream_at, is_dropped}
use Rattle.rx_h2conn.specs.Sound.{credits, waiting}
use Rattle.rx_h2conn.specs.Data.{owe, owing}
use Rattle.rx_h2conn.specs.Steps.{code_of, judged, settled, more, byte, fed, handed}
use Rattle.rx_h2conn.proofs.ListLemmas.{each_set, either}
use Rattle.rx_h2conn.proofs.SoundLemmas.{open_at}
use Rattle.rx_h2conn.proofs.FedLemmas.{byte_ready, byte_failed}
use Rattle.rx_h2conn.proofs.UsesLemmas.{AllOwned, IsOwned, IsFull, full_by, uses_failed}
use Rattle.rx_h2conn.proofs.UsesFrameLemmas.{uses_by}

-- the front of a frame is shorter than the longest frame
pub wrong_size : (largest : ℕ) (h : Header) (p : List ℕ) → is_wrong_size largest h ≡ true → payload_of largest h p ≡ Err FrameSize
unfolding payload_of
wrong_size largest h p e = rw e refl

pub lacks_size : (rest : List ℕ) (n : ℕ) → next 16384 rest ≡ Ok (Lacks n) → length rest ≤ 16392
lacks_size rest n e =
    elim (nat_lt (length rest) 9) as (λ b. nat_lt (length rest) 9 ≡ b → length rest ≤ 16392) [
      | true ↦ λ is. let short : length rest < 9 = ltb-true _ _ is in omega (arith, short)
      | false ↦ λ is.
          let long : 9 ≤ length rest = ltb-false _ _ is in
          let h = header_of rest in
          let payload : payload_of 16384 h (drop 9 rest) ≡ Ok (Lacks n) = sym (next_long 16384 rest long) ∙ e in
          let count = payload_count 16384 h (drop 9 rest) n payload in
          elim (is_wrong_size 16384 h) as (λ b. is_wrong_size 16384 h ≡ b → length rest ≤ 16392) [
            | true ↦ λ bad. let no : Err FrameSize ≡ Ok (Lacks n) = sym (wrong_size 16384 h (drop 9 rest) bad) ∙ payload in absurd cc
            | false ↦ λ fine.
                let first = (or_parts (nat_lt 16384 h.size || nat_lt h.size (pad_length_size h + priority_size h)) (not (fits_kind h.kind h.flags h.size)) fine).0 in
                let small : h.size ≤ 16384 = ltb-false _ _ (or_parts (nat_lt 16384 h.size) (nat_lt h.size (pad_length_size h + priority_size h)) first).0 in
                let sum = count.0 in let some = count.1 in
                omega (arith, long, small, sum, some, length-drop 9 rest)
          ] refl
    ] refl

-- credit is kept and the front is short
pub record IsWhole (r : Reading) : Type 0 where
  pub full : IsFull r.state
  pub rest : length r.rest ≤ 16392

pub whole_judged : (x : Result Seen FrameFault) (r : Reading) → IsFull r.state → next 16384 r.rest ≡ x → IsWhole (judged r x)
whole_judged (Err e) r f is = record { full = full_by 0 r.state _ (uses_failed 0 r.state (code_of e)) f; rest = omega arith }
whole_judged (Ok (Lacks n)) r f is = record { full = f; rest = lacks_size r.rest n is }
whole_judged (Ok (Complete w)) r f is = record { full = full_by w.size r.state _ (uses_by w.kind r.state w) f; rest = omega arith }

pub whole_settled : (r : Reading) → IsFull r.state → IsWhole (settled r)
unfolding settled
whole_settled r f = whole_judged (next 16384 r.rest) r f refl

pub whole_byte : (r : Reading) (b : ℕ) → IsWhole r → IsWhole (byte r b)
whole_byte r b w =
    elim r.state.fault as (λ o. r.state.fault ≡ o → IsWhole (byte r b)) [
      | None ↦ λ is. subst IsWhole (sym (byte_ready r b is)) (whole_settled (more r (b ∷ [])) w.full)
      | Some e ↦ λ is. subst IsWhole (sym (byte_failed r e b is)) w
    ] refl

pub whole_fed : (p : List ℕ) (r : Reading) → IsWhole r → IsWhole (fed r p)
whole_fed [] r w = w
whole_fed (b ∷ p) r w = whole_fed p (byte r b) (whole_byte r b w)

-- an event is handed out
pub owned_same : (n m : ℕ) (qs : List Queued) → m ≡ n → AllOwned n qs → AllOwned m qs
owned_same n m qs e h = rw e h

pub left_credit : (c : ℕ) (b : Bool) (n : ℕ) → c ≡ 0 → cond b c 0 + n ≤ n
left_credit c true n e = omega (arith, e)
left_credit c false n e = omega arith

pub no_reset : (a b : Bool) → a ≡ true → (a && not b) ≡ false → b ≡ true
no_reset true true h k = refl
no_reset true false h k = absurd cc
no_reset false b h k = absurd cc

-- the credit of an event that isn't owed on its stream isn't missed there
pub not_owed : (s : Session) (q : Queued) (k : ℕ) → is_dropped (get_or s.streams k fresh) ≡ false → IsOwned (length s.streams) q → (is_open s q.stream && not (stream_at s q.stream).client_reset) ≡ false → cond (nat_eq (q.stream / 2) k) q.credit 0 ≡ 0
not_owed s q k kept (inr none) b = elim (nat_eq (q.stream / 2) k) as (λ x. cond x q.credit 0 ≡ 0) [ true ↦ none | false ↦ refl ]
not_owed s q k kept (inl is) b =
    let given : (stream_at s q.stream).client_reset ≡ true = no_reset (is_open s q.stream) (stream_at s q.stream).client_reset is b in
    elim (nat_eq (q.stream / 2) k) as (λ x. nat_eq (q.stream / 2) k ≡ x → cond x q.credit 0 ≡ 0) [
      | true ↦ λ e.
          let same : q.stream / 2 ≡ k = eqb-true _ _ e in
          let here : (get_or s.streams k fresh).client_reset ≡ true = subst (λ (j : ℕ). (get_or s.streams j fresh).client_reset ≡ true) same given in
          let no : true ≡ false = sym (rw here refl) ∙ kept in
          absurd cc
      | false ↦ λ e. refl
    ] refl

pub full_handed : (qs : List Queued) (s : Session) → s.events ≡ qs → IsFull s → IsFull (handed s qs)
unfolding owe
full_handed [] s is f = f
full_handed (q ∷ qs) s is f =
    let i = q.stream / 2 in
    let all : 16777216 ≤ s.receive + s.owed + credits (q ∷ qs) = subst (λ (x : List Queued). 16777216 ≤ s.receive + s.owed + credits x) is f.connection in
    let each : (k : ℕ) → is_dropped (get_or s.streams k fresh) ≡ false → 16777216 ≤ (get_or s.streams k fresh).receive + (get_or s.streams k fresh).owed + waiting k (q ∷ qs) =
    λ k kept. subst (λ (x : List Queued). 16777216 ≤ (get_or s.streams k fresh).receive + (get_or s.streams k fresh).owed + waiting k x) is (f.stream k kept) in
    let owned : AllOwned (length s.streams) (q ∷ qs) = subst (AllOwned (length s.streams)) is f.owners in
    let t : Stream = owing (stream_at s q.stream) q.credit in
    either IsFull (is_open (record s { events = qs }) q.stream && not (stream_at s q.stream).client_reset) _ _
    (λ b.
    let small = open_at s q.stream (and_parts _ _ b).0 in
    record {
      connection = omega (arith, all);
      blank = λ none. f.blank (omega (arith, none, length-set s.streams i t));
      stream = each_set fresh (λ k x. is_dropped x ≡ false → 16777216 ≤ x.receive + x.owed + waiting k qs) s.streams i t small
          (λ k other kept. let was = each k kept in grind (arith, nat_tests))
          (λ kept. let was = each i kept in grind (arith, nat_tests));
      owners = owned_same (length s.streams) _ qs (length-set s.streams i t) owned.1;
    })
    (λ b. record {
      connection = omega (arith, all);
      blank = f.blank;
      stream = λ k kept. let was = each k kept in let less = not_owed s q k kept owned.0 b in omega (arith, was, less);
      owners = owned.1;
    })
