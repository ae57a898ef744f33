-- The streams that the client holds after its calls.
use Rattle.std.proofs.Common.{◌≡◌, ℕ, ◌+◌, ◌*◌, ◌/◌, ◌%◌, Bool, true, false, ◌||◌, List, [], ◌∷◌, ◌++◌, length, get_or, set, refl, ap, ◌∙◌, nat_lt, arith, length-append, length-set, Option, None, Some, Result, Ok, Err, IfOk}
use Rattle.std.proofs.lemmas.Bool.{lt-ltb}
use Rattle.std.proofs.lemmas.List.{get_or-set_same}
use Rattle.rx_hpack.specs.Header.{Field}
use Rattle.rx_h2conn.specs.declared.fault.ConnFault.{ConnFault}
use Rattle.rx_h2conn.specs.declared.stream.Stream.{Stream}
use Rattle.rx_h2conn.specs.Session.{Session}
use Rattle.rx_h2conn.specs.Streams.{fresh, stream_at, IsHeld}
use Rattle.rx_h2conn.specs.Window.{spent}
use Rattle.rx_h2conn.specs.Output.{AnswersAt, ends, charged, sent}
use Rattle.rx_h2conn.specs.Open.{next_id, opened}
use Rattle.rx_h2conn.proofs.SoundLemmas.{open_at}

pub held_sent : (s : Session) (id : ℕ) (piece : List ℕ) (last : Bool) → IsHeld s id false → IsHeld (sent s id piece last) id (ends s id (length piece) last)
unfolding sent
held_sent s id piece last h =
    let t : Stream = record (stream_at s id) { send = spent (stream_at s id).send (charged s id (length piece)); client_done = (stream_at s id).client_done || ends s id (length piece) last } in
    let there : get_or (set s.streams (id / 2) t) (id / 2) fresh ≡ t = get_or-set_same s.streams (id / 2) t fresh (open_at s id h.opened) in
    let going = h.done in
    record {
      opened = rw (length-set s.streams (id / 2) t) h.opened;
      kept = ap (λ (x : Stream). x.client_reset) there ∙ h.kept;
      done = ap (λ (x : Stream). x.client_done) there ∙ rw going refl;
    }

-- the last of a list
pub get_or_last : (xs : List Stream) (t d : Stream) → get_or (xs ++ t ∷ []) (length xs) d ≡ t
get_or_last [] t d = refl
get_or_last (x ∷ xs) t d = get_or_last xs t d

pub held_opened : (s : Session) (fields : List Field) (last : Bool) → IsHeld (opened s fields last) (next_id s) last
unfolding opened
held_opened s fields last =
    let n = length s.streams in
    let t : Stream = record fresh { client_done = last } in
    let odd : (n * 2 + 1) % 2 ≡ 1 = omega arith in
    let place : (n * 2 + 1) / 2 ≡ n = omega arith in
    let there : get_or (s.streams ++ t ∷ []) ((n * 2 + 1) / 2) fresh ≡ t = rw place (get_or_last s.streams t fresh) in
    let small : nat_lt ((n * 2 + 1) / 2) (length (s.streams ++ t ∷ [])) ≡ true = lt-ltb _ _ (omega (arith, place, length-append s.streams (t ∷ []))) in
    record {
      opened = rw (odd, small) refl;
      kept = ap (λ (x : Stream). x.client_reset) there;
      done = ap (λ (x : Stream). x.client_done) there;
    }

-- where the call is answered, the stream is held
pub held_answered : (o : Option ConnFault) (old want new : Session) (value : ℕ) (r : Result ℕ ConnFault) (id : ℕ → ℕ) (done : ℕ → Bool) → AnswersAt o old want value new r → (o ≡ None → IsHeld want (id value) (done value)) → IfOk r (λ n. IsHeld new (id n) (done n))
held_answered (Some e) old want new value r id done d h = let err = d.1 in rw err tt
held_answered None old want new value (Ok n) id done d h = let (is, same) = d in rw (is, same) (h refl)
held_answered None old want new value (Err e) id done d h = tt
