-- Bytes with which a Cancel frame begins.
use Rattle.std.proofs.Common.{◌≡◌, ℕ, ◌+◌, ◌-◌, ◌≤◌, true, List, [], ◌∷◌, ◌++◌, append-nil, nat_eq, length, take, drop, refl, sym, ap, ◌∙◌, arith, length-append, subst}
use Rattle.std.proofs.Math.Seq.{take-append_seam}
use Rattle.std.proofs.lemmas.List.{take-append-drop}
use Rattle.std.specs.List.{starts_with}
use Rattle.rx_base.proofs.FrontOrder.{started, starts}
use Rattle.rx_session.specs.Cancels.{IsFront, IsReadOn, cancel_frame, cancel_length}

pub front_tested : (read : List ℕ) → starts_with nat_eq cancel_frame read ≡ true → IsFront read
front_tested read h = ap (take (length read)) (started cancel_frame read h) ∙ take-append_seam read (drop (length read) cancel_frame)

pub front_passes : (read : List ℕ) → IsFront read → starts_with nat_eq cancel_frame read ≡ true
front_passes read h =
    let rest = drop (length read) cancel_frame in
    starts cancel_frame read rest (sym (take-append-drop (length read) cancel_frame) ∙ ap (λ (x : List ℕ). x ++ rest) h)

-- nothing is read yet
pub read_starts : (read : List ℕ) → read ≡ [] → IsReadOn read
read_starts read e = rw e refl

before_last : (old : List ℕ) (b : ℕ) → take (length (old ++ b ∷ []) - 1) (old ++ b ∷ []) ≡ old
before_last old b =
    let size : length (old ++ b ∷ []) - 1 ≡ length old = omega (arith, length-append old (b ∷ [])) in
    ap (λ (n : ℕ). take n (old ++ b ∷ [])) size ∙ take-append_seam old (b ∷ [])

-- at most a byte is read behind a front of the frame
pub read_more : (old new bytes : List ℕ) → IsReadOn old → IsFront old → new ≡ old ++ bytes → length new ≤ length old + 1 → IsReadOn new
read_more old new [] r front e le = subst IsReadOn (sym (e ∙ append-nil old)) r
read_more old new (b ∷ []) r front e le = rw (e, before_last old b) front
read_more old new (b ∷ c ∷ rest) r front e le = absurd (omega (arith, le, ap length e, length-append old (b ∷ c ∷ rest)))

-- a front that is as long as the frame is the frame
pub front_whole : (read : List ℕ) → IsFront read → length read ≤ cancel_length → cancel_length ≤ length read → read ≡ cancel_frame
front_whole read front few le =
    let size : length read ≡ 5 = omega (arith, le, few) in
    sym (rw size at front)
