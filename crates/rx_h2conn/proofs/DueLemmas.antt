-- No credit is due before the first stream that may have some.
use Rattle.std.proofs.Common.{◌≡◌, ℕ, ◌+◌, ◌-◌, ◌*◌, ◌<◌, ◌≤◌, zero, suc, true, false, cond, List, [], ◌∷◌, ◌++◌, length, get_or, set, map, drop, refl, sym, ap, ◌∙◌, arith, add-one}
use Rattle.std.proofs.lemmas.Bool.Decides.{nat_tests}
use Rattle.std.proofs.lemmas.List.{get_or-drop, drop-set-lt, drop-drop}
use Rattle.std.proofs.Math.Seq.{map-set_same}
use Rattle.rx_h2conn.specs.declared.stream.Stream.{Stream}
use Rattle.rx_h2conn.specs.Credit.{due, stream_due}
use Rattle.rx_h2conn.specs.Due.{IsDueFrom}
use Rattle.rx_h2conn.specs.Output.{told, stream_credits}

pub due_few : (k : ℕ) (ts : List Stream) → IsDueFrom k ts → k ≤ length ts
due_few zero ts h = omega arith
due_few (suc k) [] h = absurd h
due_few (suc k) (t ∷ ts) h = omega (arith, due_few k ts h.1)

pub due_less : (j k : ℕ) (ts : List Stream) → j ≤ k → IsDueFrom k ts → IsDueFrom j ts
due_less zero k ts few h = tt
due_less (suc j) zero ts few h = absurd (omega (arith, few))
due_less (suc j) (suc k) [] few h = h
due_less (suc j) (suc k) (t ∷ ts) few h = (h.0, due_less j k ts (omega (arith, few)) h.1)

-- a stream is written behind the others, or has no credit that is due
pub due_above : (k i : ℕ) (ts : List Stream) (t : Stream) → k ≤ i → IsDueFrom k ts → IsDueFrom k (set ts i t)
due_above zero i ts t few h = tt
due_above (suc k) i [] t few h = h
due_above (suc k) zero (x ∷ ts) t few h = absurd (omega (arith, few))
due_above (suc k) (suc i) (x ∷ ts) t few h = (h.0, due_above k i ts t (omega (arith, few)) h.1)

pub due_quiet : (k i : ℕ) (ts : List Stream) (t : Stream) → stream_due t ≡ 0 → IsDueFrom k ts → IsDueFrom k (set ts i t)
due_quiet zero i ts t none h = tt
due_quiet (suc k) i [] t none h = h
due_quiet (suc k) zero (x ∷ ts) t none h = (none, h.1)
due_quiet (suc k) (suc i) (x ∷ ts) t none h = (h.0, due_quiet k i ts t none h.1)

pub due_pushed : (k : ℕ) (ts : List Stream) (t : Stream) → IsDueFrom k ts → IsDueFrom k (ts ++ t ∷ [])
due_pushed zero ts t h = tt
due_pushed (suc k) [] t h = absurd h
due_pushed (suc k) (x ∷ ts) t h = (h.0, due_pushed k ts t h.1)

-- one stream more was told
pub due_next : (k : ℕ) (ts : List Stream) (t : Stream) → k < length ts → stream_due t ≡ 0 → IsDueFrom k ts → IsDueFrom (suc k) (set ts k t)
due_next zero [] t small none h = absurd (omega arith)
due_next zero (x ∷ ts) t small none h = (none, tt)
due_next (suc k) [] t small none h = absurd h
due_next (suc k) (x ∷ ts) t small none h = (h.0, due_next k ts t (omega arith) none h.1)

-- the frames of credit are those of the streams from there on
pub due_credits : (k id : ℕ) (ts : List Stream) → IsDueFrom k ts → stream_credits (k * 2 + id) (drop k ts) ≡ stream_credits id ts
due_credits zero id ts h = let place : 0 * 2 + id ≡ id = omega arith in ap (λ (n : ℕ). stream_credits n ts) place
due_credits (suc k) id [] h = absurd h
due_credits (suc k) id (t ∷ ts) h =
    let place : suc k * 2 + id ≡ k * 2 + (id + 2) = omega arith in
    let none = h.0 in
    rw none (ap (λ (n : ℕ). stream_credits n (drop k ts)) place ∙ due_credits k (id + 2) ts h.1)

-- a stream that has no credit that is due is as it was once that was told
pub told_quiet : (t : Stream) → stream_due t ≡ 0 → told t ≡ t
told_quiet t none =
    let e : t.receive + stream_due t ≡ t.receive = omega (arith, none) in
    let g : t.owed - stream_due t ≡ t.owed = omega (arith, none) in
    rw (e, g) refl

pub told_all : (ts : List Stream) → IsDueFrom (length ts) ts → map told ts ≡ ts
told_all [] h = refl
told_all (t ∷ ts) h = let e = told_quiet t h.0 in rw e (ap (λ (xs : List Stream). t ∷ xs) (told_all ts h.1))

-- what was told isn't due again
pub due_left : (n : ℕ) → due (n - due n) ≡ 0
due_left n = grind (arith, nat_tests)

pub due_told : (t : Stream) → stream_due (told t) ≡ 0
due_told t =
    elim t.server_done as (λ b. cond b 0 (due (t.owed - cond b 0 (due t.owed))) ≡ 0) [
      | true ↦ refl
      | false ↦ due_left t.owed
    ]

pub told_twice : (t : Stream) → told (told t) ≡ told t
told_twice t = told_quiet (told t) (due_told t)

-- the streams before i were told
pub record IsTelling (start now : List Stream) (i : ℕ) : Type 0 where
  pub same : map told now ≡ map told start
  pub due : IsDueFrom i now
  pub rest : drop i now ≡ drop i start

pub telling_goes_on : (start now : List Stream) (i : ℕ) (t d : Stream) → IsTelling start now i → i < length now → t ≡ told (get_or now i d) → IsTelling start (set now i t) (i + 1)
telling_goes_on start now i t d h small is = record {
  same = map-set_same told now i t d (ap told is ∙ told_twice (get_or now i d)) ∙ h.same;
  due = rw (add-one i) (due_next i now t small (ap stream_due is ∙ due_told (get_or now i d)) h.due);
  rest = drop-set-lt (i + 1) now i t (omega arith) ∙ (sym (drop-drop 1 i now) ∙ (ap (drop 1) h.rest ∙ drop-drop 1 i start));
}

pub telling_rest : (start now : List Stream) (i : ℕ) (d : Stream) → IsTelling start now i → get_or now i d ≡ get_or start i d
telling_rest start now i d h =
    let place : i + 0 ≡ i = omega arith in
    rw place at (sym (get_or-drop i now 0 d) ∙ (ap (λ (xs : List Stream). get_or xs 0 d) h.rest ∙ get_or-drop i start 0 d))

pub telling_ends : (start now : List Stream) (i : ℕ) → IsTelling start now i → length now ≤ i → (now ≡ map told start) × IsDueFrom (length now) now
telling_ends start now i h all =
    let due = due_less (length now) i now all h.due in
    (sym (told_all now due) ∙ h.same, due)
