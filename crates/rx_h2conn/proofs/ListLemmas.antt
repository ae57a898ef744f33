-- Streams in a list, and fronts of lists.
use Rattle.std.proofs.Common.{◌≡◌, ℕ, ◌<◌, Bool, true, false, cond, zero, suc, List, [], ◌∷◌, ◌++◌, length, get_or, set, refl, sym, ap, ◌∙◌, arith, append_assoc, append-nil}
-- std's lemmas on tests by other names
pub use Rattle.std.proofs.lemmas.Bool.{or_parts as or_false, and_parts as and_true, not-true as not_true}
use Rattle.rx_h2conn.specs.declared.stream.Stream.{Stream}
use Rattle.rx_h2conn.specs.State.{Extends}

-- what holds at each place, where one of them is written
pub each_set : (none : Stream) (P : ℕ → Stream → Type 0) (xs : List Stream) (i : ℕ) (t : Stream) → i < length xs → ((k : ℕ) → (k ≡ i → ⊥) → P k (get_or xs k none)) → P i t → (k : ℕ) → P k (get_or (set xs i t) k none)
each_set none P [] i t small h p k = absurd (omega arith)
each_set none P (x ∷ xs) zero t small h p zero = p
each_set none P (x ∷ xs) zero t small h p (suc k) = h (suc k) (λ e. absurd (omega (arith, e)))
each_set none P (x ∷ xs) (suc i) t small h p zero = h zero (λ e. absurd (omega (arith, e)))
each_set none P (x ∷ xs) (suc i) t small h p (suc k) = each_set none (λ n. P (suc n)) xs i t (omega arith) (λ n other. h (suc n) (λ e. other (omega (arith, e)))) p k

-- what holds beside the old list, where one of them is written or the place isn't there
pub each_beside : (none : Stream) (P : ℕ → Stream → Stream → Type 0) → ((k : ℕ) (t : Stream) → P k t t) → (xs : List Stream) (i : ℕ) (t : Stream) → P i (get_or xs i none) t → (k : ℕ) → P k (get_or xs k none) (get_or (set xs i t) k none)
each_beside none P same [] i t p k = same k none
each_beside none P same (x ∷ xs) zero t p zero = p
each_beside none P same (x ∷ xs) zero t p (suc k) = same (suc k) (get_or xs k none)
each_beside none P same (x ∷ xs) (suc i) t p zero = same zero x
each_beside none P same (x ∷ xs) (suc i) t p (suc k) = each_beside none (λ n. P (suc n)) (λ n. same (suc n)) xs i t p k

-- in range the default doesn't count
pub get_or_within : (a b : Stream) (xs : List Stream) (k : ℕ) → k < length xs → get_or xs k a ≡ get_or xs k b
get_or_within a b [] k small = absurd (omega arith)
get_or_within a b (x ∷ xs) zero small = refl
get_or_within a b (x ∷ xs) (suc k) small = get_or_within a b xs k (omega arith)

-- what holds of both arms holds of the choice
pub either : {A : Type 0} (P : A → Type 0) (b : Bool) (x y : A) → (b ≡ true → P x) → (b ≡ false → P y) → P (cond b x y)
either P true x y p q = p refl
either P false x y p q = q refl

pub extends_same : {A : Type 0} (a : List A) → Extends a a
extends_same a = ([], sym (append-nil a))

pub extends_by : {A : Type 0} (a b more : List A) → b ≡ a ++ more → Extends a b
extends_by a b more e = (more, e)

pub extends_trans : {A : Type 0} (a b c : List A) → Extends a b → Extends b c → Extends a c
extends_trans {A} a b c p q = (p.0 ++ q.0, q.1 ∙ (ap (λ (x : List A). x ++ q.0) p.1 ∙ append_assoc a p.0 q.0))
