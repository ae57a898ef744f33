-- What is found by each number once an action was put in or changed: that action there, and what was found before elsewhere.
use Rattle.std.proofs.Common.{◌≡◌, ◌∙◌, ℕ, Option, Some, ap, inl, inr, refl, subst, sym}
use Rattle.std.specs.Prelude.{◌==◌, if◌then◌else◌, option_map}
use Rattle.std.proofs.lemmas.Bool.{cases_eq, eq-eqb, ne_eqb}
use Rattle.rx_core.specs.Actions.{Action}
use Rattle.rx_core.specs.States.{State, with_action, with_change}

-- ---- a list by numbers that is new at n alone

module _ {A : Type 0} (n : ℕ) (new old : ℕ → A) where
  at-here : (if n == n then new n else old n) ≡ new n
  at-here = ap (λ b. if b then new n else old n) (eq-eqb n n refl)

  at-other : (m : ℕ) → (m ≡ n → ⊥) → (if m == n then new m else old m) ≡ old m
  at-other m not = ap (λ b. if b then new m else old m) (ne_eqb m n not)

  -- what holds of the new one at n, and of the old ones elsewhere, holds at each number
  at-each : (P : ℕ → A → Type 0) → P n (new n) → ((m : ℕ) → (m ≡ n → ⊥) → P m (old m))
      → (m : ℕ) → P m (if m == n then new m else old m)
  at-each P here others m = elim (cases_eq m n) [
    | inl same ↦ subst (λ k. P k (if k == n then new k else old k)) (sym same) (subst (P n) (sym at-here) here)
    | inr not ↦ subst (P m) (sym (at-other m not)) (others m not)
  ]

-- ---- the actions of a state

module _ {H : Type 0} (state : State H) (n : ℕ) (a : Action H) where
  pub added-here : (with_action n a state).actions n ≡ Some a
  added-here = at-here n (λ m. Some a) state.actions

  pub added-other : (m : ℕ) → (m ≡ n → ⊥) → (with_action n a state).actions m ≡ state.actions m
  added-other m not = at-other n (λ m. Some a) state.actions m not

  pub added-each : (P : ℕ → Option (Action H) → Type 0) → P n (Some a)
      → ((m : ℕ) → (m ≡ n → ⊥) → P m (state.actions m)) → (m : ℕ) → P m ((with_action n a state).actions m)
  added-each P here others m = at-each n (λ m. Some a) state.actions P here others m

module _ {H : Type 0} (state : State H) (n : ℕ) (a : Action H) (f : Action H → Action H) (there : state.actions n ≡ Some a) where
  pub changed-here : (with_change n f state).actions n ≡ Some (f a)
  changed-here = at-here n (λ m. option_map f (state.actions m)) state.actions ∙ ap (option_map f) there

  pub changed-other : (m : ℕ) → (m ≡ n → ⊥) → (with_change n f state).actions m ≡ state.actions m
  changed-other m not = at-other n (λ m. option_map f (state.actions m)) state.actions m not

  pub changed-each : (P : ℕ → Option (Action H) → Type 0) → P n (Some (f a))
      → ((m : ℕ) → (m ≡ n → ⊥) → P m (state.actions m)) → (m : ℕ) → P m ((with_change n f state).actions m)
  changed-each P here others m =
      at-each n (λ m. option_map f (state.actions m)) state.actions P
      (subst (P n) (sym (ap (option_map f) there)) here) others m
