-- What stays of a link while it is used, call by call.
use Rattle.std.proofs.Common.{◌≡◌, ◌≤◌, ◌∙◌, ℕ, Bool, List, arith, refl}
use Rattle.rx_world.specs.Links.{SameRule}

-- the rule is the same, and the count of faults didn't fall
pub record IsUsed (r0 r : List ℕ → List ℕ → Type 0) (k0 k : ℕ) : Type 0 where
  pub rule : SameRule r0 r
  pub later : k0 ≤ k

-- and the other side hasn't ended it meanwhile
pub record IsSending (r0 r : List ℕ → List ℕ → Type 0) (k0 k : ℕ) (e0 e : Bool) : Type 0 where
  pub used : IsUsed r0 r k0 k
  pub ended : e ≡ e0

pub used_starts : (r : List ℕ → List ℕ → Type 0) (k : ℕ) → IsUsed r r k k
used_starts r k = record { rule = λ s t. ((λ x. x), (λ x. x)); later = omega arith }

pub used_goes_on : (r0 r m : List ℕ → List ℕ → Type 0) (k0 k j : ℕ) → IsUsed r0 r k0 k → SameRule r m → k ≤ j → IsUsed r0 m k0 j
used_goes_on r0 r m k0 k j is same later = record {
  rule = λ s t. ((λ x. (same s t).0 ((is.rule s t).0 x)), (λ x. (is.rule s t).1 ((same s t).1 x)));
  later = omega (arith, is.later, later);
}

pub sending_starts : (r : List ℕ → List ℕ → Type 0) (k : ℕ) (e : Bool) → IsSending r r k k e e
sending_starts r k e = record { used = used_starts r k; ended = refl }

pub sending_goes_on : (r0 r m : List ℕ → List ℕ → Type 0) (k0 k j : ℕ) (e0 e d : Bool) → IsSending r0 r k0 k e0 e → SameRule r m → k ≤ j → d ≡ e → IsSending r0 m k0 j e0 d
sending_goes_on r0 r m k0 k j e0 e d is same later ended =
    record { used = used_goes_on r0 r m k0 k j is.used same later; ended = ended ∙ is.ended }
