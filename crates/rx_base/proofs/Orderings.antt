-- The three answers of a comparison.
use Rattle.std.proofs.Common.{◌≡◌, ◌≢◌, true, false, refl}
use Rattle.std.specs.declared.cmp.Ordering.{Ordering}
use Rattle.std.specs.declared.cmp.Ordering.TheVariants.{Less, Equal, Greater}
use Rattle.std.specs.Ordering.{is_eq, is_lt, ordering_reverse, ordering_then}

pub less_not_equal : Less ≢ Equal
less_not_equal e = cc e

pub less_not_greater : Less ≢ Greater
less_not_greater e = cc e

pub greater_not_equal : Greater ≢ Equal
greater_not_equal e = cc e

pub Less-from_is_lt : (o : Ordering) → is_lt o ≡ true → o ≡ Less
Less-from_is_lt Less e = refl
Less-from_is_lt Equal e = absurd (cc e)
Less-from_is_lt Greater e = absurd (cc e)

pub Equal-from_is_eq : (o : Ordering) → is_eq o ≡ true → o ≡ Equal
Equal-from_is_eq Less e = absurd (cc e)
Equal-from_is_eq Equal e = refl
Equal-from_is_eq Greater e = absurd (cc e)

-- neither is less, so they tie
pub Equal-from_neither : (o : Ordering) → is_lt o ≡ false → is_lt (ordering_reverse o) ≡ false → o ≡ Equal
Equal-from_neither Less e f = absurd (cc e)
Equal-from_neither Equal e f = refl
Equal-from_neither Greater e f = absurd (cc f)

-- two comparisons, the second where the first ties
pub then-Equal : (o p : Ordering) → ordering_then o p ≡ Equal → (o ≡ Equal) × (p ≡ Equal)
then-Equal Less p e = absurd (cc e)
then-Equal Equal p e = (refl, e)
then-Equal Greater p e = absurd (cc e)

pub then-not_less : (o p : Ordering) → is_lt (ordering_then o p) ≡ false → is_lt o ≡ false
then-not_less Less p e = e
then-not_less Equal p e = refl
then-not_less Greater p e = refl
