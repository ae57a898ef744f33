-- The names of an entry, one by one.
use Rattle.std.proofs.Common.{◌≡◌, ℕ, zero, suc, ◌<◌, ◌≤◌, true, List, [], ◌∷◌, Option, Some, None, length, get_or, drop, refl, sym, ap, arith}
use Rattle.std.specs.Prelude.{MatchOption, is_some, nat_lt, option_to_list}
use Rattle.std.proofs.lemmas.Bool.{ltb-true}
use Rattle.std.specs.Borrow.{Bor}
use Rattle.std.specs.List.{HoldsAt}
use Rattle.std.specs.Option.{option_copied}
use Rattle.rx_base.specs.Texts.{texts}
use Rattle.rx_tree.specs.Entries.{Content}
use Rattle.rx_tree.specs.Search.{place}
use Rattle.rx_tree.specs.Trees.{file_at_end, first_name}

no_name : (names : List (Bor (List ℕ))) (i : ℕ) → length names ≤ i → [] ≡ first_name (drop i (texts names))
no_name [] zero le = refl
no_name [] (suc i) le = refl
no_name (n ∷ ns) zero le = absurd (omega arith)
no_name (n ∷ ns) (suc i) le = no_name ns i (omega arith)

name_at : (names : List (Bor (List ℕ))) (i : ℕ) (x : Bor (List ℕ)) → i < length names → ((d : Bor (List ℕ)) → x ≡ get_or names i d) → x.now ∷ [] ≡ first_name (drop i (texts names))
name_at [] i x lt h = absurd (omega arith)
name_at (n ∷ ns) zero x lt h = ap (λ (name : Bor (List ℕ)). name.now ∷ []) (h n)
name_at (n ∷ ns) (suc i) x lt h = name_at ns i x (omega arith) h

-- what `get` gives is the name after so many
pub got_name : (names : List (Bor (List ℕ))) (i : ℕ) (got : Option (Bor (Bor (List ℕ)))) → MatchOption got (length names ≤ i) (λ x. (i < length names) × HoldsAt (λ y. x.now ≡ y) names i)
    → option_to_list (place (option_copied got)) ≡ first_name (drop i (texts names))
got_name names i None le = no_name names i le
got_name names i (Some x) at = name_at names i x.now at.0 at.1

pub got_some : (names : ℕ) (i : ℕ) (got : Option (Bor (Bor (List ℕ)))) → is_some got ≡ nat_lt i names → is_some (option_copied got) ≡ true → i < names
got_some names i None e some = absurd (cc some)
got_some names i (Some x) e some = ltb-true i names (sym e)

-- a path with further names has no file yet
pub file_later : (names : List (List ℕ)) (i : ℕ) (file : Option Content) → i < length names → None ≡ file_at_end (drop i names) file
file_later [] i file lt = absurd (omega arith)
file_later (n ∷ ns) zero file lt = refl
file_later (n ∷ ns) (suc i) file lt = file_later ns i file (omega arith)
