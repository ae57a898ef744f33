-- Outputs that are all below the working directory.
use Rattle.std.proofs.Common.{◌≡◌, List, [], ◌∷◌, length, None, Ok, not, true, ℕ, refl, ap, arith}
use Rattle.std.specs.List.{AllByRecursion, position_or_len}
use Rattle.std.proofs.lemmas.List.Elements.{recursion_from_All}
use Rattle.rx_base.specs.Paths.{is_below}
use Rattle.rx_base.proofs.Conditions.{nat_lt-itself}
use Rattle.rx_action.specs.OutputPaths.{AreBelow, checked, misplaced}

none_of : (directory : List ℕ) (outputs : List (List ℕ)) → AllByRecursion (λ output. is_below output directory ≡ true) outputs → position_or_len (λ output. not (is_below output directory)) outputs ≡ length outputs
none_of directory [] h = refl
none_of directory (output ∷ outputs) h = rw h.0 (let rest = none_of directory outputs h.1 in omega arith)

pub none_misplaced : (directory : List ℕ) (outputs : List (List ℕ)) → AreBelow directory outputs → misplaced directory outputs ≡ None
none_misplaced directory outputs h =
    rw (none_of directory outputs (recursion_from_All (λ output. is_below output directory ≡ true) outputs h), nat_lt-itself (length outputs)) refl

pub all_checked : (directory : List ℕ) (outputs : List (List ℕ)) → AreBelow directory outputs → checked (misplaced directory outputs) ≡ Ok tt
all_checked directory outputs h = ap (λ at. checked at) (none_misplaced directory outputs h)
