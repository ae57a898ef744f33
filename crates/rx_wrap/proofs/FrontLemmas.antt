-- What `strip_prefix` leaves.
use Rattle.std.proofs.Common.{◌≡◌, true, false, ℕ, List, drop, Option, Some, None, refl, sym, ap, ◌∙◌, subst}
use Rattle.std.specs.Prelude.{nat_eq, option_copied}
use Rattle.std.specs.Borrow.{Bor}
use Rattle.std.specs.List.{starts_with}
use Rattle.std.specs.Option.{MatchOption}
use Rattle.std.specs.Str.{IsCharBoundary}
use Rattle.std.specs.Str.Pattern.{FindsTextPrefix, StripsPrefix}
use Rattle.std.proofs.lemmas.Str.Pattern.{starts_text}
use Rattle.rx_wrap.specs.Cuts.{stripped}

pub strips : (n s : List ℕ) (r : Option (Bor (List ℕ))) → MatchOption r (FindsTextPrefix n s None) (λ x. StripsPrefix (FindsTextPrefix n) s x.now)
    → option_copied r ≡ stripped n s
strips n s (Some x) h =
    let boundary : IsCharBoundary s h.0 = subst (λ k. IsCharBoundary s k) (sym h.1.0) h.1.2 in
    let begins : true ≡ starts_with nat_eq s n = starts_text true n s (h.0, h.1, boundary) in
    rw (sym begins) (ap Some (h.2 ∙ ap (λ k. drop k s) h.1.0))
strips n s None h =
    let begins : false ≡ starts_with nat_eq s n = starts_text false n s h in
    rw (sym begins) refl
