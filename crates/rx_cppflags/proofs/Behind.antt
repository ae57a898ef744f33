-- What `strip_prefix` leaves.
use Rattle.std.proofs.Common.{◌≡◌, ℕ, ◌+◌, true, false, List, [], length, drop, Some, None, refl, sym, ap, ◌∙◌, subst}
use Rattle.std.specs.Prelude.{nat_eq}
use Rattle.std.specs.List.{starts_with}
use Rattle.std.specs.Str.{IsCharBoundary}
use Rattle.std.specs.Str.Pattern.{FindsTextPrefix}
use Rattle.std.proofs.lemmas.Str.Pattern.{starts_text}
use Rattle.rx_cppflags.specs.Rows.{behind}

pub strips : (n s x : List ℕ) → (k : ℕ) × FindsTextPrefix n s (Some k) × (x ≡ drop k s) × (length x + k ≡ length s) → x ≡ behind n s
strips n s x h =
    let boundary : IsCharBoundary s h.0 = subst (λ k. IsCharBoundary s k) (sym h.1.0) h.1.2 in
    let begins : true ≡ starts_with nat_eq s n = starts_text true n s (h.0, h.1, boundary) in
    rw (sym begins) (h.2 ∙ ap (λ k. drop k s) h.1.0)

pub lacks : (n s : List ℕ) → FindsTextPrefix n s None → [] ≡ behind n s
lacks n s h =
    let begins : false ≡ starts_with nat_eq s n = starts_text false n s h in
    rw (sym begins) refl
