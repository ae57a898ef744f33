-- The failures of the ends up to one more.
use Rattle.std.proofs.Common.{◌≡◌, ℕ, ◌+◌, ◌<◌, List, [], ◌∷◌, ◌++◌, ap, append-nil, get_or, length, subst, sym, take, ◌∙◌}
use Rattle.std.proofs.lemmas.Grind.{flat_map-append}
use Rattle.std.proofs.lemmas.List.{take_more}
use Rattle.std.proofs.lemmas.List.Elements.{All-append, All-cons, All-nil}
use Rattle.std.specs.List.{flat_map}
use Rattle.std.specs.Prelude.{All}
use Rattle.rx_world.specs.declared.attempts.Ended.{Ended}
use Rattle.rx_world.specs.declared.attempts.Failure.{Failure}
use Rattle.rx_engine.specs.Attempts.{AreTellable, IsTellable, failure_of}

one-more : (ends : List Ended) (i : ℕ) (end : Ended) → i < length ends → end ≡ get_or ends i end → take (i + 1) ends ≡ take i ends ++ end ∷ []
one-more ends i end within e = take_more ends i end within ∙ ap (λ x. take i ends ++ x ∷ []) (sym e)

pub failures-more : (ends : List Ended) (i : ℕ) (end : Ended) (old new : List Failure) → i < length ends → end ≡ get_or ends i end → old ≡ flat_map failure_of (take i ends) → new ≡ old ++ failure_of end → new ≡ flat_map failure_of (take (i + 1) ends)
failures-more ends i end old new within e was is =
    is ∙ ap (λ x. x ++ failure_of end) was
    ∙ sym (ap (flat_map failure_of) (one-more ends i end within e) ∙ flat_map-append failure_of (take i ends) (end ∷ []) ∙ ap (λ x. flat_map failure_of (take i ends) ++ x) (append-nil (failure_of end)))

pub tellable-more : (ends : List Ended) (i : ℕ) (end : Ended) → i < length ends → end ≡ get_or ends i end → AreTellable (take i ends) → IsTellable end → AreTellable (take (i + 1) ends)
tellable-more ends i end within e was is =
    subst (λ x. All IsTellable x) (sym (one-more ends i end within e)) (All-append IsTellable (take i ends) (end ∷ []) was (All-cons IsTellable end [] is (All-nil IsTellable)))
