-- Words between commas, one after the other.
use Rattle.std.proofs.Common.{◌≡◌, ℕ, ◌+◌, ◌<◌, ◌≤◌, Bool, true, false, ◌&&◌, List, length, drop, get_or, sym, ap, ◌∙◌}
use Rattle.std.specs.List.{list_all}
use Rattle.std.proofs.lemmas.List.{at_drop_more, drop_all}

step : (test : List ℕ → Bool) (all : List (List ℕ)) (i : ℕ) (word : List ℕ) → (i < length all) × (word ≡ get_or all i word) → list_all test (drop i all) ≡ (test word && list_all test (drop (i + 1) all))
step test all i word t = at_drop_more (list_all test) all i word t.0 ∙ ap (λ (w : List ℕ). test w && list_all test (drop (i + 1) all)) (sym t.1)

-- a word that passes
pub passes : (test : List ℕ → Bool) (all : List (List ℕ)) (i : ℕ) (word : List ℕ) → (i < length all) × (word ≡ get_or all i word) → list_all test (drop i all) ≡ list_all test all → test word ≡ true
    → list_all test (drop (i + 1) all) ≡ list_all test all
passes test all i word t h p = sym (rw p at (step test all i word t)) ∙ h

-- one that doesn't
pub fails : (test : List ℕ → Bool) (all : List (List ℕ)) (i : ℕ) (word : List ℕ) → (i < length all) × (word ≡ get_or all i word) → list_all test (drop i all) ≡ list_all test all → test word ≡ false
    → false ≡ list_all test all
fails test all i word t h p = sym (rw p at (step test all i word t)) ∙ h

-- the end
pub ends : (test : List ℕ → Bool) (all : List (List ℕ)) (i : ℕ) → length all ≤ i → list_all test (drop i all) ≡ list_all test all → true ≡ list_all test all
ends test all i le h = rw (drop_all i all le) at h
