-- Paths that aren't among others.
use Rattle.std.proofs.Common.{◌≡◌, ℕ, ◌+◌, ◌<◌, Bool, cond, not, List, [], ◌∷◌, ◌++◌, filter, length, get_or, take, refl, sym, ap, ◌∙◌}
use Rattle.std.specs.Prelude.{Err, Ok, Result}
use Rattle.std.specs.List.{list_any}
use Rattle.std.specs.Option.{is_some}
use Rattle.std.specs.Result.{is_ok, result_ok}
use Rattle.std.specs.Str.{bytes_eq}
use Rattle.std.proofs.lemmas.List.Elements.{filter-append}
use Rattle.rx_scan.specs.Whole.{without}
use Rattle.rx_scan.proofs.InputSteps.{taken}

pub ok-some : (r : Result ℕ ℕ) → is_ok r ≡ is_some (result_ok r)
ok-some (Ok at) = refl
ok-some (Err at) = refl

-- one path more
pub without-more : (paths others : List (List ℕ)) (i : ℕ) (path : List ℕ) (b : Bool) (old new : List (List ℕ)) → i < length paths → path ≡ get_or paths i path → list_any (λ other. bytes_eq path other) others ≡ b → old ≡ without (take i paths) others → new ≡ old ++ cond (not b) (path ∷ []) [] → new ≡ without (take (i + 1) paths) others
without-more paths others i path b old new h e t before after =
    let p : List ℕ → Bool = λ x. not (list_any (λ other. bytes_eq x other) others) in
    after ∙ ap (λ s. s ++ cond (not b) (path ∷ []) []) before ∙ ap (λ c. filter p (take i paths) ++ cond (not c) (path ∷ []) []) (sym t)
    ∙ sym (filter-append p (take i paths) (path ∷ [])) ∙ ap (filter p) (sym (taken paths i path h e))
