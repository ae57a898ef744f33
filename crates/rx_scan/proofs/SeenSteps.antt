-- One path more of those at which files were seen.
use Rattle.std.proofs.Common.{◌≡◌, ℕ, ◌+◌, ◌<◌, List, [], ◌∷◌, ◌++◌, filter_map, length, get_or, take, refl, sym, ap, ◌∙◌}
use Rattle.std.specs.Prelude.{None, Option, Some}
use Rattle.std.specs.List.{cons_option}
use Rattle.std.specs.Option.{option_to_list}
use Rattle.std.proofs.lemmas.List.Elements.{filter_map-append}
use Rattle.rx_scan.specs.declared.seen_files.SeenFile.{SeenFile}
use Rattle.rx_scan.proofs.InputSteps.{taken}

one : (o : Option SeenFile) → cons_option o [] ≡ option_to_list o
one None = refl
one (Some file) = refl

pub files-more : (f : List ℕ → Option SeenFile) (paths : List (List ℕ)) (i : ℕ) (path : List ℕ) (file : Option SeenFile) (old new : List SeenFile) → i < length paths → path ≡ get_or paths i path → file ≡ f path → old ≡ filter_map f (take i paths) → new ≡ old ++ option_to_list file → new ≡ filter_map f (take (i + 1) paths)
files-more f paths i path file old new h e is before after =
    after ∙ ap (λ s. s ++ option_to_list file) before ∙ ap (λ o. filter_map f (take i paths) ++ option_to_list o) is
    ∙ ap (λ s. filter_map f (take i paths) ++ s) (sym (one (f path)))
    ∙ sym (filter_map-append f (take i paths) (path ∷ [])) ∙ ap (filter_map f) (sym (taken paths i path h e))
