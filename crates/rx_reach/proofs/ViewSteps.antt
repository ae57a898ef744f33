-- What was seen, as a list.
use Rattle.std.proofs.Common.{◌≡◌, ℕ, List, [], ◌∷◌, map, refl, sym, ap, subst, ◌∙◌}
use Rattle.rx_base.specs.SortedPaths.{AreSorted}
use Rattle.rx_world.specs.declared.looks.Look.{Look}
use Rattle.rx_world.specs.declared.sources.Found.{Found}
use Rattle.rx_reach.specs.Sights.{found_of, sights_of}

abbrev Sights : Type 0
Sights = List (List ℕ × Look)

same-entries : (entries : Sights) → sights_of (map found_of entries) ≡ entries
same-entries [] = refl
same-entries (e ∷ es) = ap (λ rest. (e.0, e.1) ∷ rest) (same-entries es)

same-keys : (entries : Sights) → map (λ (f : Found). f.path) (map found_of entries) ≡ map (λ entry. entry.0) entries
same-keys [] = refl
same-keys (e ∷ es) = ap (λ rest. e.0 ∷ rest) (same-keys es)

pub view-sights : (entries : Sights) (view : List Found) → view ≡ map found_of entries → sights_of view ≡ entries
view-sights entries view e = ap sights_of e ∙ same-entries entries

pub view-sorted : (entries : Sights) (view : List Found) → AreSorted (map (λ entry. entry.0) entries) → view ≡ map found_of entries → AreSorted (map (λ found. found.path) view)
view-sorted entries view h e = subst AreSorted (sym (ap (map (λ (f : Found). f.path)) e ∙ same-keys entries)) h
