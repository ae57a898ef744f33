-- A list over what is found is a list over the entries.
use Rattle.std.proofs.Common.{◌≡◌, ℕ, ◌+◌, ◌||◌, Bool, true, false, cond, List, [], ◌∷◌, ap, bytes_eq, filter, map, refl, sym, take, ◌∙◌}
use Rattle.std.specs.List.{take-map}
use Rattle.rx_base.specs.Paths.{is_below}
use Rattle.rx_fakes.specs.Found.{found_of}
use Rattle.rx_world.specs.declared.sources.Found.{Found}
use Rattle.rx_world.specs.declared.sources.SourceEntry.{SourceEntry}
use Rattle.rx_world.specs.Files.{first_placed_by}
use Rattle.rx_world.specs.Sources.{files_under, is_file}

filter-map_case : {X Y : Type 0} (f : X → Y) (b : Bool) (x : X) (xs : List X) (ys : List Y) → ys ≡ map f xs → cond b (f x ∷ ys) ys ≡ map f (cond b (x ∷ xs) xs)
filter-map_case f true x xs ys h = ap (λ s. f x ∷ s) h
filter-map_case f false x xs ys h = h

filter-map : {X Y : Type 0} (f : X → Y) (p : Y → Bool) (xs : List X) → filter p (map f xs) ≡ map f (filter (λ x. p (f x)) xs)
filter-map f p [] = refl
filter-map f p (x ∷ xs) = filter-map_case f (p (f x)) x (filter (λ y. p (f y)) xs) (filter p (map f xs)) (filter-map f p xs)

abbrev lies_under : List ℕ → Found → Bool
lies_under under found = is_below found.path under || bytes_eq found.path under

-- the entries are in order already
pub lists_found : (entries : List SourceEntry) (under : List ℕ) (most : ℕ) → first_placed_by (λ (e : SourceEntry). e.path) entries ≡ entries
    → take (most + 1) (filter (λ f. is_below f.path under || bytes_eq f.path under) (filter (λ f. is_file f.look) (map found_of entries))) ≡ map found_of (take (most + 1) (files_under under entries))
lists_found entries under most ordered =
    ap (λ s. take (most + 1) (filter (lies_under under) s)) (filter-map found_of (λ (f : Found). is_file f.look) entries)
    ∙ ap (take (most + 1)) (filter-map found_of (lies_under under) (filter (λ e. is_file e.look) entries))
    ∙ ap (λ s. take (most + 1) (map found_of (filter (λ e. lies_under under (found_of e)) (filter (λ e. is_file e.look) s)))) (sym ordered)
    ∙ take-map found_of (most + 1) (files_under under entries)
