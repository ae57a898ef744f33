-- Items that are placed by their paths.
use Rattle.std.proofs.Common.{◌≡◌, ℕ, List, [], ◌∷◌, ◌++◌, Ordering, Less, Equal, Greater, nat_cmp, map, refl, ap, ◌∙◌}
use Rattle.std.specs.Ordering.{match_ordering}
use Rattle.std.specs.Cmp.Lexicographic.{slice_cmp}
use Rattle.rx_world.specs.Files.{all_placed_by, first_placed_by, placed_by}

pub all_placed_by-append : {T : Type 0} (path : T → List ℕ) (items : List T) (item : T) (held : List T) → all_placed_by path (items ++ item ∷ []) held ≡ placed_by path item (all_placed_by path items held)
all_placed_by-append path [] item held = refl
all_placed_by-append path (x ∷ xs) item held = all_placed_by-append path xs item (placed_by path x held)

map-placed_case : {S T : Type 0} (f : S → T) (o : Ordering) (new item : S) (items rest : List S) (others : List T) → map f rest ≡ others → map f (match_ordering o (new ∷ item ∷ items) (new ∷ items) (item ∷ rest)) ≡ match_ordering o (f new ∷ f item ∷ map f items) (f new ∷ map f items) (f item ∷ others)
map-placed_case f Less new item items rest others h = refl
map-placed_case f Equal new item items rest others h = refl
map-placed_case f Greater new item items rest others h = ap (λ s. f item ∷ s) h

-- what keeps an item's path may come before or after
pub map-placed_by : {S T : Type 0} (f : S → T) (path : T → List ℕ) (new : S) (items : List S) → map f (placed_by (λ s. path (f s)) new items) ≡ placed_by path (f new) (map f items)
map-placed_by f path new [] = refl
map-placed_by f path new (item ∷ items) =
    map-placed_case f (slice_cmp nat_cmp (path (f new)) (path (f item))) new item items (placed_by (λ s. path (f s)) new items) (placed_by path (f new) (map f items)) (map-placed_by f path new items)

pub map-all_placed_by : {S T : Type 0} (f : S → T) (path : T → List ℕ) (news items : List S) → map f (all_placed_by (λ s. path (f s)) news items) ≡ all_placed_by path (map f news) (map f items)
map-all_placed_by f path [] items = refl
map-all_placed_by f path (new ∷ news) items =
    map-all_placed_by f path news (placed_by (λ s. path (f s)) new items) ∙ ap (all_placed_by path (map f news)) (map-placed_by f path new items)

pub map-first_placed_by : {S T : Type 0} (f : S → T) (path : T → List ℕ) (items : List S) → map f (first_placed_by (λ s. path (f s)) items) ≡ first_placed_by path (map f items)
map-first_placed_by f path [] = refl
map-first_placed_by f path (item ∷ items) =
    map-placed_by f path item (first_placed_by (λ s. path (f s)) items) ∙ ap (placed_by path (f item)) (map-first_placed_by f path items)
