-- Lists of files by their paths.
use Rattle.std.specs.Prelude.{ℕ, ◌==◌, List, [], ◌∷◌, ◌++◌, Option, None, Some, if◌then◌else◌, option_to_list}
use Rattle.std.specs.Ordering.{nat_cmp, match_ordering}
use Rattle.std.specs.Cmp.Lexicographic.{slice_cmp}
use Rattle.std.specs.Str.{bytes_eq}
use Rattle.rx_world.specs.declared.outcomes.FileOut.{FileOut}

-- One more item in a list that is ordered by its items' paths: it takes the place of an item with its path.
abbrev pub placed_by : {T : Type 0} → (T → List ℕ) → T → List T → List T
placed_by path new [] = new ∷ []
placed_by path new (item ∷ items) =
    match_ordering (slice_cmp nat_cmp (path new) (path item)) (new ∷ item ∷ items) (new ∷ items) (item ∷ placed_by path new items)

-- the items placed one after the other
abbrev pub all_placed_by : {T : Type 0} → (T → List ℕ) → List T → List T → List T
all_placed_by path [] items = items
all_placed_by path (new ∷ others) items = all_placed_by path others (placed_by path new items)

-- all of these items in the order of their paths; of two at one path the first counts
abbrev pub first_placed_by : {T : Type 0} → (T → List ℕ) → List T → List T
first_placed_by path [] = []
first_placed_by path (item ∷ items) = placed_by path item (first_placed_by path items)

-- the files with one more of them
abbrev pub with_file : FileOut → List FileOut → List FileOut
with_file file files = placed_by (λ f. f.path) file files

-- the file that stands at a path
abbrev pub file_at : List ℕ → List FileOut → Option FileOut
file_at path [] = None
file_at path (file ∷ files) = if bytes_eq file.path path then Some file else file_at path files

-- the files at these paths, in their order
abbrev pub cut_files : List (List ℕ) → List FileOut → List FileOut
cut_files [] files = []
cut_files (path ∷ paths) files = option_to_list (file_at path files) ++ cut_files paths files
