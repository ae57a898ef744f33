-- The root of a list of paths is the root of the world's tree that the list stands for.
use Rattle.std.proofs.Common.{◌≡◌, ◌≢◌, ◌∙◌, ℕ, ◌<◌, ◌⊎◌, inl, inr, true, List, [], ◌∷◌, ◌++◌, Some, append-nil, length, map, refl, sym, ap, subst, arith, true≢false}
use Rattle.std.specs.Prelude.{IsSome, is_some}
use Rattle.std.specs.List.{AllByRecursion, Contains}
use Rattle.std.proofs.lemmas.List.Elements.{Contains-append_cases, Contains-append_left, Contains-append_right, recursion_from_All}
use Rattle.rx_base.specs.Paths.{IsName, IsPath, fronts, joined, parts, prefixes_of}
use Rattle.rx_base.proofs.Lists.{All-front}
use Rattle.rx_base.proofs.Members.{All-member, Among, Among-from_contains, Contains-cons_cases, Contains-from_among, Contains-from_map, Contains-head, Contains-map, Contains-one, not_in_nothing}
use Rattle.rx_base.proofs.PathAgain.{parts-joined}
use Rattle.rx_world.specs.declared.input_files.InputFile.{InputFile}
use Rattle.rx_world.specs.declared.outcomes.FileOut.{FileOut}
use Rattle.rx_world.specs.declared.trees.Tree.{Tree as WorldTree}
use Rattle.rx_world.specs.Files.{all_placed_by}
use Rattle.rx_world.specs.Trees.{empty_tree, files-tree_with_directories, tree_of as world_tree_of, tree_with_directories, tree_with_directory, tree_with_file, tree_with_files, with_prefixes}
use Rattle.rx_world.proofs.PlacedBy.{map-all_placed_by}
use Rattle.rx_tree.specs.Entries.{Entry, dir_entry, entries_of, file_entry, names_of}
use Rattle.rx_tree.specs.Listings.{IsEntry}
use Rattle.rx_tree.specs.Refusals.{IsApart}
use Rattle.rx_tree.specs.Trees.{Rest, rests, tree}
use Rattle.rx_tree.specs.WorldTrees.{AreCopies, IsCopyOf, copy_entry, world_entries}
use Rattle.rx_tree.proofs.FoundLaws.{names_are}
use Rattle.rx_tree.proofs.PlacedMembers.{all_placed-from, all_placed-new, all_placed-old}
use Rattle.rx_tree.proofs.StartLemmas.{one_file, rest_of}
use Rattle.rx_tree.proofs.TreeAbove.{LiesAbove, tree_of-alike}
use Rattle.rx_tree.proofs.TreeMembers.{on_from}

-- ---- the names of a path above another

front_of : (names front : List (List ℕ)) → Contains (fronts names) front → (more : List (List ℕ)) × (names ≡ front ++ more) × (0 < length front)
front_of [] front c = absurd (not_in_nothing front c)
front_of (x ∷ []) front c = absurd (not_in_nothing front c)
front_of (x ∷ y ∷ others) front c =
    elim (Contains-cons_cases (x ∷ []) (map (λ (f : List (List ℕ)). x ∷ f) (fronts (y ∷ others))) front c) [
      | inl is ↦ (y ∷ others, ap (λ (f : List (List ℕ)). f ++ y ∷ others) is, subst (λ (f : List (List ℕ)). 0 < length f) is (omega arith))
      | inr later ↦
          let from = Contains-from_map (λ (f : List (List ℕ)). x ∷ f) (fronts (y ∷ others)) front later in
          let rest = front_of (y ∷ others) from.0 from.1 in
          (rest.0, ap (λ (names : List (List ℕ)). x ∷ names) rest.1 ∙ ap (λ (f : List (List ℕ)). f ++ rest.0) from.2, subst (λ (f : List (List ℕ)). 0 < length f) from.2 (omega arith))
    ]

not_root : (p x : List ℕ) (xs : List (List ℕ)) → IsName x → parts p ≡ x ∷ xs → names_of p ≡ x ∷ xs
not_root [] x xs one e = let none : x ≡ [] = cc in absurd (one.some none)
not_root (b ∷ bytes) x xs one e = e

names_of-joined : (names : List (List ℕ)) → 0 < length names → AllByRecursion IsName names → names_of (joined names) ≡ names
names_of-joined [] some each = absurd (omega arith)
names_of-joined (x ∷ xs) some each = not_root (joined (x ∷ xs)) x xs each.0 (parts-joined (x ∷ xs) some each)

abbrev GoesOn : List ℕ → List ℕ → Type 0
GoesOn above path = (more : List (List ℕ)) × (names_of path ≡ names_of above ++ more)

prefix_above : (path above : List ℕ) → IsPath path → Contains (prefixes_of path) above → GoesOn above path
prefix_above [] above is c = absurd (not_in_nothing above c)
prefix_above (b ∷ bytes) above is c =
    let from = Contains-from_map joined (fronts (parts (b ∷ bytes))) above c in
    let front = front_of (parts (b ∷ bytes)) from.0 from.1 in
    let each : AllByRecursion IsName from.0 = All-front IsName from.0 front.0 (subst (λ (ns : List (List ℕ)). AllByRecursion IsName ns) front.1 (names_are (b ∷ bytes) is)) in
    let names : names_of above ≡ from.0 = ap names_of (sym from.2) ∙ names_of-joined from.0 front.2 each in
    (front.0, front.1 ∙ ap (λ (ns : List (List ℕ)). ns ++ front.0) (sym names))

itself_on : (path : List ℕ) → GoesOn path path
itself_on path = ([], sym (append-nil (names_of path)))

prefixes_above : (path above : List ℕ) → IsPath path → Contains (with_prefixes path) above → GoesOn above path
prefixes_above [] above is c = absurd (not_in_nothing above c)
prefixes_above (b ∷ bytes) above is c =
    elim (Contains-append_cases (prefixes_of (b ∷ bytes)) ((b ∷ bytes) ∷ []) above c) [
      | inl front ↦ prefix_above (b ∷ bytes) above is front
      | inr here ↦ subst (λ (p : List ℕ). GoesOn p (b ∷ bytes)) (Contains-one (b ∷ bytes) above here) (itself_on (b ∷ bytes))
    ]

own_prefix : (path : List ℕ) → path ≢ [] → Among path (with_prefixes path)
own_prefix [] ne = absurd (ne refl)
own_prefix (b ∷ bytes) ne = Among-from_contains (b ∷ bytes) (with_prefixes (b ∷ bytes)) (Contains-append_right (prefixes_of (b ∷ bytes)) ((b ∷ bytes) ∷ []) (b ∷ bytes) (Contains-head (b ∷ bytes) []))

-- ---- what the world's tree has

abbrev same : List ℕ → List ℕ
same path = path

files_with : (files : List FileOut) (t : WorldTree) → (tree_with_files files t).files ≡ all_placed_by (λ f. f.path) files t.files
files_with [] t = refl
files_with (file ∷ files) t = files_with files (tree_with_file file t)

above_files : (files : List FileOut) (t : WorldTree) (p : List ℕ) → Among p (tree_with_files files t).directories → ((file : FileOut) × Among file files × Among p (prefixes_of file.path)) ⊎ Among p t.directories
above_files [] t p a = inr a
above_files (file ∷ files) t p a =
    elim (above_files files (tree_with_file file t) p a) [
      | inl h ↦ inl (h.0, inr h.1, h.2)
      | inr b ↦ elim (all_placed-from same (prefixes_of file.path) t.directories p b) [ inl c ↦ inl (file, inl refl, c) | inr c ↦ inr c ]
    ]

above_dirs : (dirs : List (List ℕ)) (t : WorldTree) (p : List ℕ) → Among p (tree_with_directories dirs t).directories → ((dir : List ℕ) × Among dir dirs × Among p (with_prefixes dir)) ⊎ Among p t.directories
above_dirs [] t p a = inr a
above_dirs (dir ∷ dirs) t p a =
    elim (above_dirs dirs (tree_with_directory dir t) p a) [
      | inl h ↦ inl (h.0, inr h.1, h.2)
      | inr b ↦ elim (all_placed-from same (with_prefixes dir) t.directories p b) [ inl c ↦ inl (dir, inl refl, c) | inr c ↦ inr c ]
    ]

abbrev Any : List ℕ → Type 0
Any path = Unit {0}

dirs_stay : (dirs : List (List ℕ)) (t : WorldTree) (p : List ℕ) → Among p t.directories → Among p (tree_with_directories dirs t).directories
dirs_stay [] t p a = a
dirs_stay (dir ∷ dirs) t p a =
    dirs_stay dirs (tree_with_directory dir t) p (all_placed-old same Any (λ x y _ _ e. e) (with_prefixes dir) t.directories p (λ _ _. tt) (λ _ _. tt) a)

dirs_there : (dirs : List (List ℕ)) (t : WorldTree) (p : List ℕ) → p ≢ [] → Among p dirs → Among p (tree_with_directories dirs t).directories
dirs_there [] t p ne a = absurd a
dirs_there (dir ∷ dirs) t p ne (inl e) =
    dirs_stay dirs (tree_with_directory dir t) p
    (all_placed-new same Any (λ x y _ _ e. e) (with_prefixes dir) t.directories p (λ _ _. tt) (λ _ _. tt) (subst (λ (x : List ℕ). Among p (with_prefixes x)) (sym e) (own_prefix p ne)))
dirs_there (dir ∷ dirs) t p ne (inr a) = dirs_there dirs (tree_with_directory dir t) p ne a

-- ---- both have one tree

abbrev path_of : Entry → List ℕ
path_of entry = entry.path

-- the files of a list, placed by their paths
abbrev placed : List InputFile → List Entry
placed files = all_placed_by path_of (map file_entry files) []

module _ (files : List InputFile) (dirs held : List (List ℕ)) (apart : IsApart (entries_of files dirs))
    (from : (p : List ℕ) → Contains held p → (entry : Entry) × Contains (entries_of files dirs) entry × GoesOn p entry.path)
    (to : (p : List ℕ) → p ≢ [] → Contains dirs p → Contains held p) where
  abbrev given : List Entry
  given = entries_of files dirs

  abbrev made : List Entry
  made = placed files ++ map dir_entry held

  abbrev IsFileOf : Entry → Type 0
  IsFileOf entry = Among entry (map file_entry files)

  some_file : (entry : Entry) → IsFileOf entry → is_some entry.file ≡ true
  some_file entry a =
      let f = Contains-from_map file_entry files entry (Contains-from_among entry (map file_entry files) a) in
      ap (λ (e : Entry). is_some e.file) (sym f.2)

  in_given : (entry : Entry) → IsFileOf entry → Contains given entry
  in_given entry a = Contains-append_left (map file_entry files) (map dir_entry dirs) entry (Contains-from_among entry (map file_entry files) a)

  one : (a b : Entry) → IsFileOf a → IsFileOf b → a.path ≡ b.path → a ≡ b
  one a b c d e =
      let file : a.file ≡ b.file =
      one_file given apart (rest_of a) (rest_of b) (Contains-map rest_of given a (in_given a c)) (Contains-map rest_of given b (in_given b d)) (ap names_of e) (some_file a c) (some_file b d) in
      λ i. record { path = e i; file = file i }

  in_made : (entry : Entry) → IsFileOf entry → Contains made entry
  in_made entry a =
      Contains-append_left (placed files) (map dir_entry held) entry (Contains-from_among entry (placed files)
      (all_placed-new path_of IsFileOf one (map file_entry files) [] entry (λ x b. b) (λ x b. absurd b) a))

  from_placed : (entry : Entry) → Contains (placed files) entry → IsFileOf entry
  from_placed entry c =
      elim (all_placed-from path_of (map file_entry files) [] entry (Among-from_contains entry (placed files) c)) [ inl a ↦ a | inr a ↦ absurd a ]

  no_file : (dir : List ℕ) (q : Rest) → rest_of (dir_entry dir) ≡ q → IsSome q.file → ⊥
  no_file dir q e some = true≢false (sym some ∙ ap (λ (r : Rest). is_some r.file) (sym e))

  -- an entry that both have lies above itself
  itself : (rs : List Rest) (q : Rest) → Contains rs q → LiesAbove q rs
  itself rs q c = record { lower = q; there = c; more = []; on = sym (append-nil q.names) }

  file_made : (x : Entry) (q : Rest) → rest_of x ≡ q → IsFileOf x → Contains (rests 0 made) q
  file_made x q e a = subst (λ (r : Rest). Contains (rests 0 made) r) e (Contains-map rest_of made x (in_made x a))

  file_given : (x : Entry) (q : Rest) → rest_of x ≡ q → IsFileOf x → Contains (rests 0 given) q
  file_given x q e a = subst (λ (r : Rest). Contains (rests 0 given) r) e (Contains-map rest_of given x (in_given x a))

  files_to : (q : Rest) → IsSome q.file → Contains (rests 0 given) q → Contains (rests 0 made) q
  files_to q some c =
      let x = Contains-from_map rest_of given q c in
      elim (Contains-append_cases (map file_entry files) (map dir_entry dirs) x.0 x.1) [
        | inl file ↦ file_made x.0 q x.2 (Among-from_contains x.0 (map file_entry files) file)
        | inr dir ↦ let d = Contains-from_map dir_entry dirs x.0 dir in absurd (no_file d.0 q (ap rest_of d.2 ∙ x.2) some)
      ]

  files_from : (q : Rest) → IsSome q.file → Contains (rests 0 made) q → Contains (rests 0 given) q
  files_from q some c =
      let x = Contains-from_map rest_of made q c in
      elim (Contains-append_cases (placed files) (map dir_entry held) x.0 x.1) [
        | inl file ↦ file_given x.0 q x.2 (from_placed x.0 file)
        | inr dir ↦ let d = Contains-from_map dir_entry held x.0 dir in absurd (no_file d.0 q (ap rest_of d.2 ∙ x.2) some)
      ]

  below_root : (p name : List ℕ) (q : Rest) → rest_of (dir_entry p) ≡ on_from name q → p ≢ []
  below_root p name q e root = let none : [] ≡ name ∷ q.names = ap names_of (sym root) ∙ ap (λ (r : Rest). r.names) e in cc none

  above_to : (name : List ℕ) (q : Rest) → Contains (rests 0 given) (on_from name q) → LiesAbove (on_from name q) (rests 0 made)
  above_to name q c =
      let x = Contains-from_map rest_of given (on_from name q) c in
      elim (Contains-append_cases (map file_entry files) (map dir_entry dirs) x.0 x.1) [
        | inl file ↦ itself (rests 0 made) (on_from name q) (file_made x.0 (on_from name q) x.2 (Among-from_contains x.0 (map file_entry files) file))
        | inr dir ↦
            let d = Contains-from_map dir_entry dirs x.0 dir in
            let is : rest_of (dir_entry d.0) ≡ on_from name q = ap rest_of d.2 ∙ x.2 in
            let there : Contains made (dir_entry d.0) = Contains-append_right (placed files) (map dir_entry held) (dir_entry d.0) (Contains-map dir_entry held d.0 (to d.0 (below_root d.0 name q is) d.1)) in
            itself (rests 0 made) (on_from name q) (subst (λ (r : Rest). Contains (rests 0 made) r) is (Contains-map rest_of made (dir_entry d.0) there))
      ]

  above_from : (name : List ℕ) (q : Rest) → Contains (rests 0 made) (on_from name q) → LiesAbove (on_from name q) (rests 0 given)
  above_from name q c =
      let x = Contains-from_map rest_of made (on_from name q) c in
      elim (Contains-append_cases (placed files) (map dir_entry held) x.0 x.1) [
        | inl file ↦ itself (rests 0 given) (on_from name q) (file_given x.0 (on_from name q) x.2 (from_placed x.0 file))
        | inr dir ↦
            let d = Contains-from_map dir_entry held x.0 dir in
            let is : rest_of (dir_entry d.0) ≡ on_from name q = ap rest_of d.2 ∙ x.2 in
            let entry = from d.0 d.1 in
            record {
              lower = rest_of entry.0;
              there = Contains-map rest_of given entry.0 entry.1;
              more = entry.2.0;
              on = entry.2.1 ∙ ap (λ (r : Rest). r.names ++ entry.2.0) is;
            }
      ]

  one_tree : tree given ≡ tree made
  one_tree = tree_of-alike (rests 0 given) (rests 0 made) (record { files = files_to; files_back = files_from; above = above_to; above_back = above_from }) (one_file given apart)

-- ---- the tree that a list stands for

copy_is : (file : InputFile) (copy : FileOut) → IsCopyOf file copy → copy_entry copy ≡ file_entry file
copy_is file copy h = λ i. record { path = h.path_is i; file = Some (record { digest = h.digest_is i; executable = h.mark_is i }) }

copies_are : (copy : InputFile → FileOut) (files : List InputFile) → AllByRecursion (λ file. IsCopyOf file (copy file)) files → map copy_entry (map copy files) ≡ map file_entry files
copies_are copy [] h = refl
copies_are copy (file ∷ files) h =
    ap (λ (e : Entry). e ∷ map copy_entry (map copy files)) (copy_is file (copy file) h.0) ∙ ap (λ (es : List Entry). file_entry file ∷ es) (copies_are copy files h.1)

module _ (files : List InputFile) (dirs : List (List ℕ)) (copy : InputFile → FileOut) (copies : AreCopies copy files)
    (sound : AllByRecursion IsEntry (entries_of files dirs)) (apart : IsApart (entries_of files dirs)) where
  abbrev world : WorldTree
  world = world_tree_of (map copy files) dirs

  abbrev before : WorldTree
  before = tree_with_files (map copy files) empty_tree

  each : AllByRecursion (λ file. IsCopyOf file (copy file)) files
  each = recursion_from_All (λ file. IsCopyOf file (copy file)) files copies

  file_entries : map copy_entry world.files ≡ placed files
  file_entries =
      ap (map copy_entry) (files-tree_with_directories dirs before ∙ files_with (map copy files) empty_tree)
      ∙ map-all_placed_by copy_entry path_of (map copy files) []
      ∙ ap (λ (es : List Entry). all_placed_by path_of es []) (copies_are copy files each)

  of_file : (file : InputFile) → Contains files file → Contains (entries_of files dirs) (file_entry file)
  of_file file c = Contains-append_left (map file_entry files) (map dir_entry dirs) (file_entry file) (Contains-map file_entry files file c)

  of_dir : (dir : List ℕ) → Contains dirs dir → Contains (entries_of files dirs) (dir_entry dir)
  of_dir dir c = Contains-append_right (map file_entry files) (map dir_entry dirs) (dir_entry dir) (Contains-map dir_entry dirs dir c)

  from_file : (p : List ℕ) (file : FileOut) → Among file (map copy files) → Among p (prefixes_of file.path) → (entry : Entry) × Contains (entries_of files dirs) entry × GoesOn p entry.path
  from_file p file a b =
      let f = Contains-from_map copy files file (Contains-from_among file (map copy files) a) in
      let there = of_file f.0 f.1 in
      let path : file.path ≡ f.0.path = ap (λ (x : FileOut). x.path) (sym f.2) ∙ (All-member (λ x. IsCopyOf x (copy x)) files f.0 each f.1).path_is in
      let on = prefix_above f.0.path p (All-member IsEntry (entries_of files dirs) (file_entry f.0) sound there).path
      (subst (λ (x : List ℕ). Contains (prefixes_of x) p) path (Contains-from_among p (prefixes_of file.path) b)) in
      (file_entry f.0, there, on)

  from_dir : (p dir : List ℕ) → Among dir dirs → Among p (with_prefixes dir) → (entry : Entry) × Contains (entries_of files dirs) entry × GoesOn p entry.path
  from_dir p dir a b =
      let there = of_dir dir (Contains-from_among dir dirs a) in
      let on = prefixes_above dir p (All-member IsEntry (entries_of files dirs) (dir_entry dir) sound there).path (Contains-from_among p (with_prefixes dir) b) in
      (dir_entry dir, there, on)

  world_from : (p : List ℕ) → Contains world.directories p → (entry : Entry) × Contains (entries_of files dirs) entry × GoesOn p entry.path
  world_from p c =
      elim (above_dirs dirs before p (Among-from_contains p world.directories c)) [
        | inl d ↦ from_dir p d.0 d.1 d.2
        | inr b ↦ elim (above_files (map copy files) empty_tree p b) [ inl f ↦ from_file p f.0 f.1 f.2 | inr none ↦ absurd none ]
      ]

  world_to : (p : List ℕ) → p ≢ [] → Contains dirs p → Contains world.directories p
  world_to p ne c = Contains-from_among p world.directories (dirs_there dirs before p ne (Among-from_contains p dirs c))

  pub world_tree : tree (entries_of files dirs) ≡ tree (world_entries world)
  world_tree =
      one_tree files dirs world.directories apart world_from world_to
      ∙ ap (λ (es : List Entry). tree (es ++ map dir_entry world.directories)) (sym file_entries)
