-- A list of which nothing is to be refused.
use Rattle.std.proofs.Common.{◌≡◌, ◌∙◌, ◌≤◌, ◌⊎◌, inl, inr, ℕ, true, false, List, [], ◌∷◌, ◌++◌, Ok, Err, Result, Less, bytes_eq, length, map, nat_cmp, refl, sym, subst, arith, true≢false}
use Rattle.std.specs.Prelude.{IfErr}
use Rattle.std.specs.Result.{IsErrAnd}
use Rattle.std.specs.Cmp.Lexicographic.{slice_cmp}
use Rattle.std.specs.List.{AllByRecursion, Contains, count_by}
use Rattle.std.specs.List.Sorted.{IsStrictlySortedBy}
use Rattle.std.proofs.lemmas.Bool.{or_cases}
use Rattle.std.proofs.lemmas.List.Elements.{Contains-append_cases}
use Rattle.std.proofs.lemmas.Slice.Eq.{bytes_eq-Decides}
use Rattle.rx_base.specs.Paths.{is_below}
use Rattle.rx_base.specs.SortedPaths.{AreSorted}
use Rattle.rx_base.proofs.ByteLists.{bytes_eq-other}
use Rattle.rx_base.proofs.Members.{Contains-from_map, Contains-map}
use Rattle.rx_world.specs.declared.input_files.InputFile.{InputFile}
use Rattle.rx_tree.specs.declared.tree_fault.TreeFault.{TreeFault}
use Rattle.rx_tree.specs.declared.tree_fault.TreeFault.TheVariants.{TooManyFiles, DuplicatePath, FileUnderFile, MissingBlob, NotCanonical, NoMemory}
use Rattle.rx_tree.specs.Entries.{Entry, dir_entry, entries_of, file_entry}
use Rattle.rx_tree.specs.Refusals.{CanBeBuilt, IsClash, Judges, is_file_at, is_under, most_files, stands_under}
use Rattle.rx_tree.proofs.Neighbours.{counted}
use Rattle.rx_tree.proofs.TreeRuns.{later_differs}

pub only_memory : (A : Type 0) (files : List InputFile) (dirs : List (List ℕ)) (fault : TreeFault) → CanBeBuilt files dirs → Judges {A = A} files dirs (Err fault) → fault ≡ NoMemory
only_memory A files dirs TooManyFiles fit j = let few = fit.few in absurd (omega arith)
only_memory A files dirs (DuplicatePath path) fit j = absurd (fit.apart.once path j.1.0)
only_memory A files dirs (FileUnderFile file below) fit j = absurd (fit.apart.apart (file, below) j.2.0)
only_memory A files dirs (MissingBlob digest) fit j = absurd j
only_memory A files dirs (NotCanonical digest) fit j = absurd j
only_memory A files dirs NoMemory fit j = refl

-- as a call passes a refusal on
pub passed_on : {A : Type 0} (result : Result A TreeFault) (fault : TreeFault) → IsErrAnd result (λ error. error ≡ fault) → fault ≡ NoMemory → IfErr result (λ error. error ≡ NoMemory)
passed_on (Ok x) fault is memory = tt
passed_on (Err error) fault is memory = is ∙ memory

-- ---- a list of files in order

abbrev path_of : InputFile → List ℕ
path_of file = file.path

module _ (path : List ℕ) (dirs : List (List ℕ)) where
  abbrev with_dirs : List InputFile → List Entry
  with_dirs files = map file_entry files ++ map dir_entry dirs

  none_in : (others : List (List ℕ)) → count_by (is_file_at path) (map dir_entry others) ≡ 0
  none_in [] = refl
  none_in (dir ∷ others) = let n = counted (is_file_at path) (dir_entry dir) (map dir_entry others) false refl in let rest = none_in others in omega arith

  none_after : (files : List InputFile) → AllByRecursion (λ other. slice_cmp nat_cmp path other ≡ Less) (map path_of files) → count_by (is_file_at path) (with_dirs files) ≡ 0
  none_after [] h = none_in dirs
  none_after (file ∷ files) h =
      let other = bytes_eq-other file.path path (λ e. later_differs path file.path h.0 (sym e)) in
      let n = counted (is_file_at path) (file_entry file) (with_dirs files) false other in
      let rest = none_after files h.1 in
      omega arith

  at_most_one : (files : List InputFile) → AreSorted (map path_of files) → count_by (is_file_at path) (with_dirs files) ≤ 1
  unfolding IsStrictlySortedBy
  at_most_one [] s = let none = none_in dirs in omega arith
  at_most_one (file ∷ files) s =
      elim (bytes_eq file.path path) as (λ b. bytes_eq file.path path ≡ b → count_by (is_file_at path) (with_dirs (file ∷ files)) ≤ 1) [
        | true ↦ λ e.
            let n = counted (is_file_at path) (file_entry file) (with_dirs files) true e in
            let above = subst (λ (p : List ℕ). AllByRecursion (λ other. slice_cmp nat_cmp p other ≡ Less) (map path_of files)) ((bytes_eq-Decides file.path path).0 e) s.0 in
            let rest = none_after files above in
            omega arith
        | false ↦ λ e.
            let n = counted (is_file_at path) (file_entry file) (with_dirs files) false e in
            let rest = at_most_one files s.1 in
            omega arith
      ] refl

-- Files in order, none below another, and no directory at or below one: a list like this has a tree.
module _ (files : List InputFile) (dirs : List (List ℕ)) (few : length files ≤ most_files) (sorted : AreSorted (map path_of files))
    (none_below : (upper lower : List ℕ) → Contains (map path_of files) upper → Contains (map path_of files) lower → is_below lower upper ≡ true → ⊥)
    (none_at : (file dir : List ℕ) → Contains (map path_of files) file → Contains dirs dir → (dir ≡ file) ⊎ (is_below dir file ≡ true) → ⊥) where
  no_file : (dir : List ℕ) (file below : Entry) → dir_entry dir ≡ file → is_under file below ≡ true → ⊥
  no_file dir file below is under = true≢false (sym (subst (λ (e : Entry). is_under e below ≡ true) (sym is) under))

  under_file : (path : List ℕ) (below : Entry) → Contains (map path_of files) path → Contains (entries_of files dirs) below → stands_under path below ≡ true → ⊥
  under_file path below here c under =
      elim (Contains-append_cases (map file_entry files) (map dir_entry dirs) below c) [
        | inl file ↦
            let g = Contains-from_map file_entry files below file in
            let at : stands_under path (file_entry g.0) ≡ true = subst (λ (e : Entry). stands_under path e ≡ true) (sym g.2) under in
            elim (or_cases (is_below g.0.path path) false at) [
              | inl lower ↦ none_below path g.0.path here (Contains-map path_of files g.0 g.1) lower
              | inr never ↦ true≢false (sym never)
            ]
        | inr dir ↦
            let d = Contains-from_map dir_entry dirs below dir in
            let at : stands_under path (dir_entry d.0) ≡ true = subst (λ (e : Entry). stands_under path e ≡ true) (sym d.2) under in
            elim (or_cases (is_below d.0 path) (bytes_eq d.0 path) at) [
              | inl lower ↦ none_at path d.0 here d.1 (inr lower)
              | inr same ↦ none_at path d.0 here d.1 (inl ((bytes_eq-Decides d.0 path).0 same))
            ]
      ]

  no_clash : (paths : List ℕ × List ℕ) → IsClash (entries_of files dirs) paths → ⊥
  no_clash paths clash =
      elim (Contains-append_cases (map file_entry files) (map dir_entry dirs) clash.file clash.has_file) [
        | inl file ↦
            let f = Contains-from_map file_entry files clash.file file in
            under_file f.0.path clash.below (Contains-map path_of files f.0 f.1) clash.has_below (subst (λ (e : Entry). is_under e clash.below ≡ true) (sym f.2) clash.under)
        | inr dir ↦ let d = Contains-from_map dir_entry dirs clash.file dir in no_file d.0 clash.file clash.below d.2 clash.under
      ]

  pub can_be_built : CanBeBuilt files dirs
  can_be_built = record {
    few = few;
    apart = record { once = λ path twice. let one = at_most_one path dirs files sorted in omega arith; apart = no_clash };
  }
