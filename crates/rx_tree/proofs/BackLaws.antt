-- What is listed of a built tree is its list again.
use Rattle.std.proofs.Common.{◌≡◌, ◌≢◌, ◌∙◌, ℕ, suc, ◌+◌, ◌<◌, ◌≤◌, ◌&&◌, inl, inr, Bool, true, cond, List, [], ◌∷◌, ◌++◌, length, map, Option, Some, None, Result, Ok, Err, refl, sym, ap, subst, arith}
use Rattle.std.specs.Prelude.{IfSome, is_some}
use Rattle.std.specs.List.{Contains, count_by}
use Rattle.std.specs.Str.{bytes_eq}
use Rattle.std.proofs.lemmas.Bool.{cases_lt}
use Rattle.std.proofs.lemmas.List.Sorted.{Contains-permutation, IsPermutation-sym}
use Rattle.rx_base.specs.Digests.{digest_of}
use Rattle.rx_base.specs.Paths.{IsName, joined, longest}
use Rattle.rx_base.specs.SortedPaths.{HasSameMembers}
use Rattle.rx_base.specs.declared.digests.Digest.{Digest}
use Rattle.rx_base.proofs.Members.{All-member, All-members, Contains-from_map, Contains-map}
use Rattle.rx_tree.specs.declared.blobs.Blob.{Blob}
use Rattle.rx_tree.specs.declared.listings.Listed.{Listed}
use Rattle.rx_tree.specs.declared.listings.TreeFile.{TreeFile}
use Rattle.rx_tree.specs.declared.tree_fault.TreeFault.{TreeFault}
use Rattle.rx_tree.specs.declared.tree_fault.TreeFault.TheVariants.{TooManyFiles, DuplicatePath, FileUnderFile, MissingBlob, NotCanonical, NoMemory}
use Rattle.rx_tree.specs.declared.walks.Seen.{Seen}
use Rattle.rx_tree.specs.Blobs.{blob_of}
use Rattle.rx_world.specs.declared.input_files.InputFile.{InputFile}
use Rattle.rx_tree.specs.Entries.{Content, Entry, dir_entry, entries_of, names_of}
use Rattle.rx_tree.specs.Listings.{GivesBack, HasNoRootFile, HasSmallSizes, HasTree, IsEntry, IsGivenBack, IsListOf, ListsDir, ListsFile, listed_file}
use Rattle.rx_tree.specs.Lists.{IsInOrder, ListsTree, walked_from}
use Rattle.rx_tree.specs.Planting.{ReadsAgain, ReadsAgainBelow}
use Rattle.rx_tree.specs.Refusals.{is_file_at, most_files}
use Rattle.rx_tree.specs.Trees.{Tree, Rest, all_bytes, levels, rests, tree, tree_bytes, tree_of}
use Rattle.rx_tree.proofs.CanonicalLaws.{IsSmall, in_order}
use Rattle.rx_tree.proofs.CountLaws.{passes, rests_passing, seen_at_most, tally}
use Rattle.rx_tree.proofs.FoundLaws.{FitsOn, finds_all, has_paths, names_are}
use Rattle.rx_tree.proofs.ListingLaws.{goes_on, rest_at, under_all}
use Rattle.rx_tree.proofs.NamesLemmas.{below-from_names, below-names, joined-names_of, joined_parts, some_part}
use Rattle.rx_tree.proofs.Neighbours.{counted}
use Rattle.rx_tree.proofs.OnceLaws.{IsOnce, dirs_once, once-permutation, strictly_sorted}
use Rattle.rx_tree.proofs.SeenLaws.{dirs-from, dirs-to, files-from, files-to, files_seen}
use Rattle.rx_tree.proofs.StartLemmas.{one_file, rest_of}
use Rattle.rx_tree.proofs.TreeHolds.{HoldsEach, HoldsOf, tree_holds}
use Rattle.rx_tree.proofs.TreeWalks.{FindsBelow, HasPaths, IsFound, Sees, bare_in, below, count_below, length-all_bytes, more, sees_below, sees_directory}

abbrev start : Seen
start = record { entered = 0; files = []; dirs = [] }

-- what a walk from the root sees of a tree
abbrev seen_of : Tree → Seen
seen_of t = more start (suc (count_below t)) (files_seen [] t) (below bare_in [] t)

walk_sees : (blobs : List Blob) (t : Tree) → HasPaths [] t → IsFound blobs t → FindsBelow blobs t → length (files_seen [] t) ≤ most_files → Sees (seen_of t) (walked_from (digest_of (tree_bytes t)) blobs)
walk_sees blobs t p found finds fits = sees_directory blobs t found (sees_below blobs t finds) (most_files + 1) [] start tt p (omega arith) (omega arith) fits

abbrev as_number : Bool → ℕ
as_number b = cond b 1 0

abbrev file_at : List ℕ → TreeFile → Bool
file_at path file = bytes_eq file.path path

module _ (es : List Entry) (e : HasTree es) where
  entry_names_are : (q : Rest) → Contains (rests 0 es) q → FitsOn [] q
  entry_names_are q c =
      let x = Contains-from_map rest_of es q c in
      let entry = All-member IsEntry es x.0 e.each x.1 in
      subst (λ (r : Rest). FitsOn [] r) x.2 (record { names = names_are x.0.path entry.path; short = subst (λ (p : List ℕ). length p ≤ longest) (sym (joined-names_of x.0.path)) entry.path.short })

  paths : HasPaths [] (tree es)
  unfolding tree_of
  paths = has_paths (levels (rests 0 es)) (rests 0 es) [] entry_names_are

  holds : HasSmallSizes es → HoldsEach IsName IsSmall (tree es)
  holds small =
      tree_holds IsName IsSmall (rests 0 es)
      (All-members (HoldsOf IsName IsSmall) (rests 0 es) (λ q c.
      let x = Contains-from_map rest_of es q c in
      let entry = All-member IsEntry es x.0 e.each x.1 in
      subst (λ (r : Rest). HoldsOf IsName IsSmall r) x.2 (record {
        names = names_are x.0.path entry.path;
        file = elim (x.0.file) as (λ o. x.0.file ≡ o → IfSome o IsSmall) [
          | None ↦ λ f. tt
          | Some content ↦ λ f. small.files x.0.path content (subst (λ (y : Entry). Contains es y) (ap (λ (o : Option Content). let y : Entry = record { path = x.0.path; file = o } in y) f) x.1)
        ] refl;
      })))

  -- ---- files

  file-to : (path : List ℕ) (content : Content) → HasNoRootFile es → ListsFile es path content → Contains (files_seen [] (tree es)) (listed_file path content)
  file-to [] content no_root h = absurd (no_root content h)
  file-to (b ∷ bs) content no_root h =
      let part = some_part (b ∷ bs) in
      let here : Contains (rests 0 es) (record { names = part.0 ∷ part.1; file = Some content }) =
      subst (λ (ns : List (List ℕ)). Contains (rests 0 es) (record { names = ns; file = Some content })) part.2 (rest_at es (b ∷ bs) (Some content) h) in
      let seen = files-to part.1 part.0 (rests 0 es) [] content (one_file es e.apart) (under_all es e.apart) here in
      subst (λ (p : List ℕ). Contains (files_seen [] (tree es)) (listed_file p content)) (ap joined (sym part.2) ∙ joined_parts (b ∷ bs)) seen

  -- the entry of some names, by its path
  entry_of : (path : List ℕ) (names : List (List ℕ)) (file : Option Content) → path ≡ joined names → Contains (rests 0 es) (record { names = names; file = file }) → Contains es (record { path = path; file = file })
  entry_of path names file is c =
      let x = Contains-from_map rest_of es (record { names = names; file = file }) c in
      let same : x.0.path ≡ path = sym (joined-names_of x.0.path) ∙ ap (λ (r : Rest). joined r.names) x.2 ∙ sym is in
      let held : x.0.file ≡ file = ap (λ (r : Rest). r.file) x.2 in
      subst (λ (y : Entry). Contains es y) (ap (λ (p : List ℕ). let y : Entry = record { path = p; file = x.0.file } in y) same ∙ ap (λ (f : Option Content). let y : Entry = record { path = path; file = f } in y) held) x.1

  same_content : (c d : Content) → c.digest ≡ d.digest → c.executable ≡ d.executable → c ≡ d
  same_content c d digest executable =
      ap (λ g. let x : Content = record { digest = g; executable = c.executable } in x) digest ∙ ap (λ t. let x : Content = record { digest = d.digest; executable = t } in x) executable

  file-from : (path : List ℕ) (content : Content) → Contains (files_seen [] (tree es)) (listed_file path content) → ListsFile es path content
  unfolding tree_of
  file-from path content h =
      let f = files-from (levels (rests 0 es)) (rests 0 es) [] (listed_file path content) h in
      let is : path ≡ joined (f.first ∷ f.others) = ap (λ (x : TreeFile). x.path) f.is in
      let held : content ≡ f.content = same_content content f.content (ap (λ (x : TreeFile). x.digest) f.is) (ap (λ (x : TreeFile). x.executable) f.is) in
      entry_of path (f.first ∷ f.others) (Some content) is (subst (λ (c : Content). Contains (rests 0 es) (record { names = f.first ∷ f.others; file = Some c })) (sym held) f.listed)

  -- ---- directories

  dir-to : (path : List ℕ) → ListsDir es path → Contains (below bare_in [] (tree es)) path
  dir-to [] h = absurd (h.below_root refl)
  dir-to (b ∷ bs) h =
      let part = some_part (b ∷ bs) in
      let path : joined (part.0 ∷ part.1) ≡ b ∷ bs = ap joined (sym part.2) ∙ joined_parts (b ∷ bs) in
      let here : Contains (rests 0 es) (record { names = part.0 ∷ part.1; file = None }) = subst (λ (ns : List (List ℕ)). Contains (rests 0 es) (record { names = ns; file = None })) part.2 (rest_at es (b ∷ bs) None h.listed) in
      let last : goes_on (rests 0 es) (part.0 ∷ part.1) = λ q c x xs is.
      let y = Contains-from_map rest_of es q c in
      h.bare y.0 y.1 (below-from_names y.0.path (b ∷ bs) x xs (ap (λ (r : Rest). r.names) y.2 ∙ is ∙ ap (λ (ns : List (List ℕ)). ns ++ x ∷ xs) (sym part.2))) in
      let seen = dirs-to part.1 part.0 (rests 0 es) [] (under_all es e.apart) here last (λ none. h.below_root (sym path ∙ none)) in
      subst (λ (p : List ℕ). Contains (below bare_in [] (tree es)) p) path seen

  -- names that are a listed directory's
  no_root_names : (path : List ℕ) (n : List ℕ) (ns : List (List ℕ)) → names_of path ≡ n ∷ ns → path ≢ []
  no_root_names [] n ns is = absurd (cc is)
  no_root_names (b ∷ bs) n ns is = λ none. cc none

  dir-from : (path : List ℕ) → Contains (below bare_in [] (tree es)) path → ListsDir es path
  dir-from path h =
      let d = dirs-from (levels (rests 0 es)) (rests 0 es) [] path (omega arith) h in
      let listed : Contains es (record { path = path; file = None }) = entry_of path (d.first ∷ d.others) None d.is d.listed in
      let x = Contains-from_map rest_of es (record { names = d.first ∷ d.others; file = None }) d.listed in
      let same : x.0.path ≡ path = sym (joined-names_of x.0.path) ∙ ap (λ (r : Rest). joined r.names) x.2 ∙ sym d.is in
      let names : names_of path ≡ d.first ∷ d.others = ap names_of (sym same) ∙ ap (λ (r : Rest). r.names) x.2 in
      record {
        listed = listed;
        below_root = no_root_names path d.first d.others names;
        bare = λ y c under.
            let on = below-names y.path path under in
            d.last (rest_of y) (Contains-map rest_of es y c) on.0 on.1 (on.2 ∙ ap (λ (ns : List (List ℕ)). ns ++ on.0 ∷ on.1) names);
      }

  -- ---- each once

  entry_passes : (path : List ℕ) (x : Entry) → passes (file_at path) [] x.file (names_of x.path) ≡ is_file_at path x
  entry_passes path x =
      elim (x.file) as (λ o. passes (file_at path) [] o (names_of x.path) ≡ (is_some o && bytes_eq x.path path)) [ None ↦ refl | Some c ↦ ap (λ (p : List ℕ). bytes_eq p path) (joined-names_of x.path) ]

  file_count : (path : List ℕ) (xs : List Entry) → rests_passing (file_at path) [] (rests 0 xs) ≡ count_by (is_file_at path) xs
  file_count path [] = refl
  file_count path (x ∷ xs) =
      ap (λ (b : Bool). as_number b + rests_passing (file_at path) [] (rests 0 xs)) (entry_passes path x)
      ∙ ap (λ (n : ℕ). as_number (is_file_at path x) + n) (file_count path xs)
      ∙ sym (counted (is_file_at path) x xs (is_file_at path x) refl)

  each_file_once : IsOnce (λ (f : TreeFile). f.path) (files_seen [] (tree es))
  unfolding tree_of
  each_file_once = λ path.
      let seen = seen_at_most (file_at path) (levels (rests 0 es)) (rests 0 es) [] in
      let count = file_count path es in
      elim (cases_lt 1 (count_by (is_file_at path) es)) [ inl twice ↦ absurd (e.apart.once path twice) | inr once ↦ omega arith ]

  each_dir_once : IsOnce (λ (p : List ℕ). p) (below bare_in [] (tree es))
  each_dir_once = λ path. dirs_once path (levels (rests 0 es)) (rests 0 es) [] (omega arith) tt (λ q c. (entry_names_are q c).names)

  -- ---- the list

  list_of_seen : (listed : Listed) → HasNoRootFile es → IsInOrder (seen_of (tree es)) listed → IsListOf es listed
  list_of_seen listed no_root o =
      let files = files_seen [] (tree es) in
      let dirs = below bare_in [] (tree es) in
      record {
        files = λ path content. (
          λ h. Contains-permutation files listed.files (listed_file path content) o.files (file-to path content no_root h),
          λ h. file-from path content (Contains-permutation listed.files files (listed_file path content) (IsPermutation-sym files listed.files o.files) h),
        );
        files_ordered = strictly_sorted (λ (f : TreeFile). f.path) listed.files o.files_ordered (once-permutation (λ (f : TreeFile). f.path) files listed.files o.files each_file_once);
        dirs = λ path. (
          λ h. Contains-permutation dirs listed.dirs path o.dirs (dir-to path h),
          λ h. dir-from path (Contains-permutation listed.dirs dirs path (IsPermutation-sym dirs listed.dirs o.dirs) h),
        );
        dirs_ordered = strictly_sorted (λ (p : List ℕ). p) listed.dirs o.dirs_ordered (once-permutation (λ (p : List ℕ). p) dirs listed.dirs o.dirs each_dir_once);
      }

  count_is : length (all_bytes (tree es)) ≡ suc (count_below (tree es))
  count_is = length-all_bytes (tree es)

  ok_list : (root : Digest) (blobs : List Blob) (listed : Listed) → HasNoRootFile es → Sees (seen_of (tree es)) (walked_from root blobs) → ListsTree root blobs (Ok listed) → (length (all_bytes (tree es)) ≤ most_files) × IsListOf es listed
  ok_list root blobs listed no_root sees lists =
      let size = count_is in
      elim sees [
        | inl ok ↦
            let count : (seen_of (tree es)).entered ≤ most_files = ok.0 in
            let both : Ok lists.0 ≡ Ok (seen_of (tree es)) = sym lists.1 ∙ ok.1 in
            let same : lists.0 ≡ seen_of (tree es) = cc both in
            (omega arith, list_of_seen listed no_root (subst (λ (s : Seen). IsInOrder s listed) same lists.2))
        | inr full ↦ absurd (cc (sym lists.1 ∙ full.1))
      ]

  -- a refusal is that of the bound
  err_list : (root : Digest) (blobs : List Blob) (fault : TreeFault) → Sees (seen_of (tree es)) (walked_from root blobs) → walked_from root blobs ≡ Err fault → (fault ≡ TooManyFiles) × (most_files < length (all_bytes (tree es)))
  err_list root blobs fault sees refused =
      let size = count_is in
      elim sees [
        | inl ok ↦ absurd (cc (sym ok.1 ∙ refused))
        | inr full ↦
            let count : most_files < (seen_of (tree es)).entered = full.0 in
            let both : Err fault ≡ Err TooManyFiles = sym refused ∙ full.1 in
            (cc both, omega arith)
      ]

  answers : (root : Digest) (blobs : List Blob) (answer : Result Listed TreeFault) → HasNoRootFile es → Sees (seen_of (tree es)) (walked_from root blobs) → ListsTree root blobs answer → GivesBack es answer
  answers root blobs (Ok listed) no_root sees lists = ok_list root blobs listed no_root sees lists
  answers root blobs (Err TooManyFiles) no_root sees lists = (err_list root blobs TooManyFiles sees (lists (λ e. cc e))).1
  answers root blobs (Err (DuplicatePath path)) no_root sees lists = let bad = (err_list root blobs (DuplicatePath path) sees (lists (λ e. cc e))).0 in cc bad
  answers root blobs (Err (FileUnderFile file path)) no_root sees lists = let bad = (err_list root blobs (FileUnderFile file path) sees (lists (λ e. cc e))).0 in cc bad
  answers root blobs (Err (MissingBlob digest)) no_root sees lists = let bad = (err_list root blobs (MissingBlob digest) sees (lists (λ e. cc e))).0 in cc bad
  answers root blobs (Err (NotCanonical digest)) no_root sees lists = let bad = (err_list root blobs (NotCanonical digest) sees (lists (λ e. cc e))).0 in cc bad
  answers root blobs (Err NoMemory) no_root sees lists = tt

  -- what is listed of the tree's blobs is the list again
  pub given_back : (root : Digest) (blobs : List Blob) → root ≡ digest_of (tree_bytes (tree es)) → HasSameMembers (map blob_of (all_bytes (tree es))) blobs → ReadsAgain (tree es) × ReadsAgainBelow (tree es)
      → length (files_seen [] (tree es)) ≤ most_files → IsGivenBack es root blobs
  unfolding tree_of
  given_back root blobs root_is same again fits = λ no_root own small answer lists.
      let finds = finds_all blobs (tree es) (holds small) (in_order (levels (rests 0 es)) (rests 0 es)) again.0 again.1 own same small.directories in
      answers root blobs answer no_root (subst (λ (d : Digest). Sees (seen_of (tree es)) (walked_from d blobs)) (sym root_is) (walk_sees blobs (tree es) paths finds.0 finds.1 fits)) lists

-- ---- no more files are seen than there are

abbrev any : TreeFile → Bool
any file = true

all_counted : (fs : List TreeFile) → tally any fs ≡ length fs
all_counted [] = refl
all_counted (f ∷ fs) = let rest = all_counted fs in omega arith

no_files : (dirs : List (List ℕ)) → rests_passing any [] (rests 0 (map dir_entry dirs)) ≡ 0
no_files [] = refl
no_files (d ∷ ds) = let rest = no_files ds in omega arith

files_counted : (files : List InputFile) (dirs : List (List ℕ)) → rests_passing any [] (rests 0 (entries_of files dirs)) ≡ length files
files_counted [] dirs = no_files dirs
files_counted (f ∷ fs) dirs = let rest = files_counted fs dirs in omega arith

pub few_files : (files : List InputFile) (dirs : List (List ℕ)) → length files ≤ most_files → length (files_seen [] (tree (entries_of files dirs))) ≤ most_files
unfolding tree_of
few_files files dirs le =
    let es = entries_of files dirs in
    let seen = seen_at_most any (levels (rests 0 es)) (rests 0 es) [] in
    let count = files_counted files dirs in
    let all = all_counted (files_seen [] (tree es)) in
    omega arith
