-- What a walk over the Directories of a tree sees.
use Rattle.std.proofs.Common.{◌≡◌, ◌∙◌, ℕ, zero, suc, ◌+◌, ◌<◌, ◌≤◌, ◌==◌, ◌&&◌, ◌⊎◌, inl, inr, true, false, not, List, [], ◌∷◌, ◌++◌, length, nat_lt, Result, Ok, Err, cond, append-nil, append_assoc, length-append, refl, sym, ap, subst, arith}
use Rattle.std.specs.Prelude.{nat_le}
use Rattle.std.specs.List.{AllByRecursion}
use Rattle.std.proofs.lemmas.Bool.{cases_lt, le-leb}
use Rattle.std.proofs.lemmas.Bool.Decides.{nat_tests}
use Rattle.rx_base.specs.Digests.{digest_of}
use Rattle.rx_base.specs.Paths.{IsName, joined, longest}
use Rattle.rx_base.specs.declared.digests.Digest.{Digest}
use Rattle.rx_messages.specs.declared.directories.Directory.{Directory}
use Rattle.rx_base.proofs.Lists.{All-push}
use Rattle.rx_tree.specs.declared.blobs.Blob.{Blob}
use Rattle.rx_tree.specs.declared.listings.TreeFile.{TreeFile}
use Rattle.rx_tree.specs.declared.walks.Seen.{Seen}
use Rattle.rx_tree.specs.declared.walks.Sub.{Sub}
use Rattle.rx_tree.specs.declared.tree_fault.TreeFault.{TreeFault}
use Rattle.rx_tree.specs.declared.tree_fault.TreeFault.TheVariants.{TooManyFiles}
use Rattle.rx_tree.specs.Entries.{Content}
use Rattle.rx_tree.specs.Planting.{directory_of}
use Rattle.rx_tree.specs.Refusals.{most_files}
use Rattle.rx_tree.specs.Trees.{Tree, End, File, Dir, all_bytes, bytes_below, directory_nodes, file_nodes, tree_bytes}
use Rattle.rx_tree.specs.Walks.{directory_at, each, entered, entered_with, is_bare, walked, with_bare, with_files, with_nodes, with_subs}
use Rattle.rx_tree.proofs.JoinLaws.{child_again}
use Rattle.rx_tree.proofs.WalkLemmas.{walked-entered}

-- ---- what is seen, by the names from the root down

abbrev pub file_in : List (List ℕ) → Content → TreeFile
file_in names content = record { path = joined names; digest = content.digest; executable = content.executable }

abbrev pub files_in : List (List ℕ) → Tree → List TreeFile
files_in names End = []
files_in names (File n c t) = file_in (names ++ n ∷ []) c ∷ files_in names t
files_in names (Dir n s t) = files_in names t

abbrev pub subs_in : List (List ℕ) → Tree → List Sub
subs_in names End = []
subs_in names (File n c t) = subs_in names t
subs_in names (Dir n s t) = record { path = joined (names ++ n ∷ []); digest = digest_of (tree_bytes s) } ∷ subs_in names t

abbrev pub bare_in : List (List ℕ) → Tree → List (List ℕ)
bare_in names t = with_bare (joined names) (directory_of t) []

-- what is told of each directory below, each before those below it
abbrev pub below : {A : Type 0} → (List (List ℕ) → Tree → List A) → List (List ℕ) → Tree → List A
below told names End = []
below told names (File n c t) = below told names t
below told names (Dir n s t) = (told (names ++ n ∷ []) s ++ below told (names ++ n ∷ []) s) ++ below told names t

-- how many directories lie below
abbrev pub count_below : Tree → ℕ
count_below End = 0
count_below (File n c t) = count_below t
count_below (Dir n s t) = suc (count_below s) + count_below t

pub length-bytes_below : (t : Tree) → length (bytes_below t) ≡ count_below t
length-bytes_below End = refl
length-bytes_below (File n c t) = length-bytes_below t
length-bytes_below (Dir n s t) =
    let size = length-append (bytes_below s) (tree_bytes s ∷ bytes_below t) in
    let first = length-bytes_below s in
    let rest = length-bytes_below t in
    omega arith

pub length-all_bytes : (t : Tree) → length (all_bytes t) ≡ suc (count_below t)
length-all_bytes t = let size = length-append (bytes_below t) (tree_bytes t ∷ []) in let rest = length-bytes_below t in omega arith

-- ---- trees whose walk meets no refusal but the bound

-- each name is one, and no path is too long
abbrev pub HasPaths : List (List ℕ) → Tree → Type 0
HasPaths names End = Unit {0}
HasPaths names (File n c t) = IsName n × (length (joined (names ++ n ∷ [])) ≤ longest) × HasPaths names t
HasPaths names (Dir n s t) = IsName n × (length (joined (names ++ n ∷ [])) ≤ longest) × HasPaths (names ++ n ∷ []) s × HasPaths names t

-- each directory below is found by its digest
abbrev pub IsFound : List Blob → Tree → Type 0
IsFound blobs t = directory_at (digest_of (tree_bytes t)) blobs ≡ Ok (directory_of t)

abbrev pub FindsBelow : List Blob → Tree → Type 0
FindsBelow blobs End = Unit {0}
FindsBelow blobs (File n c t) = FindsBelow blobs t
FindsBelow blobs (Dir n s t) = IsFound blobs s × FindsBelow blobs s × FindsBelow blobs t

-- ---- one directory

files_again : (digest : Digest) (names : List (List ℕ)) (t : Tree) (items : List TreeFile) → AllByRecursion IsName names → HasPaths names t
    → with_files digest (joined names) (file_nodes t) items ≡ Ok (items ++ files_in names t)
unfolding with_nodes
files_again digest names End items each p = rw (append-nil items) refl
files_again digest names (File n c t) items each p =
    rw (child_again digest names n each p.0 p.1) (files_again digest names t (items ++ file_in (names ++ n ∷ []) c ∷ []) each p.2 ∙ ap (λ (fs : List TreeFile). let r : Result (List TreeFile) TreeFault = Ok fs in r) (append_assoc items (file_in (names ++ n ∷ []) c ∷ []) (files_in names t)))
files_again digest names (Dir n s t) items each p = files_again digest names t items each p.3

abbrev sub_of : List (List ℕ) → List ℕ → Tree → Sub
sub_of names n s = record { path = joined (names ++ n ∷ []); digest = digest_of (tree_bytes s) }

subs_again : (digest : Digest) (names : List (List ℕ)) (t : Tree) (items : List Sub) → AllByRecursion IsName names → HasPaths names t
    → with_subs digest (joined names) (directory_nodes t) items ≡ Ok (items ++ subs_in names t)
unfolding with_nodes
subs_again digest names End items each p = rw (append-nil items) refl
subs_again digest names (File n c t) items each p = subs_again digest names t items each p.2
subs_again digest names (Dir n s t) items each p =
    rw (child_again digest names n each p.0 p.1) (subs_again digest names t (items ++ sub_of names n s ∷ []) each p.3 ∙ ap (λ (ss : List Sub). let r : Result (List Sub) TreeFault = Ok ss in r) (append_assoc items (sub_of names n s ∷ []) (subs_in names t)))

with_bare-on : (path : List ℕ) (directory : Directory) (dirs : List (List ℕ)) → with_bare path directory dirs ≡ dirs ++ with_bare path directory []
with_bare-on path directory dirs =
    elim (not (length path == 0) && is_bare directory) as (λ b. cond b (dirs ++ path ∷ []) dirs ≡ dirs ++ cond b (path ∷ []) []) [ true ↦ refl | false ↦ sym (append-nil dirs) ]

-- after so many directories, with more files and bare directories
abbrev pub more : Seen → ℕ → List TreeFile → List (List ℕ) → Seen
more seen count files dirs = record { entered = seen.entered + count; files = seen.files ++ files; dirs = seen.dirs ++ dirs }

entered_again : (blobs : List Blob) (names : List (List ℕ)) (t : Tree) (seen : Seen) → AllByRecursion IsName names → HasPaths names t → IsFound blobs t → seen.entered < most_files
    → length (seen.files ++ files_in names t) ≤ most_files
    → entered blobs (digest_of (tree_bytes t)) (joined names) seen ≡ Ok (entered_with (more seen 1 (files_in names t) (bare_in names t)) (subs_in names t))
unfolding entered
entered_again blobs names t seen each p found room fits =
    let digest = digest_of (tree_bytes t) in
    let open_ : nat_le most_files seen.entered ≡ false = grind (arith, nat_tests) in
    let within : nat_lt most_files (length (seen.files ++ files_in names t)) ≡ false = grind (arith, nat_tests) in
    rw (open_, found, files_again digest names t seen.files each p, subs_again digest names t [] each p, within)
    (ap (λ (dirs : List (List ℕ)). let r : Result _ TreeFault = Ok (entered_with (record { entered = seen.entered + 1; files = seen.files ++ files_in names t; dirs = dirs }) (subs_in names t)) in r) (with_bare-on (joined names) (directory_of t) seen.dirs))

-- ---- the walk

-- A walk sees this, or there are more directories than may be entered.
abbrev pub Sees : Seen → Result Seen TreeFault → Type 0
Sees seen r = ((seen.entered ≤ most_files) × (r ≡ Ok seen)) ⊎ ((most_files < seen.entered) × (r ≡ Err TooManyFiles))

more_more : (seen : Seen) (m n : ℕ) (fs gs : List TreeFile) (ds es : List (List ℕ)) → more (more seen m fs ds) n gs es ≡ more seen (m + n) (fs ++ gs) (ds ++ es)
more_more seen m n fs gs ds es =
    let count : seen.entered + m + n ≡ seen.entered + (m + n) = omega arith in
    ap (λ (k : ℕ). let s : Seen = record { entered = k; files = (seen.files ++ fs) ++ gs; dirs = (seen.dirs ++ ds) ++ es } in s) count
    ∙ ap (λ (xs : List TreeFile). let s : Seen = record { entered = seen.entered + (m + n); files = xs; dirs = (seen.dirs ++ ds) ++ es } in s) (append_assoc seen.files fs gs)
    ∙ ap (λ (xs : List (List ℕ)). let s : Seen = record { entered = seen.entered + (m + n); files = seen.files ++ (fs ++ gs); dirs = xs } in s) (append_assoc seen.dirs ds es)

abbrev pub go : ℕ → List Blob → Sub → Seen → Result Seen TreeFault
go most blobs sub next = walked most blobs sub.digest sub.path next

abbrev pub each_of : ℕ → List Blob → List Sub → Seen → Result Seen TreeFault
each_of most blobs subs seen = each (go most blobs) subs seen

-- what a walk over the directories in one sees
abbrev pub SeesBelow : List Blob → Tree → Type 0
SeesBelow blobs t = (most : ℕ) (names : List (List ℕ)) (seen : Seen) → AllByRecursion IsName names → HasPaths names t → seen.entered ≤ most_files → most_files < most + seen.entered
    → length (seen.files ++ below files_in names t) ≤ most_files → Sees (more seen (count_below t) (below files_in names t) (below bare_in names t)) (each_of most blobs (subs_in names t) seen)

module _ (blobs : List Blob) (t : Tree) (found : IsFound blobs t) (down : SeesBelow blobs t) where
  -- a directory and all below it
  pub sees_directory : (most : ℕ) (names : List (List ℕ)) (seen : Seen) → AllByRecursion IsName names → HasPaths names t → seen.entered ≤ most_files → most_files < most + seen.entered
      → length (seen.files ++ (files_in names t ++ below files_in names t)) ≤ most_files
      → Sees (more seen (suc (count_below t)) (files_in names t ++ below files_in names t) (bare_in names t ++ below bare_in names t)) (walked most blobs (digest_of (tree_bytes t)) (joined names) seen)
  unfolding walked entered
  sees_directory zero names seen each p le enough fits = absurd (omega arith)
  sees_directory (suc most) names seen each p le enough fits =
      let files = files_in names t in
      let rest = below files_in names t in
      let next = more seen 1 files (bare_in names t) in
      let front = length-append seen.files files in
      let back = length-append files rest in
      let both = length-append seen.files (files ++ rest) in
      let whole = length-append (seen.files ++ files) rest in
      let one_more : 1 + count_below t ≡ suc (count_below t) = omega arith in
      elim (cases_lt seen.entered most_files) [
        | inl room ↦
            rw (walked-entered most blobs (digest_of (tree_bytes t)) (joined names) seen next (subs_in names t) (entered_again blobs names t seen each p found room (omega arith)))
            (subst (λ (s : Seen). Sees s (each_of most blobs (subs_in names t) next))
            (more_more seen 1 (count_below t) files rest (bare_in names t) (below bare_in names t) ∙ ap (λ (k : ℕ). more seen k (files ++ rest) (bare_in names t ++ below bare_in names t)) one_more)
            (down most names next each p (omega arith) (omega arith) (omega arith)))
        | inr full ↦ let shut : nat_le most_files seen.entered ≡ true = le-leb most_files seen.entered full in inr (omega arith, rw shut refl)
      ]

-- the directories below one
pub sees_below : (blobs : List Blob) (t : Tree) → FindsBelow blobs t → SeesBelow blobs t
sees_below blobs End found = λ most names seen each p le enough fits.
    let same : more seen 0 [] [] ≡ seen =
    let count : seen.entered + 0 ≡ seen.entered = omega arith in
    ap (λ (k : ℕ). let s : Seen = record { entered = k; files = seen.files ++ []; dirs = seen.dirs ++ [] } in s) count
    ∙ ap (λ (fs : List TreeFile). let s : Seen = record { entered = seen.entered; files = fs; dirs = seen.dirs ++ [] } in s) (append-nil seen.files)
    ∙ ap (λ (ds : List (List ℕ)). let s : Seen = record { entered = seen.entered; files = seen.files; dirs = ds } in s) (append-nil seen.dirs) in
    inl (omega arith, ap (λ (s : Seen). let r : Result Seen TreeFault = Ok s in r) (sym same))
sees_below blobs (File n c t) found = λ most names seen each p le enough fits. sees_below blobs t found most names seen each p.2 le enough fits
sees_below blobs (Dir n s t) found = λ most names seen each p le enough fits.
    let on = names ++ n ∷ [] in
    let files = files_in on s ++ below files_in on s in
    let dirs = bare_in on s ++ below bare_in on s in
    let rest = below files_in names t in
    let next = more seen (suc (count_below s)) files dirs in
    let front = length-append seen.files files in
    let back = length-append files rest in
    let both = length-append seen.files (files ++ rest) in
    let whole = length-append (seen.files ++ files) rest in
    elim (sees_directory blobs s found.0 (sees_below blobs s found.1) most on seen (All-push IsName names n each p.0) p.2 le enough (omega arith)) [
      | inl ok ↦
          let room : next.entered ≤ most_files = ok.0 in
          rw ok.1
          (subst (λ (s : Seen). Sees s (each_of most blobs (subs_in names t) next)) (more_more seen (suc (count_below s)) (count_below t) files rest dirs (below bare_in names t))
          (sees_below blobs t found.2 most names next each p.3 room (omega arith) (omega arith)))
      | inr full ↦ let past : most_files < next.entered = full.0 in inr (omega arith, rw full.1 refl)
    ]
