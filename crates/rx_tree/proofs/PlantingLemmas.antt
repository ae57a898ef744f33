-- The Directories of a list of entries, run by run.
use Rattle.std.proofs.Common.{◌≡◌, ◌∙◌, ℕ, suc, ◌+◌, ◌<◌, ◌≤◌, Bool, true, false, List, [], ◌∷◌, ◌++◌, Option, Some, None, Ok, length, get_or, map, drop, take, cond, max, append-nil, append_assoc, refl, sym, ap, subst, arith}
use Rattle.std.specs.List.{AllByRecursion, prefix_len}
use Rattle.std.proofs.lemmas.List.{drop-drop, drop_all, length-take-le, map-append, take-append-drop}
use Rattle.rx_base.specs.Digests.{digest_of}
use Rattle.rx_messages.specs.Directories.{directory_is_readable}
use Rattle.rx_messages.specs.declared.directories.Directory.{Directory}
use Rattle.rx_messages.specs.declared.nodes.FileNode.{FileNode}
use Rattle.rx_messages.specs.declared.nodes.DirectoryNode.{DirectoryNode}
use Rattle.rx_base.proofs.ByteLists.{bytes_eq-itself}
use Rattle.rx_tree.specs.declared.blobs.Blob.{Blob}
use Rattle.rx_tree.specs.Blobs.{blob_of}
use Rattle.rx_tree.specs.Entries.{Content, Entry, names_of}
use Rattle.rx_tree.specs.Planting.{IsReady, ReadsAgain, ReadsAgainBelow, goes_alike, run_length}
use Rattle.rx_tree.specs.Trees.{Tree, End, File, Dir, Rest, all_bytes, bytes_below, bytes_with, directory_node, directory_nodes, file_at_end, file_here, file_node, file_nodes, first_name, levels, planted, rests, tree_bytes, tree_of, within}
use Rattle.rx_tree.specs.Walks.{read_directory}
use Rattle.rx_tree.proofs.ReadyLemmas.{dir_run, file_run, others_begin, ready-back, ready-front, ready-within, run_begins, some_names}
use Rattle.rx_tree.proofs.TreeLemmas.{levels-append, levels-within, tree_of-at}
use Rattle.rx_tree.proofs.TreeRuns.{BeginsWith, tree_of-here, tree_of-run}

-- what of all entries is done, and what is left
pub record IsPlanted (all left : List Rest) (files : List FileNode) (directories : List DirectoryNode) (start blobs : List Blob) : Type 0 where
  pub ready : IsReady left
  pub fewer : levels left ≤ levels all
  pub files_are : file_nodes (tree_of all) ≡ files ++ file_nodes (tree_of left)
  pub directories_are : directory_nodes (tree_of all) ≡ directories ++ directory_nodes (tree_of left)
  pub blobs_are : start ++ map blob_of (bytes_below (tree_of all)) ≡ blobs ++ map blob_of (bytes_below (tree_of left))
  pub again : ReadsAgainBelow (tree_of left) → ReadsAgainBelow (tree_of all)

-- ---- a run and the others

abbrev pub rest_after : ℕ → Entry → Rest
rest_after depth entry = record { names = drop depth (names_of entry.path); file = entry.file }

abbrev alike : ℕ → Entry → Entry → Bool
alike depth x y = goes_alike (drop depth (names_of x.path)) (drop depth (names_of y.path))

goes_alike-itself : (names : List (List ℕ)) → goes_alike names names ≡ true
goes_alike-itself [] = refl
goes_alike-itself (n ∷ ns) = bytes_eq-itself n

front_passes : (test : Entry → Bool) (xs : List Entry) → AllByRecursion (λ x. test x ≡ true) (take (prefix_len test xs) xs)
front_passes test [] = tt
front_passes test (x ∷ xs) =
    elim (test x) as (λ b. test x ≡ b → AllByRecursion (λ y. test y ≡ true) (take (cond b (1 + prefix_len test xs) 0) (x ∷ xs))) [
      | true ↦ λ e. let up : 1 + prefix_len test xs ≡ suc (prefix_len test xs) = omega arith in rw up (e, front_passes test xs)
      | false ↦ λ e. tt
    ] refl

back_fails : (test : Entry → Bool) (xs : List Entry) (o : Entry) (os : List Entry) → drop (prefix_len test xs) xs ≡ o ∷ os → test o ≡ false
back_fails test [] o os h = absurd (cc h)
back_fails test (x ∷ xs) o os h =
    elim (test x) as (λ b. test x ≡ b → drop (cond b (1 + prefix_len test xs) 0) (x ∷ xs) ≡ o ∷ os → test o ≡ false) [
      | true ↦ λ e h. let up : 1 + prefix_len test xs ≡ suc (prefix_len test xs) = omega arith in back_fails test xs o os (rw up at h)
      | false ↦ λ e h. let same : x ≡ o = cc h in rw (← same) e
    ] refl h

pub record IsCut (depth : ℕ) (x : Entry) (xs : List Entry) : Type 0 where
  pub run : List Entry
  pub others : List Entry
  pub taken : take (run_length depth x xs) xs ≡ x ∷ run
  pub left : drop (run_length depth x xs) xs ≡ others
  pub whole : xs ≡ x ∷ (run ++ others)
  pub alike : AllByRecursion (λ y. goes_alike (drop depth (names_of x.path)) (drop depth (names_of y.path)) ≡ true) run
  pub unlike : (o : Entry) (os : List Entry) → others ≡ o ∷ os → goes_alike (drop depth (names_of x.path)) (drop depth (names_of o.path)) ≡ false
  pub long : run_length depth x xs ≡ suc (length run)

prefix-within : (test : Entry → Bool) (xs : List Entry) → prefix_len test xs ≤ length xs
prefix-within test [] = omega arith
prefix-within test (x ∷ xs) =
    elim (test x) as (λ b. cond b (1 + prefix_len test xs) 0 ≤ length (x ∷ xs)) [ true ↦ let rest = prefix-within test xs in omega arith | false ↦ omega arith ]

cut_head : (depth : ℕ) (x : Entry) (ys : List Entry) → IsCut depth x (x ∷ ys)
cut_head depth x ys =
    let test = alike depth x in
    let n = prefix_len test ys in
    let here : test x ≡ true = goes_alike-itself (drop depth (names_of x.path)) in
    let long : run_length depth x (x ∷ ys) ≡ suc n = rw here (omega arith) in
    record {
      run = take n ys;
      others = drop n ys;
      taken = rw long refl;
      left = rw long refl;
      whole = ap (λ (es : List Entry). x ∷ es) (sym (take-append-drop n ys));
      alike = front_passes test ys;
      unlike = back_fails test ys;
      long = long ∙ ap suc (sym (length-take-le n ys (prefix-within test ys)));
    }

cut_at : (depth : ℕ) (x : Entry) (xs : List Entry) → 0 < length xs → x ≡ get_or xs 0 x → IsCut depth x xs
cut_at depth x [] some is = absurd (omega arith)
cut_at depth x (y ∷ ys) some is = subst (λ (z : Entry). IsCut depth x (z ∷ ys)) is (cut_head depth x ys)

-- ---- what a step adds

planted_on : {all left next : List Rest} {files more_files : List FileNode} {directories more_directories : List DirectoryNode} {start blobs more_blobs : List Blob}
    → IsPlanted all left files directories start blobs → (f : List FileNode) (d : List DirectoryNode) (b : List (List ℕ)) → IsReady next → levels next ≤ levels left
    → file_nodes (tree_of left) ≡ f ++ file_nodes (tree_of next) → directory_nodes (tree_of left) ≡ d ++ directory_nodes (tree_of next) → bytes_below (tree_of left) ≡ b ++ bytes_below (tree_of next)
    → (ReadsAgainBelow (tree_of next) → ReadsAgainBelow (tree_of left)) → more_files ≡ files ++ f → more_directories ≡ directories ++ d → more_blobs ≡ blobs ++ map blob_of b → IsPlanted all next more_files more_directories start more_blobs
planted_on {all} {left} {next} {files} {more_files} {directories} {more_directories} {start} {blobs} {more_blobs} p f d b ready fewer ff dd bb again fs ds bs = record {
  ready = ready;
  fewer = let le : levels left ≤ levels all = p.fewer in omega arith;
  files_are = p.files_are ∙ ap (λ (ns : List FileNode). files ++ ns) ff ∙ sym (append_assoc files f (file_nodes (tree_of next))) ∙ ap (λ (ns : List FileNode). ns ++ file_nodes (tree_of next)) (sym fs);
  directories_are = p.directories_are ∙ ap (λ (ns : List DirectoryNode). directories ++ ns) dd ∙ sym (append_assoc directories d (directory_nodes (tree_of next)))
      ∙ ap (λ (ns : List DirectoryNode). ns ++ directory_nodes (tree_of next)) (sym ds);
  blobs_are = p.blobs_are ∙ ap (λ (ns : List (List ℕ)). blobs ++ map blob_of ns) bb ∙ ap (λ (ns : List Blob). blobs ++ ns) (map-append blob_of b (bytes_below (tree_of next)))
      ∙ sym (append_assoc blobs (map blob_of b) (map blob_of (bytes_below (tree_of next)))) ∙ ap (λ (ns : List Blob). ns ++ map blob_of (bytes_below (tree_of next))) (sym bs);
  again = λ h. p.again (again h);
}

-- the same tree is left
planted_same : {all left next : List Rest} {files : List FileNode} {directories : List DirectoryNode} {start blobs : List Blob}
    → IsPlanted all left files directories start blobs → IsReady next → levels next ≤ levels left → tree_of left ≡ tree_of next → IsPlanted all next files directories start blobs
planted_same {all} {left} {next} p ready fewer e = record {
  ready = ready;
  fewer = let le : levels left ≤ levels all = p.fewer in omega arith;
  files_are = rw (← e) p.files_are;
  directories_are = rw (← e) p.directories_are;
  blobs_are = rw (← e) p.blobs_are;
  again = λ h. p.again (subst ReadsAgainBelow (sym e) h);
}

-- ---- one run, as the entries go on

All-mapped : {A B : Type 0} (P : B → Type 0) (f : A → B) (xs : List A) → AllByRecursion (λ x. P (f x)) xs → AllByRecursion P (map f xs)
All-mapped P f [] h = tt
All-mapped P f (x ∷ xs) h = (h.0, All-mapped P f xs h.1)

mapped_head : (depth : ℕ) (x : Entry) (others : List Entry) → ((o : Entry) (os : List Entry) → others ≡ o ∷ os → goes_alike (drop depth (names_of x.path)) (drop depth (names_of o.path)) ≡ false)
    → (q : Rest) (qs : List Rest) → rests depth others ≡ q ∷ qs → goes_alike (drop depth (names_of x.path)) q.names ≡ false
mapped_head depth x [] h q qs e = absurd (cc e)
mapped_head depth x (o ∷ os) h q qs e = let same : rest_after depth o ≡ q = cc e in subst (λ (z : Rest). goes_alike (drop depth (names_of x.path)) z.names ≡ false) same (h o os refl)

no_more : (names : List (List ℕ)) → first_name names ≡ [] → names ≡ []
no_more [] e = refl
no_more (n ∷ ns) e = absurd (cc e)

alike_none : (names others : List (List ℕ)) → names ≡ [] → goes_alike names others ≡ true → others ≡ []
alike_none [] [] e h = refl
alike_none [] (n ∷ ns) e h = absurd (cc h)
alike_none (m ∷ ms) others e h = absurd (cc e)

tree_of-ended : (run others : List Rest) → AllByRecursion (λ q. q.names ≡ []) run → tree_of (run ++ others) ≡ tree_of others
tree_of-ended [] others h = refl
tree_of-ended (q ∷ run) others h = tree_of-here q (run ++ others) h.0 ∙ tree_of-ended run others h.1

All-turned : (P Q : Rest → Type 0) (xs : List Rest) → ((x : Rest) → P x → Q x) → AllByRecursion P xs → AllByRecursion Q xs
All-turned P Q [] f h = tt
All-turned P Q (x ∷ xs) f h = (f x h.0, All-turned P Q xs f h.1)

rests_down : (depth : ℕ) (name : List ℕ) (es : List Entry) → AllByRecursion (BeginsWith name) (rests depth es) → rests (depth + 1) es ≡ within name (rests depth es)
rests_down depth name [] h = refl
rests_down depth name (e ∷ es) h =
    let names = some_names (drop depth (names_of e.path)) name h.0 in
    let down : drop (depth + 1) (names_of e.path) ≡ names.0 = sym (drop-drop 1 depth (names_of e.path)) ∙ ap (λ (ns : List (List ℕ)). drop 1 ns) names.1 in
    rw (names.1, bytes_eq-itself name, down, rests_down depth name es h.1) refl

pub run_within : (depth : ℕ) (x : Entry) (rest : List Entry) → run_length depth x rest ≤ length rest
run_within depth x rest = prefix-within (alike depth x) rest

module _ (depth : ℕ) (entries rest : List Entry) (at : ℕ) (x : Entry) (rest_is : rest ≡ drop at entries) (some : 0 < length rest) (x_is : x ≡ get_or rest 0 x) where
  pub run_some : 0 < run_length depth x rest
  run_some = let c = cut_at depth x rest some x_is in omega (arith, c.long)

  shape : (c : IsCut depth x rest) → rests depth rest ≡ rest_after depth x ∷ (rests depth c.run ++ rests depth c.others)
  shape c = ap (rests depth) c.whole ∙ ap (λ (rs : List Rest). rest_after depth x ∷ rs) (map-append (rest_after depth) c.run c.others)

  next_is : (c : IsCut depth x rest) (n : ℕ) → n ≡ run_length depth x rest → c.others ≡ drop (at + n) entries
  next_is c n e = sym c.left ∙ rw (← e, rest_is) (drop-drop n at entries)

  levels_fewer : (c : IsCut depth x rest) → levels (rests depth c.others) ≤ levels (rests depth rest)
  levels_fewer c =
      let both = levels-append (rests depth c.run) (rests depth c.others) in
      let whole = ap levels (shape c) in
      omega arith

  ready_others : (c : IsCut depth x rest) → IsReady (rests depth rest) → IsReady (rests depth c.others)
  ready_others c ready = ready-back (rest_after depth x ∷ rests depth c.run) (rests depth c.others) (subst (λ (rs : List Rest). IsReady rs) (shape c) ready)

  ready_run : (c : IsCut depth x rest) → IsReady (rests depth rest) → IsReady (rest_after depth x ∷ rests depth c.run)
  ready_run c ready = ready-front (rest_after depth x ∷ rests depth c.run) (rests depth c.others) (subst (λ (rs : List Rest). IsReady rs) (shape c) ready)

  run_alike : (c : IsCut depth x rest) → AllByRecursion (λ q. goes_alike (drop depth (names_of x.path)) q.names ≡ true) (rests depth c.run)
  run_alike c = All-mapped (λ q. goes_alike (drop depth (names_of x.path)) q.names ≡ true) (rest_after depth) c.run c.alike

  -- entries that go no further
  tree_ended : (c : IsCut depth x rest) → first_name (drop depth (names_of x.path)) ≡ [] → tree_of (rests depth rest) ≡ tree_of (rests depth c.others)
  tree_ended c none =
      let ends : drop depth (names_of x.path) ≡ [] = no_more (drop depth (names_of x.path)) none in
      ap tree_of (shape c)
      ∙ tree_of-here (rest_after depth x) (rests depth c.run ++ rests depth c.others) ends
      ∙ tree_of-ended (rests depth c.run) (rests depth c.others)
      (All-turned (λ q. goes_alike (drop depth (names_of x.path)) q.names ≡ true) (λ q. q.names ≡ []) (rests depth c.run) (λ q h. alike_none (drop depth (names_of x.path)) q.names ends h) (run_alike c))

  -- entries that go on by a name
  run_named : (c : IsCut depth x rest) (name : List ℕ) → first_name (drop depth (names_of x.path)) ≡ name ∷ [] → AllByRecursion (BeginsWith name) (rest_after depth x ∷ rests depth c.run)
  run_named c name first = (first, run_begins name (rest_after depth x) (rests depth c.run) first (run_alike c))

  tree_named : (c : IsCut depth x rest) (name : List ℕ) → first_name (drop depth (names_of x.path)) ≡ name ∷ [] → IsReady (rests depth rest)
      → tree_of (rests depth rest)
      ≡ planted name (file_here (within name (rest_after depth x ∷ rests depth c.run))) (tree_of (within name (rest_after depth x ∷ rests depth c.run))) (tree_of (rests depth c.others))
  tree_named c name first ready =
      ap tree_of (shape c)
      ∙ tree_of-run name (rest_after depth x) (rests depth c.run) (rests depth c.others) (run_named c name first)
      (others_begin name (rest_after depth x) (rests depth c.run) (rests depth c.others) first (subst (λ (rs : List Rest). IsReady rs) (shape c) ready) (mapped_head depth x c.others c.unlike))

  -- the names after the first
  names_on : (name : List ℕ) → first_name (drop depth (names_of x.path)) ≡ name ∷ [] → drop depth (names_of x.path) ≡ name ∷ drop (depth + 1) (names_of x.path)
  names_on name first =
      let names = some_names (drop depth (names_of x.path)) name first in
      let down : drop (depth + 1) (names_of x.path) ≡ names.0 = sym (drop-drop 1 depth (names_of x.path)) ∙ ap (λ (ns : List (List ℕ)). drop 1 ns) names.1 in
      names.1 ∙ ap (λ (ns : List (List ℕ)). name ∷ ns) (sym down)

  pub next_ended : (n : ℕ) → n ≡ run_length depth x rest → {files : List FileNode} {directories : List DirectoryNode} {start blobs : List Blob}
      → IsPlanted (rests depth entries) (rests depth (drop at entries)) files directories start blobs → first_name (drop depth (names_of x.path)) ≡ []
      → IsPlanted (rests depth entries) (rests depth (drop (at + n) entries)) files directories start blobs
  next_ended n e {files} {directories} {start} {blobs} p none =
      let c = cut_at depth x rest some x_is in
      let q : IsPlanted (rests depth entries) (rests depth rest) files directories start blobs = rw rest_is p in
      subst (λ (es : List Entry). IsPlanted (rests depth entries) (rests depth es) files directories start blobs) (next_is c n e) (planted_same q (ready_others c q.ready) (levels_fewer c) (tree_ended c none))

  pub next_file : (n : ℕ) → n ≡ run_length depth x rest → {files : List FileNode} {directories : List DirectoryNode} {start blobs : List Blob}
      → IsPlanted (rests depth entries) (rests depth (drop at entries)) files directories start blobs → (name : List ℕ) (content : Content) → first_name (drop depth (names_of x.path)) ≡ name ∷ []
      → file_at_end (drop (depth + 1) (names_of x.path)) x.file ≡ Some content
      → IsPlanted (rests depth entries) (rests depth (drop (at + n) entries)) (files ++ file_node name content ∷ []) directories start blobs
  next_file n e {files} {directories} {start} {blobs} p name content first file =
      let c = cut_at depth x rest some x_is in
      let q : IsPlanted (rests depth entries) (rests depth rest) files directories start blobs = rw rest_is p in
      let run = rest_after depth x ∷ rests depth c.run in
      let sub = tree_of (within name run) in
      let others = tree_of (rests depth c.others) in
      let is : tree_of (rests depth rest) ≡ File name content others =
      tree_named c name first q.ready ∙ ap (λ (f : Option Content). planted name f sub others) (file_run name (drop (depth + 1) (names_of x.path)) content (rest_after depth x) (rests depth c.run) (names_on name first) file) in
      subst (λ (es : List Entry). IsPlanted (rests depth entries) (rests depth es) (files ++ file_node name content ∷ []) directories start blobs) (next_is c n e)
      (planted_on q (file_node name content ∷ []) [] [] (ready_others c q.ready) (levels_fewer c) (ap file_nodes is) (ap directory_nodes is) (ap bytes_below is)
      (λ h. subst ReadsAgainBelow (sym is) h) refl (sym (append-nil directories)) (sym (append-nil blobs)))

  pub next_directory : (n : ℕ) → n ≡ run_length depth x rest → {files : List FileNode} {directories : List DirectoryNode} {start blobs more : List Blob}
      → IsPlanted (rests depth entries) (rests depth (drop at entries)) files directories start blobs → (name : List ℕ) → first_name (drop depth (names_of x.path)) ≡ name ∷ []
      → file_at_end (drop (depth + 1) (names_of x.path)) x.file ≡ None → (run : List Entry) → run ≡ take (run_length depth x rest) rest
      → more ≡ blobs ++ map blob_of (all_bytes (tree_of (rests (depth + 1) run))) → ReadsAgain (tree_of (rests (depth + 1) run)) × ReadsAgainBelow (tree_of (rests (depth + 1) run))
      → IsPlanted (rests depth entries) (rests depth (drop (at + n) entries)) files (directories ++ directory_node name (digest_of (tree_bytes (tree_of (rests (depth + 1) run)))) ∷ []) start more
  next_directory n e {files} {directories} {start} {blobs} {more} p name first file taken run_is more_is reads =
      let c = cut_at depth x rest some x_is in
      let q : IsPlanted (rests depth entries) (rests depth rest) files directories start blobs = rw rest_is p in
      let run = rest_after depth x ∷ rests depth c.run in
      let sub = tree_of (within name run) in
      let others = tree_of (rests depth c.others) in
      let is : tree_of (rests depth rest) ≡ Dir name sub others =
      tree_named c name first q.ready
      ∙ ap (λ (f : Option Content). planted name f sub others) (dir_run name (drop (depth + 1) (names_of x.path)) (rest_after depth x) (rests depth c.run) (names_on name first) file (ready_run c q.ready).0) in
      let down : tree_of (rests (depth + 1) taken) ≡ sub = ap (λ (es : List Entry). tree_of (rests (depth + 1) es)) (run_is ∙ c.taken) ∙ ap tree_of (rests_down depth name (x ∷ c.run) (run_named c name first)) in
      subst (λ (es : List Entry). IsPlanted (rests depth entries) (rests depth es) files (directories ++ directory_node name (digest_of (tree_bytes (tree_of (rests (depth + 1) taken)))) ∷ []) start more) (next_is c n e)
      (planted_on q [] (directory_node name (digest_of (tree_bytes (tree_of (rests (depth + 1) taken)))) ∷ []) (all_bytes sub) (ready_others c q.ready) (levels_fewer c) (ap file_nodes is)
      (rw down (ap directory_nodes is)) (ap bytes_below is ∙ sym (append_assoc (bytes_below sub) (tree_bytes sub ∷ []) (bytes_below others)))
      (λ h. subst ReadsAgainBelow (sym is) (subst ReadsAgain down reads.0, subst ReadsAgainBelow down reads.1, h)) (sym (append-nil files)) refl (rw (← down) more_is))

  -- the run itself, one level down
  pub down_ready : {files : List FileNode} {directories : List DirectoryNode} {start blobs : List Blob} → IsPlanted (rests depth entries) (rests depth (drop at entries)) files directories start blobs
      → (name : List ℕ) → first_name (drop depth (names_of x.path)) ≡ name ∷ [] → (run : List Entry) → run ≡ take (run_length depth x rest) rest
      → (levels (rests (depth + 1) run) < levels (rests depth entries)) × IsReady (rests (depth + 1) run)
  down_ready {files} {directories} {start} {blobs} p name first taken run_is =
      let c = cut_at depth x rest some x_is in
      let q : IsPlanted (rests depth entries) (rests depth rest) files directories start blobs = rw rest_is p in
      let run = rest_after depth x ∷ rests depth c.run in
      let down : rests (depth + 1) taken ≡ within name run = ap (λ (es : List Entry). rests (depth + 1) es) (run_is ∙ c.taken) ∙ rests_down depth name (x ∷ c.run) (run_named c name first) in
      let fewer = levels-within name run in
      let whole : levels (rests depth rest) ≡ levels (run ++ rests depth c.others) = ap levels (shape c) in
      let both : levels (run ++ rests depth c.others) ≡ max (levels run) (levels (rests depth c.others)) = levels-append run (rests depth c.others) in
      let all : levels (rests depth rest) ≤ levels (rests depth entries) = q.fewer in
      let head : length (drop depth (names_of x.path)) ≡ suc (length (drop (depth + 1) (names_of x.path))) = ap (λ (ns : List (List ℕ)). length ns) (names_on name first) in
      (rw down (omega arith), rw down (ready-within name run (ready_run c q.ready)))

-- ---- nothing is left

tree_of-nothing : tree_of [] ≡ End
tree_of-nothing = tree_of-at 0 [] (omega arith)

left_nothing : (depth at : ℕ) (entries : List Entry) → length entries ≤ at → tree_of (rests depth (drop at entries)) ≡ End
left_nothing depth at entries le = ap (λ (es : List Entry). tree_of (rests depth es)) (drop_all at entries le) ∙ tree_of-nothing

abbrev pub ReadsWith : List FileNode → List DirectoryNode → Type 0
ReadsWith files directories =
    let directory : Directory = record { files = files; directories = directories; symlinks = [] } in
    directory_is_readable directory → read_directory (bytes_with files directories) ≡ Ok directory

module _ {all : List Rest} (depth at : ℕ) (entries : List Entry) {files : List FileNode} {directories : List DirectoryNode} {start blobs : List Blob}
    (p : IsPlanted all (rests depth (drop at entries)) files directories start blobs) (le : length entries ≤ at) where
  files_whole : file_nodes (tree_of all) ≡ files
  files_whole = p.files_are ∙ ap (λ (t : Tree). files ++ file_nodes t) (left_nothing depth at entries le) ∙ append-nil files

  directories_whole : directory_nodes (tree_of all) ≡ directories
  directories_whole = p.directories_are ∙ ap (λ (t : Tree). directories ++ directory_nodes t) (left_nothing depth at entries le) ∙ append-nil directories

  pub planted_all : (bytes_with files directories ≡ tree_bytes (tree_of all)) × (start ++ map blob_of (bytes_below (tree_of all)) ≡ blobs)
  planted_all = (
    sym (ap (λ (ns : List FileNode). bytes_with ns (directory_nodes (tree_of all))) files_whole ∙ ap (λ (ns : List DirectoryNode). bytes_with files ns) directories_whole),
    p.blobs_are ∙ ap (λ (t : Tree). blobs ++ map blob_of (bytes_below t)) (left_nothing depth at entries le) ∙ append-nil blobs,
  )

  -- and each Directory is read again
  pub planted_again : ReadsWith files directories → ReadsAgain (tree_of all) × ReadsAgainBelow (tree_of all)
  planted_again reads = (
    subst (λ (fs : List FileNode). ReadsWith fs (directory_nodes (tree_of all))) (sym files_whole) (subst (λ (ds : List DirectoryNode). ReadsWith files ds) (sym directories_whole) reads),
    p.again (subst ReadsAgainBelow (sym (left_nothing depth at entries le)) tt),
  )

-- the blob of the directory itself comes last
pub all_pushed : (start blobs : List Blob) (t : Tree) (bytes : List ℕ) → start ++ map blob_of (bytes_below t) ≡ blobs → bytes ≡ tree_bytes t → blobs ++ blob_of bytes ∷ [] ≡ start ++ map blob_of (all_bytes t)
all_pushed start blobs t bytes below is =
    ap (λ (bs : List Blob). bs ++ blob_of bytes ∷ []) (sym below)
    ∙ ap (λ (b : List ℕ). (start ++ map blob_of (bytes_below t)) ++ blob_of b ∷ []) is
    ∙ append_assoc start (map blob_of (bytes_below t)) (blob_of (tree_bytes t) ∷ [])
    ∙ ap (λ (bs : List Blob). start ++ bs) (sym (map-append blob_of (bytes_below t) (tree_bytes t ∷ [])))
