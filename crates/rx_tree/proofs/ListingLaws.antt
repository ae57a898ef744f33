-- Two trees with the same bytes throughout list the same.
use Rattle.std.proofs.Common.{◌≡◌, ◌∙◌, ℕ, ◌≤◌, inl, inr, true, List, [], ◌∷◌, ◌++◌, Option, Some, None, length, append-nil, length-append, refl, sym, ap, subst, arith}
use Rattle.std.specs.Prelude.{MatchOption, is_some}
use Rattle.std.specs.List.{AllByRecursion, Contains}
use Rattle.std.proofs.lemmas.List.{append_cancel_left}
use Rattle.sha2.proofs.Facts256.{length-sha256}
use Rattle.rx_base.specs.Digests.{digest_of}
use Rattle.rx_base.specs.Paths.{joined}
use Rattle.rx_messages.specs.declared.nodes.FileNode.{FileNode}
use Rattle.rx_messages.specs.declared.nodes.DirectoryNode.{DirectoryNode}
use Rattle.rx_base.proofs.Members.{Contains-from_map, Contains-map}
use Rattle.rx_tree.specs.Entries.{Content, Entry, names_of}
use Rattle.rx_tree.specs.Listings.{HasNoRootFile, HasSameBytes, HasTree, IsDigest, IsEntry, IsToldByBytes, ListsDir, ListsFile, dir_at}
use Rattle.rx_tree.specs.Refusals.{IsApart}
use Rattle.rx_tree.specs.Trees.{Tree, End, File, Dir, Rest, directory_nodes, file_here, file_node, file_nodes, rests, tree, tree_bytes, tree_of, within}
use Rattle.rx_tree.proofs.BytesLaws.{IsDirNode, IsFileNode, bytes_same, names_of_nodes}
use Rattle.rx_tree.proofs.ForestLaws.{HasNoneUnder, IsBare, bare-from, bare-to, dir-from, dir-to, file_node-from, file_node-to, none_under-within}
use Rattle.rx_tree.proofs.NamesLemmas.{below-from_names, below-names, joined-names_of, names_of-same, some_part}
use Rattle.rx_tree.proofs.Neighbours.{same_file-parts, same_or_under}
use Rattle.rx_tree.proofs.StartLemmas.{one_file, rest_of}
use Rattle.rx_tree.proofs.TreeHolds.{HoldsEach, HoldsOf, dir_holds, tree_holds}
use Rattle.rx_tree.proofs.TreeMembers.{HasOneFile, file_here-none, on_from, one_file-within, within-from, within-to}

-- ---- trees with digests and short names

abbrev IsShort : List ℕ → Type 0
IsShort name = length name ≤ 4096

abbrev HasDigest : Content → Type 0
HasDigest content = IsDigest content.digest

abbrev IsGood : Tree → Type 0
IsGood t = HoldsEach IsShort HasDigest t

files_good : (t : Tree) → IsGood t → AllByRecursion IsFileNode (file_nodes t)
files_good End g = tt
files_good (File n c t) g = (record { name = n; content = c; is = refl; short = g.0; good = g.1 }, files_good t g.2)
files_good (Dir n s t) g = files_good t g.2

dirs_good : (t : Tree) → IsGood t → AllByRecursion IsDirNode (directory_nodes t)
dirs_good End g = tt
dirs_good (File n c t) g = dirs_good t g.2
dirs_good (Dir n s t) g = (record { name = n; digest = digest_of (tree_bytes s); is = refl; short = g.0; long = length-sha256 (tree_bytes s) }, dirs_good t g.2)

same_nodes : (t u : Tree) → IsGood t → IsGood u → tree_bytes t ≡ tree_bytes u → (file_nodes t ≡ file_nodes u) × (names_of_nodes (directory_nodes t) ≡ names_of_nodes (directory_nodes u))
same_nodes t u g h e = bytes_same (file_nodes t) (file_nodes u) (directory_nodes t) (directory_nodes u) (files_good t g) (files_good u h) (dirs_good t g) (dirs_good u h) e

names_short : (names : List (List ℕ)) → length (joined names) ≤ 4096 → AllByRecursion (λ n. length n ≤ 4096) names
names_short [] le = tt
names_short (x ∷ []) le = (le, tt)
names_short (x ∷ y ∷ xs) le =
    let size = length-append x (47 ∷ joined (y ∷ xs)) in
    (omega arith, names_short (y ∷ xs) (omega arith))

good_entries : (es : List Entry) → AllByRecursion IsEntry es → AllByRecursion (HoldsOf IsShort HasDigest) (rests 0 es)
good_entries [] g = tt
good_entries (e ∷ es) g =
    let short : length (joined (names_of e.path)) ≤ 4096 = rw (joined-names_of e.path) g.0.path.short in
    (record { names = names_short (names_of e.path) short; file = g.0.file }, good_entries es g.1)

-- ---- nothing stands at or below a file

pub under_all : (es : List Entry) → IsApart es → HasNoneUnder (rests 0 es)
under_all es h a b c d some more e =
    let x = Contains-from_map rest_of es a c in
    let y = Contains-from_map rest_of es b d in
    let names : names_of y.0.path ≡ names_of x.0.path ++ more = ap (λ (r : Rest). r.names) y.2 ∙ e ∙ ap (λ (ns : List (List ℕ)). ns ++ more) (sym (ap (λ (r : Rest). r.names) x.2)) in
    let x_some : is_some x.0.file ≡ true = ap (λ (r : Rest). is_some r.file) x.2 ∙ some in
    elim (same_or_under x.0 y.0 x_some more names) [
      | inl same ↦
          let parts = same_file-parts x.0 y.0 same in
          let path : names_of x.0.path ++ more ≡ names_of x.0.path ++ [] = sym names ∙ ap names_of (sym parts.2) ∙ sym (append-nil (names_of x.0.path)) in
          (append_cancel_left (names_of x.0.path) more [] path, ap (λ (r : Rest). is_some r.file) (sym y.2) ∙ parts.1)
      | inr under ↦ absurd (h.apart (x.0.path, y.0.path) (record { file = x.0; below = y.0; has_file = x.1; has_below = y.1; under = under; file_path = refl; below_path = refl }))
    ]

-- ---- files

abbrev has_file : List ℕ → List (List ℕ) → Content → Tree → Type 0
has_file n [] c t = Contains (file_nodes t) (file_node n c)
has_file n (m ∷ ms) c t = MatchOption (dir_at n t) ⊥ (λ s. has_file m ms c s)

file-to : (n : List ℕ) (ns : List (List ℕ)) (rs : List Rest) (c : Content) → HasOneFile rs → HasNoneUnder rs → Contains rs (record { names = n ∷ ns; file = Some c }) → has_file n ns c (tree_of rs)
file-to n [] rs c one none h = file_node-to rs n c (one_file-within n rs one) h
file-to n (m ∷ ms) rs c one none h =
    let q : Rest = record { names = m ∷ ms; file = Some c } in
    rw (dir-to rs n q none h (λ bad. cc (bad.0))) (file-to m ms (within n rs) c (one_file-within n rs one) (none_under-within n rs none) (within-to n rs q h))

file-from : (n : List ℕ) (ns : List (List ℕ)) (rs : List Rest) (c : Content) → has_file n ns c (tree_of rs) → Contains rs (record { names = n ∷ ns; file = Some c })
file-from n [] rs c h = file_node-from rs n c h
file-from n (m ∷ ms) rs c h =
    elim (dir_at n (tree_of rs)) as (λ o. dir_at n (tree_of rs) ≡ o → MatchOption o ⊥ (λ s. has_file m ms c s) → Contains rs (record { names = n ∷ m ∷ ms; file = Some c })) [
      | None ↦ λ e h. absurd h
      | Some s ↦ λ e h.
          let from = dir-from rs n s e in
          let q : Rest = record { names = m ∷ ms; file = Some c } in
          within-from n rs q (file-from m ms (within n rs) c (subst (λ (t : Tree). has_file m ms c t) from.3 h))
    ] refl h

-- the directories of a name have the same bytes throughout
same_below : (n : List ℕ) (t u s v : Tree) → HasSameBytes t u → dir_at n t ≡ Some s → dir_at n u ≡ Some v → HasSameBytes s v
same_below n t u s v same e f = λ names. let at = same (n ∷ names) in rw (e, f) at at

other_dir : (n : List ℕ) (t u s : Tree) → HasSameBytes t u → dir_at n t ≡ Some s → (v : Tree) × (dir_at n u ≡ Some v)
other_dir n t u s same e =
    elim (dir_at n u) as (λ o. dir_at n u ≡ o → (v : Tree) × (o ≡ Some v)) [
      | None ↦ λ f. let at = same (n ∷ []) in let bad = rw (e, f) at at in absurd (cc bad)
      | Some v ↦ λ f. (v, refl)
    ] refl

root_bytes : (t u : Tree) → HasSameBytes t u → tree_bytes t ≡ tree_bytes u
root_bytes t u same = let at = same [] in cc at

file_over : (n : List ℕ) (ns : List (List ℕ)) (c : Content) (t u : Tree) → HasSameBytes t u → IsGood t → IsGood u → has_file n ns c t → has_file n ns c u
file_over n [] c t u same g h f = subst (λ (ns : List FileNode). Contains ns (file_node n c)) (same_nodes t u g h (root_bytes t u same)).0 f
file_over n (m ∷ ms) c t u same g h f =
    elim (dir_at n t) as (λ o. dir_at n t ≡ o → MatchOption o ⊥ (λ s. has_file m ms c s) → MatchOption (dir_at n u) ⊥ (λ s. has_file m ms c s)) [
      | None ↦ λ e f. absurd f
      | Some s ↦ λ e f.
          let v = other_dir n t u s same e in
          rw v.1 (file_over m ms c s v.0 (same_below n t u s v.0 same e v.1) (dir_holds IsShort HasDigest n t s g e) (dir_holds IsShort HasDigest n u v.0 h v.1) f)
    ] refl f

-- ---- directories without entries

abbrev has_dir : List (List ℕ) → Tree → Type 0
has_dir [] t = IsBare t
has_dir (n ∷ ns) t = MatchOption (dir_at n t) ⊥ (λ s. has_dir ns s)

abbrev pub goes_on : List Rest → List (List ℕ) → Type 0
goes_on rs names = (q : Rest) → Contains rs q → (x : List ℕ) (xs : List (List ℕ)) → q.names ≡ names ++ x ∷ xs → ⊥

pub no_names_of : (names : List (List ℕ)) → ((x : List ℕ) (xs : List (List ℕ)) → names ≡ x ∷ xs → ⊥) → names ≡ []
no_names_of [] h = refl
no_names_of (x ∷ xs) h = absurd (h x xs refl)

dir_to : (ns : List (List ℕ)) (rs : List Rest) → HasNoneUnder rs → Contains rs (record { names = ns; file = None }) → goes_on rs ns → has_dir ns (tree_of rs)
dir_to [] rs none h last = bare-to rs (λ q c. no_names_of q.names (λ x xs e. last q c x xs e))
dir_to (n ∷ ns) rs none h last =
    let q : Rest = record { names = ns; file = None } in
    rw (dir-to rs n q none h (λ bad. let some = bad.1 in cc some))
    (dir_to ns (within n rs) (none_under-within n rs none) (within-to n rs q h) (λ r c x xs e. last (on_from n r) (within-from n rs r c) x xs (ap (λ (names : List (List ℕ)). n ∷ names) e)))

pub bare_entry : (n : List ℕ) (rs : List Rest) (q : Rest) → Contains rs (on_from n q) → file_here (within n rs) ≡ None → IsBare (tree_of (within n rs)) → Contains rs (record { names = n ∷ []; file = None })
bare_entry n rs q c no_file bare =
    let names : q.names ≡ [] = no_names_of q.names (λ x xs e.
    let r : Rest = record { names = xs; file = q.file } in
    bare-from (within n rs) bare x r (subst (λ (ns : List (List ℕ)). Contains (within n rs) (record { names = ns; file = q.file })) e (within-to n rs q c))) in
    let file : q.file ≡ None = elim (q.file) as (λ o. q.file ≡ o → o ≡ None) [
      | None ↦ λ e. refl
      | Some d ↦ λ e. absurd (file_here-none (within n rs) d no_file (subst (λ (r : Rest). Contains (within n rs) r)
          (ap (λ (ns : List (List ℕ)). let r : Rest = record { names = ns; file = q.file } in r) names ∙ ap (λ (o : Option Content). let r : Rest = record { names = []; file = o } in r) e) (within-to n rs q c)))
    ] refl in
    subst (λ (r : Rest). Contains rs r) (ap (λ (ns : List (List ℕ)). let r : Rest = record { names = n ∷ ns; file = q.file } in r) names ∙ ap (λ (o : Option Content). let r : Rest = record { names = n ∷ []; file = o } in r) file) c

-- an entry that goes on below a name lies within it
pub within_more : (n : List ℕ) (rs : List Rest) (q : Rest) (names : List (List ℕ)) → Contains rs q → q.names ≡ n ∷ names → Contains (within n rs) (record { names = names; file = q.file })
within_more n rs q names c e =
    within-to n rs (record { names = names; file = q.file }) (subst (λ (ns : List (List ℕ)). Contains rs (record { names = ns; file = q.file })) e c)

dir_from : (n : List ℕ) (ns : List (List ℕ)) (rs : List Rest) → has_dir (n ∷ ns) (tree_of rs) → Contains rs (record { names = n ∷ ns; file = None }) × goes_on rs (n ∷ ns)
dir_from n [] rs h =
    elim (dir_at n (tree_of rs)) as (λ o. dir_at n (tree_of rs) ≡ o → MatchOption o ⊥ (λ s. IsBare s) → Contains rs (record { names = n ∷ []; file = None }) × goes_on rs (n ∷ [])) [
      | None ↦ λ e h. absurd h
      | Some s ↦ λ e h.
          let from = dir-from rs n s e in
          let bare = subst IsBare from.3 h in
          (bare_entry n rs from.0 from.1 from.2 bare, λ q c x xs f. bare-from (within n rs) bare x (record { names = xs; file = q.file }) (within_more n rs q (x ∷ xs) c f))
    ] refl h
dir_from n (m ∷ ms) rs h =
    elim (dir_at n (tree_of rs)) as (λ o. dir_at n (tree_of rs) ≡ o → MatchOption o ⊥ (λ s. has_dir (m ∷ ms) s) → Contains rs (record { names = n ∷ m ∷ ms; file = None }) × goes_on rs (n ∷ m ∷ ms)) [
      | None ↦ λ e h. absurd h
      | Some s ↦ λ e h.
          let from = dir-from rs n s e in
          let rest = dir_from m ms (within n rs) (subst (λ (t : Tree). has_dir (m ∷ ms) t) from.3 h) in
          (within-from n rs (record { names = m ∷ ms; file = None }) rest.0, λ q c x xs f. rest.1 (record { names = (m ∷ ms) ++ x ∷ xs; file = q.file }) (within_more n rs q ((m ∷ ms) ++ x ∷ xs) c f) x xs refl)
    ] refl h

no_nodes : (ds : List DirectoryNode) → names_of_nodes ds ≡ [] → ds ≡ []
no_nodes [] e = refl
no_nodes (d ∷ ds) e = absurd (cc e)

dir_over : (ns : List (List ℕ)) (t u : Tree) → HasSameBytes t u → IsGood t → IsGood u → has_dir ns t → has_dir ns u
dir_over [] t u same g h bare =
    let nodes = same_nodes t u g h (root_bytes t u same) in
    (sym nodes.0 ∙ bare.0, no_nodes (directory_nodes u) (sym nodes.1 ∙ ap names_of_nodes bare.1))
dir_over (n ∷ ns) t u same g h f =
    elim (dir_at n t) as (λ o. dir_at n t ≡ o → MatchOption o ⊥ (λ s. has_dir ns s) → MatchOption (dir_at n u) ⊥ (λ s. has_dir ns s)) [
      | None ↦ λ e f. absurd f
      | Some s ↦ λ e f.
          let v = other_dir n t u s same e in
          rw v.1 (dir_over ns s v.0 (same_below n t u s v.0 same e v.1) (dir_holds IsShort HasDigest n t s g e) (dir_holds IsShort HasDigest n u v.0 h v.1) f)
    ] refl f

-- ---- the lists

-- an entry is its path and its file
pub entry_at : (es : List Entry) (path : List ℕ) (file : Option Content) → Contains (rests 0 es) (record { names = names_of path; file = file }) → Contains es (record { path = path; file = file })
entry_at es path file c =
    let x = Contains-from_map rest_of es (record { names = names_of path; file = file }) c in
    let same : x.0.path ≡ path = names_of-same x.0.path path (ap (λ (r : Rest). r.names) x.2) in
    let content : x.0.file ≡ file = ap (λ (r : Rest). r.file) x.2 in
    subst (λ (e : Entry). Contains es e) (ap (λ (p : List ℕ). let e : Entry = record { path = p; file = x.0.file } in e) same ∙ ap (λ (f : Option Content). let e : Entry = record { path = path; file = f } in e) content) x.1

pub rest_at : (es : List Entry) (path : List ℕ) (file : Option Content) → Contains es (record { path = path; file = file }) → Contains (rests 0 es) (record { names = names_of path; file = file })
rest_at es path file c = Contains-map rest_of es (record { path = path; file = file }) c

module _ (es fs : List Entry) (e : HasTree es) (f : HasTree fs) (no_root : HasNoRootFile es) (same : HasSameBytes (tree es) (tree fs)) where
  good : IsGood (tree es)
  good = tree_holds IsShort HasDigest (rests 0 es) (good_entries es e.each)

  fine : IsGood (tree fs)
  fine = tree_holds IsShort HasDigest (rests 0 fs) (good_entries fs f.each)

  pub files_over : (path : List ℕ) (c : Content) → ListsFile es path c → ListsFile fs path c
  files_over [] c h = absurd (no_root c h)
  files_over (b ∷ bs) c h =
      let part = some_part (b ∷ bs) in
      let here : Contains (rests 0 es) (record { names = part.0 ∷ part.1; file = Some c }) = subst (λ (ns : List (List ℕ)). Contains (rests 0 es) (record { names = ns; file = Some c })) part.2 (rest_at es (b ∷ bs) (Some c) h) in
      let there = file-from part.0 part.1 (rests 0 fs) c
      (file_over part.0 part.1 c (tree es) (tree fs) same good fine (file-to part.0 part.1 (rests 0 es) c (one_file es e.apart) (under_all es e.apart) here)) in
      entry_at fs (b ∷ bs) (Some c) (subst (λ (ns : List (List ℕ)). Contains (rests 0 fs) (record { names = ns; file = Some c })) (sym part.2) there)

  dirs_at : (b : ℕ) (bs : List ℕ) → ListsDir es (b ∷ bs) → ListsDir fs (b ∷ bs)
  dirs_at b bs h =
      let part = some_part (b ∷ bs) in
      let here : Contains (rests 0 es) (record { names = part.0 ∷ part.1; file = None }) = subst (λ (ns : List (List ℕ)). Contains (rests 0 es) (record { names = ns; file = None })) part.2 (rest_at es (b ∷ bs) None h.listed) in
      let last : goes_on (rests 0 es) (part.0 ∷ part.1) = λ q c x xs is.
      let y = Contains-from_map rest_of es q c in
      h.bare y.0 y.1 (below-from_names y.0.path (b ∷ bs) x xs (ap (λ (r : Rest). r.names) y.2 ∙ is ∙ ap (λ (ns : List (List ℕ)). ns ++ x ∷ xs) (sym part.2))) in
      let there = dir_from part.0 part.1 (rests 0 fs) (dir_over (part.0 ∷ part.1) (tree es) (tree fs) same good fine (dir_to (part.0 ∷ part.1) (rests 0 es) (under_all es e.apart) here last)) in
      record {
        listed = entry_at fs (b ∷ bs) None (subst (λ (ns : List (List ℕ)). Contains (rests 0 fs) (record { names = ns; file = None })) (sym part.2) there.0);
        below_root = h.below_root;
        bare = λ x c below.
            let more = below-names x.path (b ∷ bs) below in
            there.1 (rest_of x) (Contains-map rest_of fs x c) more.0 more.1 (more.2 ∙ ap (λ (ns : List (List ℕ)). ns ++ more.0 ∷ more.1) part.2);
      }

  pub dirs_over : (path : List ℕ) → ListsDir es path → ListsDir fs path
  dirs_over [] h = absurd (h.below_root refl)
  dirs_over (b ∷ bs) h = dirs_at b bs h

-- the same bytes throughout are of lists that list the same
pub told_by_bytes : (es : List Entry) → HasTree es → IsToldByBytes es
told_by_bytes es e e_root fs f f_root same =
    let turned : HasSameBytes (tree fs) (tree es) = λ names. sym (same names) in
    record {
      files = λ path c. (files_over es fs e f e_root same path c, files_over fs es f e f_root turned path c);
      dirs = λ path. (dirs_over es fs e f e_root same path, dirs_over fs es f e f_root turned path);
    }
