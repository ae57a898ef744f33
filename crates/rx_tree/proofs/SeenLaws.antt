-- What a walk sees of a list's tree is what the list lists.
use Rattle.std.proofs.Common.{◌≡◌, ◌≢◌, ◌∙◌, ℕ, zero, suc, ◌≤◌, ◌==◌, ◌&&◌, inl, inr, true, false, not, List, [], ◌∷◌, ◌++◌, length, Option, Some, None, cond, append_assoc, refl, sym, ap, subst, arith}
use Rattle.std.specs.List.{Contains}
use Rattle.std.proofs.lemmas.Bool.{and_parts, eqb-true}
use Rattle.std.proofs.lemmas.List.{nil_from_length}
use Rattle.std.proofs.lemmas.List.Elements.{Contains-append_cases, Contains-append_left, Contains-append_right}
use Rattle.rx_base.specs.Paths.{joined}
use Rattle.rx_base.proofs.ByteLists.{some_bytes}
use Rattle.rx_base.proofs.Members.{Contains-cons_cases, Contains-head, Contains-later, not_in_nothing}
use Rattle.rx_tree.specs.declared.listings.TreeFile.{TreeFile}
use Rattle.rx_tree.specs.Entries.{Content}
use Rattle.rx_tree.specs.Planting.{directory_of}
use Rattle.rx_tree.specs.Trees.{Tree, Rest, directory_nodes, file_nodes, forest, levels, names_in, planted, tree_at, tree_of, within}
use Rattle.rx_tree.specs.Walks.{is_bare, with_bare}
use Rattle.rx_tree.proofs.ForestLaws.{HasNoneUnder, IsBare, bare-from, bare-to, file_here_is, file_of, names_in-from, names_in-to, no_file_here, none_under-within, sub_of}
use Rattle.rx_tree.proofs.ListingLaws.{bare_entry, goes_on, no_names_of, within_more}
use Rattle.rx_tree.proofs.TreeLemmas.{levels-within, tree_of-at, tree_of-names}
use Rattle.rx_tree.proofs.TreeMembers.{HasOneFile, file_alone, file_here-from, on_from, one_file-within, within-from, within-to}
use Rattle.rx_tree.proofs.TreeWalks.{bare_in, below, file_in, files_in}

-- ---- a forest

-- a file of one of the names
record IsForestFile (file : List ℕ → Option Content) (names at : List (List ℕ)) (f : TreeFile) : Type 0 where
  pub name : List ℕ
  pub content : Content
  pub here : Contains names name
  pub holds : file name ≡ Some content
  pub is : f ≡ file_in (at ++ name ∷ []) content

-- what is told of a directory of one of the names, or of one below
pub record IsForestTold {A : Type 0} (told : List (List ℕ) → Tree → List A) (file : List ℕ → Option Content) (sub : List ℕ → Tree) (names at : List (List ℕ)) (x : A) : Type 0 where
  pub name : List ℕ
  pub here : Contains names name
  pub none : file name ≡ None
  pub told_of : Contains (told (at ++ name ∷ []) (sub name) ++ below told (at ++ name ∷ []) (sub name)) x

module _ (file : List ℕ → Option Content) (sub : List ℕ → Tree) (at : List (List ℕ)) where
  forest_files-from : (names : List (List ℕ)) (f : TreeFile) → Contains (files_in at (forest file sub names)) f → IsForestFile file names at f
  forest_files-from [] f h = absurd (not_in_nothing f h)
  forest_files-from (m ∷ ms) f h =
      elim (file m) as (λ o. file m ≡ o → Contains (files_in at (planted m o (sub m) (forest file sub ms))) f → IsForestFile file (m ∷ ms) at f) [
        | Some c ↦ λ e h.
            elim (Contains-cons_cases (file_in (at ++ m ∷ []) c) (files_in at (forest file sub ms)) f h) [
              | inl is ↦ record { name = m; content = c; here = Contains-head m ms; holds = e; is = sym is }
              | inr later ↦ let r = forest_files-from ms f later in record { name = r.name; content = r.content; here = Contains-later m ms r.name r.here; holds = r.holds; is = r.is }
            ]
        | None ↦ λ e h. let r = forest_files-from ms f h in record { name = r.name; content = r.content; here = Contains-later m ms r.name r.here; holds = r.holds; is = r.is }
      ] refl h

  forest_files-to : (names : List (List ℕ)) (n : List ℕ) (c : Content) → Contains names n → file n ≡ Some c → Contains (files_in at (forest file sub names)) (file_in (at ++ n ∷ []) c)
  forest_files-to [] n c h e = absurd (not_in_nothing n h)
  forest_files-to (m ∷ ms) n c h e =
      elim (file m) as (λ o. file m ≡ o → Contains (files_in at (planted m o (sub m) (forest file sub ms))) (file_in (at ++ n ∷ []) c)) [
        | Some d ↦ λ f.
            elim (Contains-cons_cases m ms n h) [
              | inl is ↦
                  let same : Some d ≡ Some c = sym f ∙ ap file is ∙ e in
                  let content : d ≡ c = cc same in
                  subst (λ (x : TreeFile). Contains (file_in (at ++ m ∷ []) d ∷ files_in at (forest file sub ms)) x) (ap (λ (k : List ℕ). file_in (at ++ k ∷ []) d) is ∙ ap (λ (k : Content). file_in (at ++ n ∷ []) k) content)
                  (Contains-head (file_in (at ++ m ∷ []) d) (files_in at (forest file sub ms)))
              | inr later ↦ Contains-later (file_in (at ++ m ∷ []) d) (files_in at (forest file sub ms)) (file_in (at ++ n ∷ []) c) (forest_files-to ms n c later e)
            ]
        | None ↦ λ f.
            elim (Contains-cons_cases m ms n h) [
              | inl is ↦ let none : None ≡ Some c = sym f ∙ ap file is ∙ e in absurd (cc none)
              | inr later ↦ forest_files-to ms n c later e
            ]
      ] refl

  module _ {A : Type 0} (told : List (List ℕ) → Tree → List A) where
    abbrev told_at : List ℕ → List A
    told_at n = told (at ++ n ∷ []) (sub n) ++ below told (at ++ n ∷ []) (sub n)

    pub forest_told-from : (names : List (List ℕ)) (x : A) → Contains (below told at (forest file sub names)) x → IsForestTold told file sub names at x
    forest_told-from [] x h = absurd (not_in_nothing x h)
    forest_told-from (m ∷ ms) x h =
        elim (file m) as (λ o. file m ≡ o → Contains (below told at (planted m o (sub m) (forest file sub ms))) x → IsForestTold told file sub (m ∷ ms) at x) [
          | Some c ↦ λ e h. let r = forest_told-from ms x h in record { name = r.name; here = Contains-later m ms r.name r.here; none = r.none; told_of = r.told_of }
          | None ↦ λ e h.
              elim (Contains-append_cases (told_at m) (below told at (forest file sub ms)) x h) [
                | inl here ↦ record { name = m; here = Contains-head m ms; none = e; told_of = here }
                | inr later ↦ let r = forest_told-from ms x later in record { name = r.name; here = Contains-later m ms r.name r.here; none = r.none; told_of = r.told_of }
              ]
        ] refl h

    forest_told-to : (names : List (List ℕ)) (n : List ℕ) (x : A) → Contains names n → file n ≡ None → Contains (told_at n) x → Contains (below told at (forest file sub names)) x
    forest_told-to [] n x h e t = absurd (not_in_nothing n h)
    forest_told-to (m ∷ ms) n x h e t =
        elim (file m) as (λ o. file m ≡ o → Contains (below told at (planted m o (sub m) (forest file sub ms))) x) [
          | Some c ↦ λ f.
              elim (Contains-cons_cases m ms n h) [
                | inl is ↦ let bad : None ≡ Some c = sym e ∙ ap file (sym is) ∙ f in absurd (cc bad)
                | inr later ↦ forest_told-to ms n x later e t
              ]
          | None ↦ λ f.
              elim (Contains-cons_cases m ms n h) [
                | inl is ↦ Contains-append_left (told_at m) (below told at (forest file sub ms)) x (subst (λ (k : List ℕ). Contains (told_at k) x) (sym is) t)
                | inr later ↦ Contains-append_right (told_at m) (below told at (forest file sub ms)) x (forest_told-to ms n x later e t)
              ]
        ] refl

-- ---- files

abbrev pub files_seen : List (List ℕ) → Tree → List TreeFile
files_seen at t = files_in at t ++ below files_in at t

abbrev file_rest : List ℕ → List (List ℕ) → Content → Rest
file_rest n ms c = record { names = n ∷ ms; file = Some c }

abbrev dir_rest : List ℕ → List (List ℕ) → Rest
dir_rest n ms = record { names = n ∷ ms; file = None }

-- names on from those of a directory
names_on : (at : List (List ℕ)) (n : List ℕ) (ms : List (List ℕ)) → (at ++ n ∷ []) ++ ms ≡ at ++ n ∷ ms
names_on at n ms = append_assoc at (n ∷ []) ms

-- a path of such names
pub path_on : (at : List (List ℕ)) (n : List ℕ) (ms : List (List ℕ)) (path : List ℕ) → path ≡ joined ((at ++ n ∷ []) ++ ms) → path ≡ joined (at ++ n ∷ ms)
path_on at n ms path is = is ∙ ap joined (names_on at n ms)

file_on : (at : List (List ℕ)) (n : List ℕ) (ms : List (List ℕ)) (c : Content) (f : TreeFile) → f ≡ file_in ((at ++ n ∷ []) ++ ms) c → f ≡ file_in (at ++ n ∷ ms) c
file_on at n ms c f is = is ∙ ap (λ (names : List (List ℕ)). file_in names c) (names_on at n ms)

pub files-to : (ms : List (List ℕ)) (n : List ℕ) (rs : List Rest) (at : List (List ℕ)) (c : Content) → HasOneFile rs → HasNoneUnder rs → Contains rs (record { names = n ∷ ms; file = Some c })
    → Contains (files_seen at (tree_of rs)) (file_in (at ++ n ∷ ms) c)
files-to [] n rs at c one none h =
    let t = forest (file_of rs) (sub_of rs) (names_in rs) in
    rw (tree_of-names rs)
    (Contains-append_left (files_in at t) (below files_in at t) (file_in (at ++ n ∷ []) c)
    (forest_files-to (file_of rs) (sub_of rs) at (names_in rs) n c (names_in-to rs n (file_alone c) h) (file_here_is (within n rs) c (one_file-within n rs one) (within-to n rs (file_alone c) h))))
files-to (m ∷ ms) n rs at c one none h =
    let q = file_rest m ms c in
    let t = forest (file_of rs) (sub_of rs) (names_in rs) in
    let under = files-to ms m (within n rs) (at ++ n ∷ []) c (one_file-within n rs one) (none_under-within n rs none) (within-to n rs q h) in
    rw (tree_of-names rs)
    (Contains-append_right (files_in at t) (below files_in at t) (file_in (at ++ n ∷ m ∷ ms) c)
    (forest_told-to (file_of rs) (sub_of rs) at files_in (names_in rs) n (file_in (at ++ n ∷ m ∷ ms) c) (names_in-to rs n q h) (no_file_here rs n q none h (λ bad. cc (bad.0)))
    (subst (λ (names : List (List ℕ)). Contains (files_seen (at ++ n ∷ []) (tree_of (within n rs))) (file_in names c)) (names_on at n (m ∷ ms)) under)))

-- a file that is listed
pub record IsListedFile (rs : List Rest) (at : List (List ℕ)) (f : TreeFile) : Type 0 where
  pub first : List ℕ
  pub others : List (List ℕ)
  pub content : Content
  pub listed : Contains rs (record { names = first ∷ others; file = Some content })
  pub is : f ≡ file_in (at ++ first ∷ others) content

pub files-from : (most : ℕ) (rs : List Rest) (at : List (List ℕ)) (f : TreeFile) → Contains (files_seen at (tree_at most rs)) f → IsListedFile rs at f
files-from zero rs at f h = absurd (not_in_nothing f h)
files-from (suc most) rs at f h =
    let sub = λ (n : List ℕ). tree_at most (within n rs) in
    let t = forest (file_of rs) sub (names_in rs) in
    elim (Contains-append_cases (files_in at t) (below files_in at t) f h) [
      | inl here ↦
          let r = forest_files-from (file_of rs) sub at (names_in rs) f here in
          record { first = r.name; others = []; content = r.content; listed = within-from r.name rs (file_alone r.content) (file_here-from (within r.name rs) r.content r.holds); is = r.is }
      | inr under ↦
          let r = forest_told-from (file_of rs) sub at files_in (names_in rs) f under in
          let d = files-from most (within r.name rs) (at ++ r.name ∷ []) f r.told_of in
          record {
            first = r.name;
            others = d.first ∷ d.others;
            content = d.content;
            listed = within-from r.name rs (file_rest d.first d.others d.content) d.listed;
            is = file_on at r.name (d.first ∷ d.others) d.content f d.is;
          }
    ]

-- ---- directories without entries

pub is_bare-from : (t : Tree) → is_bare (directory_of t) ≡ true → IsBare t
is_bare-from t e =
    let first = and_parts (length (file_nodes t) == 0) (length (directory_nodes t) == 0 && true) e in
    let second = and_parts (length (directory_nodes t) == 0) true first.1 in
    (nil_from_length (file_nodes t) (eqb-true _ 0 first.0), nil_from_length (directory_nodes t) (eqb-true _ 0 second.0))

pub bare_path-from : (path : List ℕ) (t : Tree) (p : List ℕ) → Contains (with_bare path (directory_of t) []) p → (is_bare (directory_of t) ≡ true) × (path ≡ p)
bare_path-from path t p h =
    elim (not (length path == 0) && is_bare (directory_of t)) as (λ b. (not (length path == 0) && is_bare (directory_of t)) ≡ b → Contains (cond b (path ∷ []) []) p → (is_bare (directory_of t) ≡ true) × (path ≡ p)) [
      | true ↦ λ e h.
          elim (Contains-cons_cases path [] p h) [ inl is ↦ ((and_parts (not (length path == 0)) (is_bare (directory_of t)) e).1, is) | inr none ↦ absurd (not_in_nothing p none) ]
      | false ↦ λ e h. absurd (not_in_nothing p h)
    ] refl h

bare_path-to : (path : List ℕ) (t : Tree) → path ≢ [] → IsBare t → Contains (with_bare path (directory_of t) []) path
bare_path-to path t ne bare = rw (some_bytes path ne, bare.0, bare.1) (Contains-head path [])

pub dirs-to : (ms : List (List ℕ)) (n : List ℕ) (rs : List Rest) (at : List (List ℕ)) → HasNoneUnder rs → Contains rs (record { names = n ∷ ms; file = None }) → goes_on rs (n ∷ ms) → joined (at ++ n ∷ ms) ≢ []
    → Contains (below bare_in at (tree_of rs)) (joined (at ++ n ∷ ms))
dirs-to [] n rs at none h last ne =
    let q : Rest = record { names = []; file = None } in
    let path = joined (at ++ n ∷ []) in
    let s = tree_of (within n rs) in
    let bare = bare-to (within n rs) (λ r c. no_names_of r.names (λ x xs e. last (on_from n r) (within-from n rs r c) x xs (ap (λ (names : List (List ℕ)). n ∷ names) e))) in
    rw (tree_of-names rs)
    (forest_told-to (file_of rs) (sub_of rs) at bare_in (names_in rs) n path (names_in-to rs n q h) (no_file_here rs n q none h (λ bad. let some = bad.1 in cc some))
    (Contains-append_left (bare_in (at ++ n ∷ []) s) (below bare_in (at ++ n ∷ []) s) path (bare_path-to path s ne bare)))
dirs-to (m ∷ ms) n rs at none h last ne =
    let q = dir_rest m ms in
    let path = joined (at ++ n ∷ m ∷ ms) in
    let s = tree_of (within n rs) in
    let same = ap joined (names_on at n (m ∷ ms)) in
    let under = dirs-to ms m (within n rs) (at ++ n ∷ []) (none_under-within n rs none) (within-to n rs q h)
    (λ r c x xs e. last (on_from n r) (within-from n rs r c) x xs (ap (λ (names : List (List ℕ)). n ∷ names) e)) (λ e. ne (sym same ∙ e)) in
    rw (tree_of-names rs)
    (forest_told-to (file_of rs) (sub_of rs) at bare_in (names_in rs) n path (names_in-to rs n q h) (no_file_here rs n q none h (λ bad. cc (bad.0)))
    (Contains-append_right (bare_in (at ++ n ∷ []) s) (below bare_in (at ++ n ∷ []) s) path (subst (λ (p : List ℕ). Contains (below bare_in (at ++ n ∷ []) s) p) same under)))

-- a directory that is listed, with no entry below it
pub record IsListedDir (rs : List Rest) (at : List (List ℕ)) (path : List ℕ) : Type 0 where
  pub first : List ℕ
  pub others : List (List ℕ)
  pub listed : Contains rs (record { names = first ∷ others; file = None })
  pub last : goes_on rs (first ∷ others)
  pub is : path ≡ joined (at ++ first ∷ others)

pub dirs-from : (most : ℕ) (rs : List Rest) (at : List (List ℕ)) (path : List ℕ) → levels rs ≤ most → Contains (below bare_in at (tree_of rs)) path → IsListedDir rs at path
dirs-from zero rs at path le h = absurd (not_in_nothing path (rw (tree_of-at zero rs le) at h))
dirs-from (suc most) rs at path le h =
    let fewer = λ (n : List ℕ). levels-within n rs in
    let r = forest_told-from (file_of rs) (sub_of rs) at bare_in (names_in rs) path (rw (tree_of-names rs) at h) in
    let n = r.name in
    let on = at ++ n ∷ [] in
    let s = tree_of (within n rs) in
    elim (Contains-append_cases (bare_in on s) (below bare_in on s) path r.told_of) [
      | inl here ↦
          let b = bare_path-from (joined on) s path here in
          let bare = is_bare-from s b.0 in
          let q = names_in-from rs n r.here in
          record {
            first = n;
            others = [];
            listed = bare_entry n rs q.0 q.1 r.none bare;
            last = λ q c x xs f. bare-from (within n rs) bare x (record { names = xs; file = q.file }) (within_more n rs q (x ∷ xs) c f);
            is = sym b.1;
          }
      | inr under ↦
          let few = levels-within n rs in
          let d = dirs-from most (within n rs) on path (omega arith) under in
          record {
            first = n;
            others = d.first ∷ d.others;
            listed = within-from n rs (dir_rest d.first d.others) d.listed;
            last = λ q c x xs f. d.last (record { names = (d.first ∷ d.others) ++ x ∷ xs; file = q.file }) (within_more n rs q ((d.first ∷ d.others) ++ x ∷ xs) c f) x xs refl;
            is = path_on at n (d.first ∷ d.others) path d.is;
          }
    ]
