-- The nodes of a list's tree, one directory at a time.
use Rattle.std.proofs.Common.{◌≡◌, ◌∙◌, ℕ, inl, inr, true, false, List, [], ◌∷◌, ◌++◌, Option, Some, None, cond, refl, sym, ap, subst}
use Rattle.std.specs.Prelude.{IsSome}
use Rattle.std.specs.List.{Contains}
use Rattle.std.specs.Str.{bytes_eq}
use Rattle.std.specs.FinMap.{nat_cmp-IsAntisymmetric, slice_cmp-IsAntisymmetric}
use Rattle.std.proofs.lemmas.Cmp.{nat_list_cmp_total}
use Rattle.std.proofs.lemmas.Slice.Eq.{bytes_eq-Decides}
use Rattle.rx_base.proofs.Orders.{HasSameMembers-sorted_once}
use Rattle.rx_messages.specs.declared.nodes.FileNode.{FileNode}
use Rattle.rx_base.proofs.Members.{Contains-cons_cases, Contains-head, Contains-later, not_in_nothing}
use Rattle.rx_tree.specs.Entries.{Content}
use Rattle.rx_tree.specs.Listings.{dir_at}
use Rattle.rx_tree.specs.Trees.{Tree, End, Rest, directory_nodes, file_here, file_node, file_nodes, forest, names_in, planted, tree_of, within}
use Rattle.rx_tree.proofs.TreeLemmas.{tree_of-names}
use Rattle.rx_tree.proofs.TreeMembers.{HasOneFile, file_alone, file_here-from, file_here-none, firsts-from, firsts-to, on_from, within-from, within-to}
use Rattle.rx_tree.proofs.TreeRuns.{firsts}

-- ---- a forest

node_is : (n m : List ℕ) (c d : Content) → file_node n c ≡ file_node m d → (n ≡ m) × (c ≡ d)
node_is n m c d e =
    let name : n ≡ m = ap (λ (x : FileNode). x.name) e in
    let digest : Some c.digest ≡ Some d.digest = ap (λ (x : FileNode). x.digest) e in
    let digest_is : c.digest ≡ d.digest = cc digest in
    let truth : c.executable ≡ d.executable = ap (λ (x : FileNode). x.is_executable) e in
    (name, ap (λ g. let x : Content = record { digest = g; executable = c.executable } in x) digest_is ∙ ap (λ t. let x : Content = record { digest = d.digest; executable = t } in x) truth)

module _ (file : List ℕ → Option Content) (sub : List ℕ → Tree) where
  forest_file-to : (names : List (List ℕ)) (n : List ℕ) (c : Content) → Contains names n → file n ≡ Some c → Contains (file_nodes (forest file sub names)) (file_node n c)
  forest_file-to [] n c h e = absurd (not_in_nothing n h)
  forest_file-to (m ∷ ms) n c h e =
      elim (file m) as (λ o. file m ≡ o → Contains (file_nodes (planted m o (sub m) (forest file sub ms))) (file_node n c)) [
        | Some d ↦ λ f.
            elim (Contains-cons_cases m ms n h) [
              | inl is ↦
                  let same : Some d ≡ Some c = sym f ∙ ap file is ∙ e in
                  let content : d ≡ c = cc same in
                  subst (λ (x : FileNode). Contains (file_node m d ∷ file_nodes (forest file sub ms)) x) (ap (λ (k : List ℕ). file_node k d) is ∙ ap (λ (k : Content). file_node n k) content) (Contains-head (file_node m d) (file_nodes (forest file sub ms)))
              | inr later ↦ Contains-later (file_node m d) (file_nodes (forest file sub ms)) (file_node n c) (forest_file-to ms n c later e)
            ]
        | None ↦ λ f.
            elim (Contains-cons_cases m ms n h) [
              | inl is ↦ let none : None ≡ Some c = sym f ∙ ap file is ∙ e in absurd (cc none)
              | inr later ↦ forest_file-to ms n c later e
            ]
      ] refl

  forest_file-from : (names : List (List ℕ)) (n : List ℕ) (c : Content) → Contains (file_nodes (forest file sub names)) (file_node n c) → Contains names n × (file n ≡ Some c)
  forest_file-from [] n c h = absurd (not_in_nothing (file_node n c) h)
  forest_file-from (m ∷ ms) n c h =
      elim (file m) as (λ o. file m ≡ o → Contains (file_nodes (planted m o (sub m) (forest file sub ms))) (file_node n c) → Contains (m ∷ ms) n × (file n ≡ Some c)) [
        | Some d ↦ λ f h.
            elim (Contains-cons_cases (file_node m d) (file_nodes (forest file sub ms)) (file_node n c) h) [
              | inl is ↦
                  let parts = node_is m n d c is in
                  (subst (λ (k : List ℕ). Contains (m ∷ ms) k) parts.0 (Contains-head m ms), ap file (sym parts.0) ∙ f ∙ ap (λ (k : Content). Some k) parts.1)
              | inr later ↦ let rest = forest_file-from ms n c later in (Contains-later m ms n rest.0, rest.1)
            ]
        | None ↦ λ f h. let rest = forest_file-from ms n c h in (Contains-later m ms n rest.0, rest.1)
      ] refl h

  forest_dir-to : (names : List (List ℕ)) (n : List ℕ) → Contains names n → file n ≡ None → dir_at n (forest file sub names) ≡ Some (sub n)
  forest_dir-to [] n h e = absurd (not_in_nothing n h)
  forest_dir-to (m ∷ ms) n h e =
      elim (file m) as (λ o. file m ≡ o → dir_at n (planted m o (sub m) (forest file sub ms)) ≡ Some (sub n)) [
        | Some d ↦ λ f.
            elim (Contains-cons_cases m ms n h) [
              | inl is ↦ let none : None ≡ Some d = sym e ∙ ap file (sym is) ∙ f in absurd (cc none)
              | inr later ↦ forest_dir-to ms n later e
            ]
        | None ↦ λ f.
            elim (bytes_eq m n) as (λ b. bytes_eq m n ≡ b → cond b (Some (sub m)) (dir_at n (forest file sub ms)) ≡ Some (sub n)) [
              | true ↦ λ is. ap (λ (k : List ℕ). Some (sub k)) ((bytes_eq-Decides m n).0 is)
              | false ↦ λ is.
                  elim (Contains-cons_cases m ms n h) [
                    | inl same ↦ let yes : bytes_eq m n ≡ true = (bytes_eq-Decides m n).1 same in absurd (cc (sym is ∙ yes))
                    | inr later ↦ forest_dir-to ms n later e
                  ]
            ] refl
      ] refl

  forest_dir-from : (names : List (List ℕ)) (n : List ℕ) (s : Tree) → dir_at n (forest file sub names) ≡ Some s → Contains names n × (file n ≡ None) × (s ≡ sub n)
  forest_dir-from [] n s e = absurd (cc e)
  forest_dir-from (m ∷ ms) n s e =
      elim (file m) as (λ o. file m ≡ o → dir_at n (planted m o (sub m) (forest file sub ms)) ≡ Some s → Contains (m ∷ ms) n × (file n ≡ None) × (s ≡ sub n)) [
        | Some d ↦ λ f e. let rest = forest_dir-from ms n s e in (Contains-later m ms n rest.0, rest.1, rest.2)
        | None ↦ λ f e.
            elim (bytes_eq m n) as (λ b. bytes_eq m n ≡ b → cond b (Some (sub m)) (dir_at n (forest file sub ms)) ≡ Some s → Contains (m ∷ ms) n × (file n ≡ None) × (s ≡ sub n)) [
              | true ↦ λ is e.
                  let same : m ≡ n = (bytes_eq-Decides m n).0 is in
                  let tree : sub m ≡ s = cc e in
                  (subst (λ (k : List ℕ). Contains (m ∷ ms) k) same (Contains-head m ms), ap file (sym same) ∙ f, sym tree ∙ ap sub same)
              | false ↦ λ is e. let rest = forest_dir-from ms n s e in (Contains-later m ms n rest.0, rest.1, rest.2)
            ] refl e
      ] refl e

-- ---- the names in a directory

pub names_in-to : (rs : List Rest) (n : List ℕ) (q : Rest) → Contains rs (on_from n q) → Contains (names_in rs) n
names_in-to rs n q c = (HasSameMembers-sorted_once nat_list_cmp_total (slice_cmp-IsAntisymmetric nat_cmp-IsAntisymmetric) (firsts rs) n).0 (firsts-to rs n q c)

pub names_in-from : (rs : List Rest) (n : List ℕ) → Contains (names_in rs) n → (q : Rest) × Contains rs (on_from n q)
names_in-from rs n c = firsts-from rs n ((HasSameMembers-sorted_once nat_list_cmp_total (slice_cmp-IsAntisymmetric nat_cmp-IsAntisymmetric) (firsts rs) n).1 c)

-- ---- the nodes of a list's tree

-- at a file and below it there is nothing but the file
abbrev pub HasNoneUnder : List Rest → Type 0
HasNoneUnder rs = (a b : Rest) → Contains rs a → Contains rs b → IsSome a.file → (more : List (List ℕ)) → b.names ≡ a.names ++ more → (more ≡ []) × IsSome b.file

pub none_under-within : (n : List ℕ) (rs : List Rest) → HasNoneUnder rs → HasNoneUnder (within n rs)
none_under-within n rs none a b c d some more e =
    none (on_from n a) (on_from n b) (within-from n rs a c) (within-from n rs b d) some more (ap (λ (ns : List (List ℕ)). n ∷ ns) e)

pub file_here_is : (rs : List Rest) (c : Content) → HasOneFile rs → Contains rs (file_alone c) → file_here rs ≡ Some c
file_here_is rs c one h =
    elim (file_here rs) as (λ o. file_here rs ≡ o → o ≡ Some c) [
      | None ↦ λ e. absurd (file_here-none rs c e h)
      | Some d ↦ λ e. one (file_alone d) (file_alone c) (file_here-from rs d e) h refl refl refl
    ] refl

abbrev pub file_of : List Rest → List ℕ → Option Content
file_of rs n = file_here (within n rs)

abbrev pub sub_of : List Rest → List ℕ → Tree
sub_of rs n = tree_of (within n rs)

pub file_node-to : (rs : List Rest) (n : List ℕ) (c : Content) → HasOneFile (within n rs) → Contains rs (on_from n (file_alone c)) → Contains (file_nodes (tree_of rs)) (file_node n c)
file_node-to rs n c one h =
    rw (tree_of-names rs)
    (forest_file-to (file_of rs) (sub_of rs) (names_in rs) n c (names_in-to rs n (file_alone c) h) (file_here_is (within n rs) c one (within-to n rs (file_alone c) h)))

pub file_node-from : (rs : List Rest) (n : List ℕ) (c : Content) → Contains (file_nodes (tree_of rs)) (file_node n c) → Contains rs (on_from n (file_alone c))
file_node-from rs n c h =
    let from = forest_file-from (file_of rs) (sub_of rs) (names_in rs) n c (rw (tree_of-names rs) at h) in
    within-from n rs (file_alone c) (file_here-from (within n rs) c from.1)

-- where something lies below a name, or a directory at it, there is no file
pub no_file_here : (rs : List Rest) (n : List ℕ) (q : Rest) → HasNoneUnder rs → Contains rs (on_from n q) → ((q.names ≡ []) × IsSome q.file → ⊥) → file_here (within n rs) ≡ None
no_file_here rs n q none h other =
    elim (file_here (within n rs)) as (λ o. file_here (within n rs) ≡ o → o ≡ None) [
      | None ↦ λ e. refl
      | Some d ↦ λ e. absurd (other (none (on_from n (file_alone d)) (on_from n q) (within-from n rs (file_alone d) (file_here-from (within n rs) d e)) h refl q.names refl))
    ] refl

pub dir-to : (rs : List Rest) (n : List ℕ) (q : Rest) → HasNoneUnder rs → Contains rs (on_from n q) → ((q.names ≡ []) × IsSome q.file → ⊥) → dir_at n (tree_of rs) ≡ Some (tree_of (within n rs))
dir-to rs n q none h other =
    rw (tree_of-names rs) (forest_dir-to (file_of rs) (sub_of rs) (names_in rs) n (names_in-to rs n q h) (no_file_here rs n q none h other))

pub dir-from : (rs : List Rest) (n : List ℕ) (s : Tree) → dir_at n (tree_of rs) ≡ Some s → (q : Rest) × Contains rs (on_from n q) × (file_here (within n rs) ≡ None) × (s ≡ tree_of (within n rs))
dir-from rs n s e =
    let from = forest_dir-from (file_of rs) (sub_of rs) (names_in rs) n s (rw (tree_of-names rs) at e) in
    let q = names_in-from rs n from.0 in
    (q.0, q.1, from.1, from.2)

-- ---- a directory without entries

abbrev pub IsBare : Tree → Type 0
IsBare t = (file_nodes t ≡ []) × (directory_nodes t ≡ [])

nothing_in : (names : List (List ℕ)) → ((n : List ℕ) → Contains names n → ⊥) → names ≡ []
nothing_in [] h = refl
nothing_in (n ∷ ns) h = absurd (h n (Contains-head n ns))

pub bare-to : (rs : List Rest) → ((q : Rest) → Contains rs q → q.names ≡ []) → IsBare (tree_of rs)
bare-to rs h =
    let names : names_in rs ≡ [] = nothing_in (names_in rs) (λ n c. let q = names_in-from rs n c in let bad = h (on_from n q.0) q.1 in cc bad) in
    let tree : tree_of rs ≡ End = tree_of-names rs ∙ ap (λ (ns : List (List ℕ)). forest (file_of rs) (sub_of rs) ns) names in
    rw tree (refl, refl)

forest_bare : (file : List ℕ → Option Content) (sub : List ℕ → Tree) (names : List (List ℕ)) → IsBare (forest file sub names) → names ≡ []
forest_bare file sub [] h = refl
forest_bare file sub (m ∷ ms) h =
    elim (file m) as (λ o. IsBare (planted m o (sub m) (forest file sub ms)) → m ∷ ms ≡ []) [ Some d ↦ λ h. absurd (cc (h.0)) | None ↦ λ h. absurd (cc (h.1)) ] h

pub bare-from : (rs : List Rest) → IsBare (tree_of rs) → (n : List ℕ) (q : Rest) → Contains rs (on_from n q) → ⊥
bare-from rs bare n q c =
    let names = forest_bare (file_of rs) (sub_of rs) (names_in rs) (rw (tree_of-names rs) at bare) in
    not_in_nothing n (subst (λ (ns : List (List ℕ)). Contains ns n) names (names_in-to rs n q c))
