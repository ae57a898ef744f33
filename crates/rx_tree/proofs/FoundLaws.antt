-- Each Directory of a built tree is found by its digest.
use Rattle.std.proofs.Common.{◌≡◌, ◌∙◌, ℕ, zero, suc, ◌<◌, ◌≤◌, ◌^◌, true, false, List, [], ◌∷◌, ◌++◌, length, map, Option, Some, None, Ok, append_assoc, length-append, refl, sym, ap, subst, arith}
use Rattle.std.specs.Ordering.{is_eq, is_lt}
use Rattle.std.specs.List.{AllByRecursion, Contains}
use Rattle.std.proofs.lemmas.Cmp.{nat_list_cmp_total, tied_itself}
use Rattle.std.proofs.lemmas.List.Elements.{Contains-append_left, Contains-append_right}
use Rattle.rx_base.specs.Digests.{digest_of, by_digest, by_digest_total}
use Rattle.rx_base.specs.Paths.{IsName, IsPath, joined, longest, parts}
use Rattle.rx_base.specs.SortedPaths.{HasSameMembers}
use Rattle.rx_base.proofs.PathAgain.{parts-joined}
use Rattle.rx_base.proofs.DigestOrder.{by_digest-same}
use Rattle.rx_base.proofs.Members.{All-members, Contains-head, Contains-later, Contains-from_map, Contains-map}
use Rattle.rx_base.proofs.Orderings.{Equal-from_is_eq}
use Rattle.rx_tree.specs.declared.blobs.Blob.{Blob}
use Rattle.rx_tree.specs.Blobs.{blob_at, blob_of}
use Rattle.rx_tree.specs.Entries.{Content, names_of}
use Rattle.rx_tree.specs.Listings.{HasOwnDigests}
use Rattle.rx_tree.specs.Planting.{ReadsAgain, ReadsAgainBelow, directory_of}
use Rattle.rx_tree.specs.Refusals.{by_bytes}
use Rattle.rx_tree.specs.Trees.{Tree, End, File, Dir, Rest, all_bytes, bytes_below, file_here, forest, names_in, planted, tree_at, tree_bytes, within}
use Rattle.rx_tree.specs.Walks.{read_directory}
use Rattle.rx_tree.proofs.CanonicalLaws.{IsInNameOrder, IsSmall, readable}
use Rattle.rx_tree.proofs.ForestLaws.{names_in-from}
use Rattle.rx_tree.proofs.LeastLemmas.{not_below_itself}
use Rattle.rx_tree.proofs.NamesLemmas.{joined-append}
use Rattle.rx_tree.proofs.ShelfLemmas.{least_first, named-from, named-to}
use Rattle.rx_tree.proofs.TreeHolds.{HoldsEach}
use Rattle.rx_tree.proofs.TreeMembers.{on_from, within-from}
use Rattle.rx_tree.proofs.TreeWalks.{FindsBelow, HasPaths, IsFound}

-- ---- blobs

module _ (t : Tree) (blobs : List Blob) (own : HasOwnDigests t) (same : HasSameMembers (map blob_of (all_bytes t)) blobs) where
  -- what has the digest of some bytes is these bytes
  one_has : (bytes y : List ℕ) → Contains (all_bytes t) bytes → (b : Blob) → Contains blobs b → is_eq (by_digest b.digest (digest_of bytes)) ≡ true → b.bytes ≡ y → y ≡ bytes
  one_has bytes y here b c tie is =
      let from = Contains-from_map blob_of (all_bytes t) b ((same b).1 c) in
      let digest : digest_of from.0 ≡ digest_of bytes = ap (λ (x : Blob). x.digest) from.2 ∙ by_digest-same b.digest (digest_of bytes) (Equal-from_is_eq (by_digest b.digest (digest_of bytes)) tie) in
      sym is ∙ sym (ap (λ (x : Blob). x.bytes) from.2) ∙ own from.0 bytes from.1 here digest

  pub found_bytes : (bytes : List ℕ) → Contains (all_bytes t) bytes → blob_at (digest_of bytes) blobs ≡ Some bytes
  found_bytes bytes here =
      let digest = digest_of bytes in
      let tie : is_eq (by_digest digest digest) ≡ true = ap is_eq (tied_itself by_digest_total digest) in
      least_first _ bytes (named-to digest blobs (blob_of bytes) ((same (blob_of bytes)).0 (Contains-map blob_of (all_bytes t) bytes here)) tie)
      (λ y c.
      let b = named-from digest blobs y c in
      subst (λ (z : List ℕ). is_lt (by_bytes z bytes) ≡ false) (sym (one_has bytes y here b.0 b.1 b.2 b.3)) (not_below_itself nat_list_cmp_total bytes))

-- ---- Directories

-- each Directory's bytes are found by their digest, and are less than 2^63
record IsKept (blobs : List Blob) (bytes : List ℕ) : Type 0 where
  pub small : length bytes < 2 ^ 63
  pub found : blob_at (digest_of bytes) blobs ≡ Some bytes

is_found : (blobs : List Blob) (t : Tree) → blob_at (digest_of (tree_bytes t)) blobs ≡ Some (tree_bytes t) → read_directory (tree_bytes t) ≡ Ok (directory_of t) → IsFound blobs t
is_found blobs t found reads = rw (found, reads) refl

finds_below : (blobs : List Blob) (t : Tree) → HoldsEach IsName IsSmall t → IsInNameOrder t → ReadsAgainBelow t → ((bytes : List ℕ) → Contains (bytes_below t) bytes → IsKept blobs bytes) → FindsBelow blobs t
finds_below blobs End g h r keeps = tt
finds_below blobs (File n c t) g h r keeps = finds_below blobs t g.2 h.1 r keeps
finds_below blobs (Dir n s t) g h r keeps =
    let rest = tree_bytes s ∷ bytes_below t in
    let here = keeps (tree_bytes s) (Contains-append_right (bytes_below s) rest (tree_bytes s) (Contains-head (tree_bytes s) (bytes_below t))) in
    let down : (bytes : List ℕ) → Contains (bytes_below s) bytes → IsKept blobs bytes = λ bytes c. keeps bytes (Contains-append_left (bytes_below s) rest bytes c) in (
      is_found blobs s here.found (r.0 (readable s g.1 h.1 (λ bytes c. (down bytes c).small))),
      finds_below blobs s g.1 h.1 r.1 down,
      finds_below blobs t g.2 h.2 r.2 (λ bytes c. keeps bytes (Contains-append_right (bytes_below s) rest bytes (Contains-later (tree_bytes s) (bytes_below t) bytes c))),
    )

pub finds_all : (blobs : List Blob) (t : Tree) → HoldsEach IsName IsSmall t → IsInNameOrder t → ReadsAgain t → ReadsAgainBelow t → HasOwnDigests t → HasSameMembers (map blob_of (all_bytes t)) blobs
    → ((bytes : List ℕ) → Contains (all_bytes t) bytes → length bytes < 2 ^ 63) → IsFound blobs t × FindsBelow blobs t
finds_all blobs t g h reads down own same small =
    let front : (bytes : List ℕ) → Contains (bytes_below t) bytes → Contains (all_bytes t) bytes = λ bytes c. Contains-append_left (bytes_below t) (tree_bytes t ∷ []) bytes c in
    let last : Contains (all_bytes t) (tree_bytes t) = Contains-append_right (bytes_below t) (tree_bytes t ∷ []) (tree_bytes t) (Contains-head (tree_bytes t) []) in (
      is_found blobs t (found_bytes t blobs own same (tree_bytes t) last) (reads (readable t g h (λ bytes c. small bytes (front bytes c)))),
      finds_below blobs t g h down (λ bytes c. record { small = small bytes (front bytes c); found = found_bytes t blobs own same bytes (front bytes c) }),
    )

-- ---- paths

-- the names of an entry, on from those of a directory
pub record FitsOn (at : List (List ℕ)) (rest : Rest) : Type 0 where
  pub names : AllByRecursion IsName rest.names
  pub short : length (joined (at ++ rest.names)) ≤ longest

shorter : (at : List (List ℕ)) (n : List ℕ) (ms : List (List ℕ)) → length (joined (at ++ n ∷ [])) ≤ length (joined (at ++ n ∷ ms))
shorter at n [] = omega arith
shorter [] n (m ∷ ms) =
    let size = length-append n (47 ∷ joined (m ∷ ms)) in
    omega arith
shorter (x ∷ xs) n (m ∷ ms) =
    let one = ap (λ (t : List ℕ). length t) (joined-append x xs n []) in
    let all = ap (λ (t : List ℕ). length t) (joined-append x xs n (m ∷ ms)) in
    let first = length-append (joined (x ∷ xs)) (47 ∷ n) in
    let second = length-append (joined (x ∷ xs)) (47 ∷ joined (n ∷ m ∷ ms)) in
    let third = length-append n (47 ∷ joined (m ∷ ms)) in
    omega arith

record HasNode (at : List (List ℕ)) (sub : List ℕ → Tree) (n : List ℕ) : Type 0 where
  pub name : IsName n
  pub short : length (joined (at ++ n ∷ [])) ≤ longest
  pub down : HasPaths (at ++ n ∷ []) (sub n)

forest_paths : (file : List ℕ → Option Content) (sub : List ℕ → Tree) (at names : List (List ℕ)) → AllByRecursion (HasNode at sub) names → HasPaths at (forest file sub names)
forest_paths file sub at [] h = tt
forest_paths file sub at (n ∷ ns) h =
    elim (file n) as (λ o. HasPaths at (planted n o (sub n) (forest file sub ns))) [
      | Some c ↦ (h.0.name, h.0.short, forest_paths file sub at ns h.1)
      | None ↦ (h.0.name, h.0.short, h.0.down, forest_paths file sub at ns h.1)
    ]

pub has_paths : (most : ℕ) (rs : List Rest) (at : List (List ℕ)) → ((q : Rest) → Contains rs q → FitsOn at q) → HasPaths at (tree_at most rs)
has_paths zero rs at fits = tt
has_paths (suc most) rs at fits =
    forest_paths (λ n. file_here (within n rs)) (λ n. tree_at most (within n rs)) at (names_in rs)
    (All-members (HasNode at (λ n. tree_at most (within n rs))) (names_in rs)
    (λ n c.
    let q = names_in-from rs n c in
    let on = fits (on_from n q.0) q.1 in
    let le = shorter at n q.0.names in
    let short : length (joined (at ++ n ∷ q.0.names)) ≤ longest = on.short in
    record {
      name = on.names.0;
      short = omega arith;
      down = has_paths most (within n rs) (at ++ n ∷ []) (λ r d.
          let up = fits (on_from n r) (within-from n rs r d) in
          record { names = up.names.1; short = subst (λ (names : List (List ℕ)). length (joined names) ≤ longest) (sym (append_assoc at (n ∷ []) r.names)) up.short });
    }))

-- the names of a path
pub names_are : (path : List ℕ) → IsPath path → AllByRecursion IsName (names_of path)
names_are [] p = tt
names_are (b ∷ bs) p =
    let some : (names : List (List ℕ)) → b ∷ bs ≡ joined names → 0 < length names = λ names e. elim names as (λ ns. b ∷ bs ≡ joined ns → 0 < length ns) [ [] ↦ λ e. absurd (cc e) | x ∷ xs ↦ λ e. omega arith ] e in
    subst (λ (names : List (List ℕ)). AllByRecursion IsName names) (sym (ap parts p.spelled ∙ parts-joined p.names (some p.names p.spelled) p.each)) p.each
