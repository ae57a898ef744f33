-- What the search among neighbours says of the whole list of paths.
use Rattle.std.proofs.Common.{◌≡◌, ℕ, ◌<◌, false, List, Option, Some, None, cond, length, refl, sym, subst}
use Rattle.std.specs.declared.cmp.Ordering.TheVariants.{Less, Equal, Greater}
use Rattle.std.specs.Ordering.{is_lt, ordering_then}
use Rattle.std.specs.List.Sorted.{IsPermutation, IsSorted}
use Rattle.std.proofs.lemmas.List.Sorted.{Contains-permutation, IsPermutation-sym, sum_by-IsPermutation}
use Rattle.rx_tree.specs.Entries.{Entry}
use Rattle.rx_tree.specs.Places.{by_place}
use Rattle.rx_tree.specs.Refusals.{IsApart, IsClash, IsLeast, IsTwice, by_bytes, by_pair, is_file_at, is_same_file, is_under}
use Rattle.rx_tree.specs.Search.{HasBelow, HasNeighbours, IsLeastOr}
use Rattle.rx_tree.proofs.LeastLemmas.{IsLeastOr-same}
use Rattle.rx_tree.proofs.NameOrder.{is_equal}
use Rattle.rx_tree.proofs.Neighbours.{below-clash, clash-below, clash-neighbours, neighbours-clash, neighbours-twice, twice-neighbours}

-- a pair whose first path is not less, nor its second where the first is the same, is not less
not_less : (p q r s : List ℕ) → is_lt (by_bytes p q) ≡ false → (p ≡ q → is_lt (by_bytes r s) ≡ false) → is_lt (by_pair (p, r) (q, s)) ≡ false
not_less p q r s first second =
    elim (by_bytes p q) as (λ o. by_bytes p q ≡ o → is_lt o ≡ false → is_lt (ordering_then o (by_bytes r s)) ≡ false) [
      | Less ↦ λ e f. f
      | Equal ↦ λ e f. second (is_equal p q e)
      | Greater ↦ λ e f. f
    ] refl first

module _ (entries xs : List Entry) (same : IsPermutation entries xs) (up : IsSorted by_place xs) where
  twice-sorted : (p : List ℕ) → IsTwice entries p → IsTwice xs p
  twice-sorted p h = subst (λ (n : ℕ). 1 < n) (sym (sum_by-IsPermutation (λ (x : Entry). cond (is_file_at p x) 1 0) entries xs same)) h

  pub twice-entries : (p : List ℕ) → IsTwice xs p → IsTwice entries p
  twice-entries p h = subst (λ (n : ℕ). 1 < n) (sum_by-IsPermutation (λ (x : Entry). cond (is_file_at p x) 1 0) entries xs same) h

  clash-sorted : (paths : List ℕ × List ℕ) → IsClash entries paths → IsClash xs paths
  clash-sorted paths h = record {
    file = h.file;
    below = h.below;
    has_file = Contains-permutation entries xs h.file same h.has_file;
    has_below = Contains-permutation entries xs h.below same h.has_below;
    under = h.under;
    file_path = h.file_path;
    below_path = h.below_path;
  }

  pub clash-entries : (paths : List ℕ × List ℕ) → IsClash xs paths → IsClash entries paths
  clash-entries paths h = record {
    file = h.file;
    below = h.below;
    has_file = Contains-permutation xs entries h.file (IsPermutation-sym entries xs same) h.has_file;
    has_below = Contains-permutation xs entries h.below (IsPermutation-sym entries xs same) h.has_below;
    under = h.under;
    file_path = h.file_path;
    below_path = h.below_path;
  }

  -- the least path of two files
  pub least_twice : (found : Option (List ℕ)) → IsLeastOr by_bytes (HasNeighbours is_same_file xs (length xs)) found → IsLeastOr by_bytes (IsTwice entries) found
  least_twice found h =
      IsLeastOr-same by_bytes (HasNeighbours is_same_file xs (length xs)) (IsTwice entries) found h (λ p n. twice-entries p (neighbours-twice xs up p n)) (λ p t. twice-neighbours xs up p (twice-sorted p t))

  module _ (once : (p : List ℕ) → IsTwice entries p → ⊥) where
    above-clash : (paths : List ℕ × List ℕ) → IsClash entries paths → HasNeighbours is_under xs (length xs) paths.0
    above-clash paths c = clash-neighbours xs up paths (λ p t. once p (twice-entries p t)) (clash-sorted paths c)

    -- no file has a neighbour under it
    pub apart : IsLeastOr by_bytes (HasNeighbours is_under xs (length xs)) None → IsApart entries
    apart none = record { once = once; apart = λ paths c. none paths.0 (above-clash paths c) }

    -- a file has one, so something stands under it
    pub some_below : (file : List ℕ) → IsLeastOr by_bytes (HasNeighbours is_under xs (length xs)) (Some file) → IsLeastOr by_bytes (HasBelow xs file (length xs)) None → ⊥
    some_below file least none = let c = neighbours-clash xs up file least.0 in none c.0 (clash-below xs up file c.0 c.1)

    pub least_clash : (file below : List ℕ) → IsLeastOr by_bytes (HasNeighbours is_under xs (length xs)) (Some file) → IsLeastOr by_bytes (HasBelow xs file (length xs)) (Some below)
        → IsLeast by_pair (IsClash entries) (file, below)
    least_clash file below least under =
        let c = neighbours-clash xs up file least.0 in (
          clash-entries (file, below) (below-clash xs up file below c.0 c.1 under.0),
          λ other d.
              not_less other.0 file other.1 below (least.1 other.0 (above-clash other d))
              (λ same_file. under.1 other.1 (clash-below xs up file other.1 (subst (λ (p : List ℕ). IsClash xs (p, other.1)) same_file (clash-sorted other d)))),
        )
