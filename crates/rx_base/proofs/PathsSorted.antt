-- What a sort and a `dedup` leave.
use Rattle.std.proofs.Common.{◌≡◌, ℕ, List, [], sym, subst}
use Rattle.std.specs.Ordering.{nat_cmp}
use Rattle.std.specs.Str.{bytes_eq}
use Rattle.std.specs.Cmp.Lexicographic.{slice_cmp, nat_list_cmp_total, nat_list_eq_equiv}
use Rattle.std.specs.FinMap.{nat_cmp-IsAntisymmetric, slice_cmp-IsAntisymmetric}
use Rattle.std.specs.List.Retain.{IsFiltered, DiffersFromLast}
use Rattle.std.specs.List.Sorted.{IsPermutation, IsSorted, IsStrictlySortedBy}
use Rattle.std.proofs.lemmas.List.Filters.{dedup_is}
use Rattle.std.proofs.lemmas.List.Kept.{IsStrictlySortedBy-dedup, Contains-dedup, Contains-from_dedup}
use Rattle.std.proofs.lemmas.List.Sorted.{Contains-permutation, IsPermutation-sym}
use Rattle.std.proofs.lemmas.Map.Text.{is_eq-slice_cmp}
use Rattle.std.proofs.lemmas.Slice.Eq.{bytes_eq-Decides}
use Rattle.rx_base.specs.SortedPaths.{sorted_paths, AreSorted, HasSameMembers}
use Rattle.rx_base.proofs.Orders.{is_sorted_once, IsStrictlySortedBy-sorted_once}

pub ascending : (sorted once : List (List ℕ)) → IsSorted (slice_cmp nat_cmp) sorted → IsFiltered (DiffersFromLast bytes_eq) [] sorted once → IsStrictlySortedBy (slice_cmp nat_cmp) once
ascending sorted once s kept =
    rw (dedup_is bytes_eq sorted once kept) (IsStrictlySortedBy-dedup nat_list_cmp_total (λ x y. sym (is_eq-slice_cmp x y)) sorted s)

pub members : (paths sorted once : List (List ℕ)) → IsPermutation paths sorted → IsFiltered (DiffersFromLast bytes_eq) [] sorted once → HasSameMembers paths once
members paths sorted once p kept =
    subst (λ (found : List (List ℕ)). HasSameMembers paths found) (sym (dedup_is bytes_eq sorted once kept))
    (λ path. (
      λ c. Contains-dedup nat_list_eq_equiv (λ x y e. (bytes_eq-Decides x y).0 e) sorted path (Contains-permutation paths sorted path p c),
      λ c. Contains-permutation sorted paths path (IsPermutation-sym paths sorted p) (Contains-from_dedup bytes_eq sorted path c),
    ))

pub sorted_is : (paths sorted once : List (List ℕ)) → IsPermutation paths sorted → IsSorted (slice_cmp nat_cmp) sorted → IsFiltered (DiffersFromLast bytes_eq) [] sorted once → once ≡ sorted_paths paths
sorted_is paths sorted once p s kept =
    is_sorted_once nat_list_cmp_total (slice_cmp-IsAntisymmetric nat_cmp-IsAntisymmetric) paths once (ascending sorted once s kept) (members paths sorted once p kept)

-- the list that a sort gives is sorted
pub AreSorted-sorted_paths : (paths : List (List ℕ)) → AreSorted (sorted_paths paths)
AreSorted-sorted_paths paths = IsStrictlySortedBy-sorted_once nat_list_cmp_total (slice_cmp-IsAntisymmetric nat_cmp-IsAntisymmetric) paths
