-- Lists in order, with no repeats, and which path of a list stands above or below another.
use Rattle.std.specs.Prelude.{◌≡◌, ℕ, ◌||◌, Bool, true, false, List, [], ◌∷◌, ◌++◌, Option, if◌then◌else◌, ◌↔◌, position}
use Rattle.std.specs.declared.cmp.Ordering.{Ordering}
use Rattle.std.specs.Ordering.{is_eq, is_lt, nat_cmp}
use Rattle.std.specs.List.{list_any, Contains}
use Rattle.std.specs.List.Sorted.{IsPartitionPoint, IsStrictlySortedBy}
use Rattle.std.specs.Str.{bytes_eq}
use Rattle.std.specs.Cmp.Lexicographic.{slice_cmp}
use Rattle.rx_base.specs.Paths.{is_below}

-- an item put into an ordered list at its place, unless it is there already
abbrev pub inserted : {K : Type 0} → (K → K → Ordering) → K → List K → List K
inserted compare item [] = item ∷ []
inserted compare item (other ∷ others) =
    if is_lt (compare item other) then item ∷ other ∷ others
    else if is_eq (compare item other) then other ∷ others
    else other ∷ inserted compare item others

-- the items of a list in order, each once
abbrev pub sorted_once : {K : Type 0} → (K → K → Ordering) → List K → List K
sorted_once compare [] = []
sorted_once compare (item ∷ items) = inserted compare item (sorted_once compare items)

-- these paths in the order of their bytes, each once
abbrev pub sorted_paths : List (List ℕ) → List (List ℕ)
sorted_paths paths = sorted_once (slice_cmp nat_cmp) paths

-- what is in one list is in the other
abbrev pub HasSameMembers : {K : Type 0} → List K → List K → Type 0
HasSameMembers {K} xs ys = (item : K) → Contains xs item ↔ Contains ys item

-- each of the paths is before those after it, in the order of their bytes
abbrev pub AreSorted : List (List ℕ) → Type 0
AreSorted paths = IsStrictlySortedBy (slice_cmp nat_cmp) paths

-- which of these paths, the first such, the path stands below
abbrev pub first_above : List (List ℕ) → List ℕ → Option ℕ
first_above paths path = position (λ other. is_below path other) paths

-- which of these paths, the first such, is the path or one that it stands below
abbrev pub first_at_or_above : List (List ℕ) → List ℕ → Option ℕ
first_at_or_above paths path = position (λ other. bytes_eq path other || is_below path other) paths

-- which of these paths, the first such, stands below the path
abbrev pub first_below : List (List ℕ) → List ℕ → Option ℕ
first_below paths path = position (λ other. is_below other path) paths

-- whether the path is one of these paths
abbrev pub is_among : List ℕ → List (List ℕ) → Bool
is_among path paths = list_any (λ other. bytes_eq path other) paths

-- whether the path stands below one of these paths
abbrev pub is_below_any : List ℕ → List (List ℕ) → Bool
is_below_any path paths = list_any (λ other. is_below path other) paths

-- whether the path is one of these paths or stands below one
abbrev pub is_at_or_below_any : List ℕ → List (List ℕ) → Bool
is_at_or_below_any path paths = list_any (λ other. bytes_eq path other || is_below path other) paths

-- whether the path stands above one of these paths
abbrev pub is_above_any : List ℕ → List (List ℕ) → Bool
is_above_any path paths = list_any (λ other. is_below other path) paths

-- whether a text is before another one with a slash behind it, in the order of their bytes
abbrev pub is_before : List ℕ → List ℕ → Bool
is_before text other = is_lt (slice_cmp nat_cmp text (other ++ 47 ∷ []))

-- how many of these sorted paths are before all that begin with the path and a slash
abbrev pub IsFirstNotBefore : List (List ℕ) → List ℕ → ℕ → Type 0
IsFirstNotBefore paths path at = IsPartitionPoint (λ other. is_before other path ≡ true) (λ other. is_before other path ≡ false) paths at
