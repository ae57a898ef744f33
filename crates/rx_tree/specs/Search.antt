-- What a search among the first entries has found.
use Rattle.std.specs.Prelude.{◌≡◌, ◌<◌, ◌+◌, ℕ, Bool, true, List, length, Option, Some, None, option_map, if◌then◌else◌}
use Rattle.std.specs.Borrow.{Bor}
use Rattle.std.specs.declared.cmp.Ordering.{Ordering}
use Rattle.std.specs.List.{slice_index_or}
use Rattle.std.specs.Ordering.{is_le}
use Rattle.rx_tree.specs.Entries.{Entry}
use Rattle.rx_tree.specs.declared.refusals.Conflict.{Conflict}
use Rattle.rx_tree.specs.declared.refusals.Conflict.TheVariants.{SameFile, Under}
use Rattle.rx_tree.specs.Refusals.{IsLeast, by_bytes, is_same_file, is_under, stands_under}

-- the path that a reference points to
abbrev pub place : Option (Bor (List ℕ)) → Option (List ℕ)
place found = option_map (λ (path : Bor (List ℕ)). path.now) found

-- nothing has the fact, or this is the least that has it
abbrev pub IsLeastOr : {K : Type 0} → (K → K → Ordering) → (K → Type 0) → Option K → Type 0
IsLeastOr {K} compare Fact None = (other : K) → Fact other → ⊥
IsLeastOr {K} compare Fact (Some least) = IsLeast compare Fact least

-- the lesser of two paths, where there are two
abbrev pub lesser_of : Option (List ℕ) → List ℕ → List ℕ
lesser_of None path = path
lesser_of (Some other) path = if is_le (by_bytes other path) then other else path

-- whether two entries are in this conflict
abbrev pub is_conflict : Conflict → Entry → Entry → Bool
is_conflict SameFile first second = is_same_file first second
is_conflict Under first second = is_under first second

-- among the first entries, so many, two neighbours pass the test, the first of which has the path
pub record HasNeighbours (test : Entry → Entry → Bool) (entries : List Entry) (count : ℕ) (path : List ℕ) : Type 0 where
  pub at : ℕ
  pub within : at + 1 < count
  pub inside : at + 1 < length entries
  pub passes : (d : Entry) → test (slice_index_or entries at d) (slice_index_or entries (at + 1) d) ≡ true
  pub path_is : (d : Entry) → (slice_index_or entries at d).path ≡ path

-- an entry with the path stands under another path
pub record HasBelow (entries : List Entry) (above : List ℕ) (count : ℕ) (path : List ℕ) : Type 0 where
  pub at : ℕ
  pub within : at < count
  pub under : (d : Entry) → stands_under above (slice_index_or entries at d) ≡ true
  pub path_is : (d : Entry) → (slice_index_or entries at d).path ≡ path
