-- The names in a directory (remote_execution.proto, Directory).
use Rattle.std.specs.Prelude.{ℕ, ◌==◌, ◌&&◌, Bool, true, false, not, List, [], ◌∷◌, length, map, codes, if◌then◌else◌}
use Rattle.std.specs.List.{list_all, list_any}
use Rattle.std.specs.Ordering.{is_lt, nat_cmp}
use Rattle.std.specs.Str.{bytes_eq}
use Rattle.std.specs.Cmp.Lexicographic.{slice_cmp}
use Rattle.rx_base.specs.SortedPaths.{sorted_once}

abbrev pub lacks : ℕ → List ℕ → Bool
lacks byte text = not (list_any (λ b. b == byte) text)

-- not empty, not `.` or `..`, without a slash or a zero byte
unfoldable pub is_name : List ℕ → Bool
is_name name = not (length name == 0) && not (bytes_eq name (codes ".")) && not (bytes_eq name (codes "..")) && lacks 47 name && lacks 0 name

-- each is below the next one, by their bytes
unfoldable pub are_sorted : List (List ℕ) → Bool
are_sorted [] = true
are_sorted (name ∷ []) = true
are_sorted (name ∷ next ∷ names) = is_lt (slice_cmp nat_cmp name next) && are_sorted (next ∷ names)

-- none occurs twice: in order, and each once, they are as many
unfoldable pub are_distinct : List (List ℕ) → Bool
are_distinct names = length (sorted_once (slice_cmp nat_cmp) names) == length names

-- an entry of one list of a Directory: its name is one, and it has its digest, where it needs one
abbrev pub entry_holds : {A : Type 0} → (A → List ℕ) → (A → Bool) → A → Bool
entry_holds name is_whole entry = if not (is_name (name entry)) then false else is_whole entry

-- one list of a Directory
unfoldable pub entries_hold : {A : Type 0} → (A → List ℕ) → (A → Bool) → List A → Bool
entries_hold name is_whole entries =
    if not (are_sorted (map name entries)) then false else list_all (λ entry. entry_holds name is_whole entry) entries
