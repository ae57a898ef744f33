-- The order in which a tree's entries stand.
use Rattle.std.specs.Prelude.{ℕ, List, is_none}
use Rattle.std.specs.declared.cmp.Ordering.{Ordering}
use Rattle.std.specs.Ordering.{bool_cmp, nat_cmp, on, then_cmp}
use Rattle.std.specs.Cmp.{IsTotalOrder, bool_cmp_total, on_total, then_total}
use Rattle.std.specs.Cmp.Lexicographic.{slice_cmp, lists_total, nat_list_cmp_total}
use Rattle.rx_tree.specs.Entries.{Entry, names_of}

-- names one by one, each by its bytes: what is below a path comes before its next neighbour
abbrev pub by_names : List (List ℕ) → List (List ℕ) → Ordering
by_names x y = slice_cmp (slice_cmp nat_cmp) x y

-- by the names from the root down, and a file before a directory of the same path
abbrev pub by_place : Entry → Entry → Ordering
by_place x y = then_cmp (on (λ (e : Entry). names_of e.path) by_names) (on (λ (e : Entry). is_none e.file) bool_cmp) x y

pub by_place_total : IsTotalOrder by_place
by_place_total = then_total (on_total (λ (e : Entry). names_of e.path) (lists_total nat_list_cmp_total)) (on_total (λ (e : Entry). is_none e.file) bool_cmp_total)
