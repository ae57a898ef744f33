-- The paths that values name. A path is the list of its bytes.
use Rattle.std.specs.Prelude.{ℕ, Bool, not, ◌&&◌, ◌||◌, List, Option, Some, None, Result, Ok, Err, nat_eq, if◌then◌else◌, codes}
use Rattle.std.specs.List.{starts_with, list_any}
use Rattle.std.specs.Str.{bytes_eq}
use Rattle.rx_base.specs.Paths.{is_below, join_of}
use Rattle.rx_cppflags.specs.declared.meanings.Meaning.{Meaning}
use Rattle.rx_cppflags.specs.declared.meanings.Meaning.TheVariants.{Dir}
use Rattle.rx_cppflags.specs.Meanings.{same, names_output, names_path}

-- a result's value, if it has one
abbrev pub value_of : {A E : Type 0} → Result A E → Option A
value_of (Ok x) = Some x
value_of (Err e) = None

-- whether a compiler puts another text in place of this one's first byte: `=` or `$`
abbrev pub is_replaced : List ℕ → Bool
is_replaced text = starts_with nat_eq text (codes "=") || starts_with nat_eq text (codes "$")

-- The path that a value names on from the working directory. An absolute text, one that leaves the root
-- and one that is no path name none.
abbrev pub path_from : List ℕ → List ℕ → Option (List ℕ)
path_from directory text = if is_replaced text then None else value_of (join_of directory text)

-- whether a command in this directory with these declared inputs may write a path
abbrev pub is_writable : List ℕ → List (List ℕ) → List ℕ → Bool
is_writable directory inputs path = is_below path directory && not (list_any (λ input. is_below input path) inputs)

abbrev pub kept : (List ℕ → Bool) → Option (List ℕ) → Option (List ℕ)
kept test None = None
kept test (Some path) = if test path then Some path else None

-- Whether a directory to search is none: `-I-` takes the directory of the including file away.
abbrev pub is_barrier : Meaning → List ℕ → Bool
is_barrier meaning text = same meaning Dir && bytes_eq text (codes "-")

-- the path that a value names, as what it means allows
abbrev pub path_of : List ℕ → List (List ℕ) → Meaning → List ℕ → Option (List ℕ)
path_of directory inputs meaning text =
    if names_output meaning then kept (is_writable directory inputs) (path_from directory text)
    else if names_path meaning && not (is_barrier meaning text) then path_from directory text
    else None
