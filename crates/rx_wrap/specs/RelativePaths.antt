-- Absolute paths below the root in words, made relative to the working directory.
use Rattle.std.specs.Prelude.{ℕ, Bool, false, ◌==◌, List, [], ◌∷◌, ◌++◌, Option, Some, None, codes, length, map, if◌then◌else◌}
use Rattle.std.specs.List.{flat_map}
use Rattle.std.specs.Option.{option_and_then}
use Rattle.std.specs.Result.{result_ok}
use Rattle.std.specs.Str.{bytes_eq}
use Rattle.rx_base.specs.Paths.{parts, read_of}
use Rattle.rx_wrap.specs.Cuts.{begins, stripped}
use Rattle.rx_wrap.specs.Directories.{below}

-- ---- the way from a directory to a path

-- the names of a path; the root has none
unfoldable pub names_of : List ℕ → List (List ℕ)
names_of path = if length path == 0 then [] else parts path

-- up from each of these directories; from none, `.`
abbrev pub up : List (List ℕ) → List ℕ
up [] = codes "."
up (name ∷ names) = codes ".." ++ flat_map (λ name. codes "/..") names

-- names, each behind a slash
abbrev pub down : List (List ℕ) → List ℕ
down names = flat_map (λ name. 47 ∷ name) names

-- two lists have a first name, and it is one
abbrev pub begin_alike : List (List ℕ) → List (List ℕ) → Bool
begin_alike (name ∷ names) (other ∷ others) = bytes_eq name other
begin_alike names others = false

-- up to the directory above both, and down to the path
abbrev pub way : List (List ℕ) → List (List ℕ) → List ℕ
way [] path = up [] ++ down path
way (name ∷ names) [] = up (name ∷ names) ++ down []
way (name ∷ names) (other ∷ others) =
    if bytes_eq name other then way names others else up (name ∷ names) ++ down (other ∷ others)

-- ---- words

-- the path of a text below the root, which may be empty
unfoldable pub path_by : List ℕ → Option (List ℕ)
path_by text = if length text == 0 then Some [] else result_ok (read_of text)

-- the path below the root that an absolute text names, if it names one
abbrev pub path_below : List ℕ → List ℕ → Option (List ℕ)
path_below root text = option_and_then path_by (below root text)

-- what an argument begins with that may have a path right behind it
unfoldable pub front_of : List ℕ → List ℕ
front_of word =
    if begins word (codes "-I") then codes "-I"
    else if begins word (codes "-isystem") then codes "-isystem"
    else if begins word (codes "-iquote") then codes "-iquote"
    else if begins word (codes "-idirafter") then codes "-idirafter"
    else if begins word (codes "-include") then codes "-include"
    else if begins word (codes "-imacros") then codes "-imacros"
    else if begins word (codes "-o") then codes "-o"
    else if begins word (codes "-MF") then codes "-MF"
    else if begins word (codes "--sysroot=") then codes "--sysroot="
    else []

-- the path below the root that a word names behind its front
abbrev pub path_in_word : List ℕ → List ℕ → Option (List ℕ)
path_in_word root word = option_and_then (path_below root) (stripped (front_of word) word)

abbrev pub with_path : List ℕ → List ℕ → Option (List ℕ) → List ℕ
with_path directory word None = word
with_path directory word (Some path) = front_of word ++ way (names_of directory) (names_of path)

-- a word whose path is relative to the working directory, where it is below the root
unfoldable pub relative_word : List ℕ → List ℕ → List ℕ → List ℕ
relative_word root directory word = with_path directory word (path_in_word root word)

abbrev pub words_by : List ℕ → Option (List ℕ) → List (List ℕ) → List (List ℕ)
words_by root None words = words
words_by root (Some directory) words = map (relative_word root directory) words

-- The words of a command that runs in this directory below the root. A directory that is no path keeps them as they are.
unfoldable pub relative_words : List ℕ → List ℕ → List (List ℕ) → List (List ℕ)
relative_words root directory words = words_by root (path_by directory) words
