-- What all words of a command together name.
use Rattle.std.specs.Prelude.{ℕ, Bool, ◌&&◌, ◌||◌, List, ◌++◌, filter, map, Option, Some, None, if◌then◌else◌, count_by, nat_lt, codes}
use Rattle.std.specs.List.{filter_map, list_any}
use Rattle.std.specs.Str.{bytes_eq}
use Rattle.rx_cppflags.specs.declared.meanings.Meaning.{Meaning}
use Rattle.rx_cppflags.specs.declared.meanings.Meaning.TheVariants.{CSource, CppSource, Language, Output, Made}
use Rattle.rx_cppflags.specs.Endings.{directory_of}
use Rattle.rx_cppflags.specs.Meanings.{same, names_output, names_path}
use Rattle.rx_cppflags.specs.Pieces.{Saying}

-- whether something of this meaning is said
abbrev pub has_meaning : Meaning → List Saying → Bool
has_meaning meaning said = list_any (λ s. same s.meaning meaning) said

abbrev pub path_for : Meaning → Saying → Option (List ℕ)
path_for meaning s = if same s.meaning meaning then s.path else None

-- whether more words than one have this meaning
abbrev pub has_meaning_again : Meaning → List Saying → Bool
has_meaning_again meaning said = nat_lt 1 (count_by (λ s. same s.meaning meaning) said)

-- the paths of this meaning
abbrev pub paths_of : Meaning → List Saying → List (List ℕ)
paths_of meaning said = filter_map (path_for meaning) said

-- the texts of this meaning
abbrev pub texts_of : Meaning → List Saying → List (List ℕ)
texts_of meaning said = map (λ s. s.text) (filter (λ s. same s.meaning meaning) said)

abbrev pub sources_of : List Saying → List (List ℕ)
sources_of said = paths_of CSource said ++ paths_of CppSource said

-- whether the source is C: by its name, or by a word for its language
abbrev pub is_c : List Saying → Bool
is_c said = list_any (λ s. same s.meaning CSource || (same s.meaning Language && bytes_eq s.text (codes "c"))) said

-- what is made: the objects that words name, and all that a compiler makes besides
abbrev pub outputs_of : List Saying → List (List ℕ)
outputs_of said = paths_of Output said ++ paths_of Made said

-- The text whose way is walked before anything is found at its end: a directory's or a file's own, and of what is written its directory's.
abbrev pub walked_for : Saying → Option (List ℕ)
walked_for s = if names_output s.meaning then directory_of s.text else if names_path s.meaning then Some s.text else None

abbrev pub walked_of : List Saying → List (List ℕ)
walked_of said = filter_map walked_for said
