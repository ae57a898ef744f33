-- The last name of a text, what stands before it, and its ending.
use Rattle.std.specs.Prelude.{ℕ, ◌==◌, List, ◌++◌, Option, None, Some, if◌then◌else◌}
use Rattle.std.specs.List.{list_any}
use Rattle.std.specs.Option.{option_map}
use Rattle.std.specs.Path.{dot, slash, rsplit_once}

abbrev pub name_behind : List ℕ → Option (List ℕ × List ℕ) → List ℕ
name_behind text None = text
name_behind text (Some split) = split.1

-- the last name of a text: what stands behind its last slash
abbrev pub last_name : List ℕ → List ℕ
last_name text = name_behind text (rsplit_once slash text)

abbrev pub stem_before : List ℕ → Option (List ℕ × List ℕ) → List ℕ
stem_before text None = text
stem_before text (Some split) = if list_any (λ b. b == slash) split.1 then text else split.0

-- the text without its last ending, which begins with the last point of its last name
abbrev pub without_ending : List ℕ → List ℕ
without_ending text = stem_before text (rsplit_once dot text)

-- the text with another ending in place of its last
abbrev pub with_ending : List ℕ → List ℕ → List ℕ
with_ending ending text = without_ending text ++ ending

-- what stands before the last slash of a text that has one
abbrev pub directory_of : List ℕ → Option (List ℕ)
directory_of text = option_map (λ split. split.0) (rsplit_once slash text)
