-- Where the names of includes are sought.
use Rattle.std.specs.Prelude.{ℕ, Bool, true, false, List, [], ◌∷◌, ◌++◌, Option, flat_map, length, map, nat_lt, if◌then◌else◌}
use Rattle.std.specs.Option.{option_to_list}
use Rattle.rx_base.specs.Paths.{parent_of}
use Rattle.rx_lex.specs.Directives.{Found, Name, directives_of}
use Rattle.rx_reach.specs.declared.searches.Search.{Search}
use Rattle.rx_reach.specs.Candidates.{Try}
use Rattle.rx_reach.specs.Scenes.{Scene}

-- the most bytes of one input file
abbrev pub most_file_bytes : ℕ
most_file_bytes = 67108864

-- what a text includes; a larger one counts as one without directives
abbrev pub includes_in : List ℕ → Found
includes_in text = if nat_lt most_file_bytes (length text) then record { list = []; hard = false; raw = false } else directives_of text

abbrev pub includes_of : Scene → List ℕ → Found
includes_of scene file = includes_in (scene.text file)

-- the directories in which a quoted name is sought, after this first one
abbrev pub quoted_dirs : Search → Option (List ℕ) → List (List ℕ)
quoted_dirs search first = option_to_list first ++ search.quote_dirs ++ search.dirs

-- An angled name is sought in the directories for both kinds, a quoted one first beside its file and in those for quoted names.
abbrev pub dirs_for : Search → List ℕ → Bool → List (List ℕ)
dirs_for search file true = search.dirs
dirs_for search file false = quoted_dirs search (parent_of file)

-- a name in these directories
abbrev pub tries_under : List (List ℕ) → List ℕ → List Try
tries_under dirs name = map (λ dir. record { dir = dir; name = name }) dirs

abbrev pub tries_of : Search → List ℕ → Name → List Try
tries_of search file name = tries_under (dirs_for search file name.angled) name.name

-- the candidates of the includes of a file
abbrev pub tries_in : Search → Scene → List ℕ → List Try
tries_in search scene file = flat_map (tries_of search file) (includes_of scene file).list

-- A forced file is sought in the working directory first, then as a quoted name without an includer.
abbrev pub forced_tries : Search → List ℕ → List Try
forced_tries search name = tries_under (search.working_directory ∷ search.quote_dirs ++ search.dirs) name

-- the candidates of all forced files
abbrev pub all_forced : Search → List Try
all_forced search = flat_map (forced_tries search) search.forced

-- The way to a path that a word names is walked from the working directory, as the way of an include's name is.
abbrev pub walked_tries : Search → List ℕ → List Try
walked_tries search text = tries_under (search.working_directory ∷ []) text

-- the ways of all these paths
abbrev pub all_walked : Search → List Try
all_walked search = flat_map (walked_tries search) search.walked

-- what is sought before any file is read
abbrev pub first_tries : Search → List Try
first_tries search = all_forced search ++ all_walked search
