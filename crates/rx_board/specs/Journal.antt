-- What a journal says of the place that its files went to.
use Rattle.std.specs.Prelude.{◌≡◌, ℕ, ◌+◌, List, [], ◌∷◌, Option, None, Some, count_by, if◌then◌else◌, length, nat_lt, take}
use Rattle.std.specs.Option.{option_or}
use Rattle.std.specs.Str.{bytes_eq}
use Rattle.rx_base.specs.Told.{Told}
use Rattle.rx_world.specs.declared.outcomes.FileOut.{FileOut}
use Rattle.rx_world.specs.declared.outcomes.Listed.{Listed}
use Rattle.rx_world.specs.Files.{all_placed_by}
use Rattle.rx_world.specs.Outcomes.{listing}
use Rattle.rx_board.specs.declared.journal.Entry.{Entry}

-- the files that an entry placed: the first ones of its files
abbrev pub placed_files : Entry → List Listed
placed_files entry = take entry.placed entry.files

-- ---- by steps

-- what a journal leaves of a listing
abbrev pub journal_leaves : List Entry → List Listed → List Listed
journal_leaves [] held = held
journal_leaves (entry ∷ entries) held = journal_leaves entries (all_placed_by (λ file. file.path) (placed_files entry) held)

-- the place holds what the journal leaves of its opening contents, where it tells these
abbrev pub IsKeptBy : Option (List FileOut) → Option (List FileOut) → List Entry → Type 0
IsKeptBy opening contents journal = Told opening contents (λ x y. listing y ≡ journal_leaves journal (listing x))

-- ---- by paths

-- the first file at a path
abbrev pub listed_at : List ℕ → List Listed → Option Listed
listed_at path [] = None
listed_at path (file ∷ files) = if bytes_eq file.path path then Some file else listed_at path files

-- the last file at a path
abbrev pub last_listed_at : List ℕ → List Listed → Option Listed
last_listed_at path [] = None
last_listed_at path (file ∷ files) = option_or (last_listed_at path files) (if bytes_eq file.path path then Some file else None)

-- the file of the last entry that placed one at a path
abbrev pub last_placed_at : List ℕ → List Entry → Option Listed
last_placed_at path [] = None
last_placed_at path (entry ∷ entries) = option_or (last_placed_at path entries) (last_listed_at path (placed_files entry))

-- At each path the place holds the file of the last entry that placed one there, or else what it
-- held at first, where it tells these: compared by path, digest and mark.
abbrev pub HoldsLast : Option (List FileOut) → Option (List FileOut) → List Entry → Type 0
HoldsLast opening contents journal =
    Told opening contents (λ x y. (path : List ℕ) → listed_at path (listing y) ≡ option_or (last_placed_at path journal) (listed_at path (listing x)))

-- ---- numbers

-- the entries' numbers go up by one, without a gap
abbrev pub AreNumberedFrom : ℕ → List Entry → Type 0
AreNumberedFrom number [] = Unit {0}
AreNumberedFrom number (entry ∷ entries) = (entry.number ≡ number) × AreNumberedFrom (number + 1) entries

-- how many entries placed fewer files than they have
abbrev pub count_short : List Entry → ℕ
count_short journal = count_by (λ entry. nat_lt entry.placed (length entry.files)) journal
