-- Paths by their parts. A path is the list of its bytes; the root is the empty one.
use Rattle.std.specs.Prelude.{map, ◌≡◌, ◌≢◌, ◌≤◌, ℕ, ◌-◌, Bool, List, [], ◌∷◌, ◌++◌, length, take, Option, Some, None, Result, Ok, Err, ◌||◌, nat_eq, nat_lt, ◌==◌, if◌then◌else◌, slice_index, position, codes}
use Rattle.std.specs.List.{slice_split, join_with_byte, starts_with, AllByRecursion}
use Rattle.std.specs.Str.{bytes_eq}
use Rattle.rx_base.specs.declared.path_fault.PathFault.{PathFault}
use Rattle.rx_base.specs.declared.path_fault.PathFault.TheVariants.{Empty, TooLong, Absolute, BadByte, AboveRoot}
use Rattle.rx_base.specs.Results.{◌>>=◌}

-- the most bytes of a path
abbrev pub longest : ℕ
longest = 4096

-- the parts of a text, between its slashes
abbrev pub parts : List ℕ → List (List ℕ)
parts text = slice_split (λ b. b == 47) text

-- the text of some names, with slashes between them
abbrev pub joined : List (List ℕ) → List ℕ
joined names = join_with_byte 47 names

-- a path's text with another one behind it
abbrev pub text_behind : List ℕ → List ℕ → List ℕ
text_behind path text = if length path == 0 then text else path ++ 47 ∷ text

-- ---- what a text names

-- the names without the last of them
abbrev pub without_last : List (List ℕ) → Result (List (List ℕ)) PathFault
without_last names = if length names == 0 then Err AboveRoot else Ok (take (length names - 1) names)

-- the names after one more part: an empty part and `.` are dropped, and `..` removes the last name
unfoldable pub with_part : List (List ℕ) → List ℕ → Result (List (List ℕ)) PathFault
with_part names part =
    if bytes_eq part [] || bytes_eq part (codes ".") then Ok names
    else if bytes_eq part (codes "..") then without_last names
    else Ok (names ++ part ∷ [])

-- the names after more parts
unfoldable pub with_parts : List (List ℕ) → List (List ℕ) → Result (List (List ℕ)) PathFault
with_parts names [] = Ok names
with_parts names (part ∷ others) = do
  next ← with_part names part
  with_parts next others

-- the names after a text
unfoldable pub with_text : List (List ℕ) → List ℕ → Result (List (List ℕ)) PathFault
with_text names text = with_parts names (parts text)

-- the first zero byte is refused
abbrev pub without_zero : Option ℕ → Result (Unit {0}) PathFault
without_zero None = Ok tt
without_zero (Some at) = Err (BadByte at)

-- a text that begins with a slash or has a zero byte is refused
unfoldable pub checked : List ℕ → Result (Unit {0}) PathFault
checked text =
    if slice_index text 0 == 47 then Err Absolute
    else without_zero (position (λ b. b == 0) text)

-- the path that a text without these faults names
unfoldable pub path_of : List ℕ → Result (List ℕ) PathFault
path_of text = do
  _ ← checked text
  names ← with_text [] text
  Ok (joined names)

-- the path that a text names
unfoldable pub read_of : List ℕ → Result (List ℕ) PathFault
read_of text =
    if length text == 0 then Err Empty
    else if nat_lt longest (length text) then Err TooLong
    else path_of text

-- the path that a text names on from another path
unfoldable pub join_of : List ℕ → List ℕ → Result (List ℕ) PathFault
join_of base text =
    if length text == 0 then Err Empty
    else do
      _ ← checked text
      names ← with_text [] base
      all ← with_text names text
      if nat_lt longest (length (joined all)) then Err TooLong else Ok (joined all)

-- ---- which bytes are a path

-- the byte doesn't occur
abbrev pub Lacks : ℕ → List ℕ → Type 0
Lacks c [] = Unit {0}
Lacks c (b ∷ bytes) = (b ≢ c) × Lacks c bytes

-- a name of a path
pub record IsName (name : List ℕ) : Type 0 where
  pub some : name ≢ []
  pub not_here : name ≢ codes "."
  pub not_up : name ≢ codes ".."
  pub no_slash : Lacks 47 name
  pub no_zero : Lacks 0 name

-- the bytes are a path: names with slashes between them, not too many bytes
pub record IsPath (bytes : List ℕ) : Type 0 where
  pub names : List (List ℕ)
  pub each : AllByRecursion IsName names
  pub spelled : bytes ≡ joined names
  pub short : length bytes ≤ longest

-- ---- paths among each other

-- whether a path lies below another, by one name or more
abbrev pub is_below : List ℕ → List ℕ → Bool
is_below path other = if length other == 0 then nat_lt 0 (length path) else starts_with nat_eq path (other ++ 47 ∷ [])

-- the path one name up; the root has none
abbrev pub parent_of : List ℕ → Option (List ℕ)
parent_of path = if length path == 0 then None else Some (joined (take (length (parts path) - 1) (parts path)))

-- the first one, the first two, and so on, but not all
abbrev pub fronts : {A : Type 0} → List A → List (List A)
fronts [] = []
fronts (x ∷ []) = []
fronts (x ∷ y ∷ others) = (x ∷ []) ∷ map (λ front. x ∷ front) (fronts (y ∷ others))

-- the paths above this one, the upper first, without the root
abbrev pub prefixes_of : List ℕ → List (List ℕ)
prefixes_of path = map joined (fronts (parts path))
