-- What is kept of tries, by directory and name.
use Rattle.std.specs.Prelude.{◌≡◌, ℕ, ◌&&◌, Bool, List, Option, None, Some, String, if◌then◌else◌}
use Rattle.std.specs.BTreeMap.{BTreeMap, get_by, get_by_text}
use Rattle.std.specs.Cmp.Lexicographic.{slice_cmp}
use Rattle.std.specs.Ordering.{nat_cmp}
use Rattle.std.specs.Str.{bytes_eq}
use Rattle.rx_world.specs.declared.looks.Look.{Look}
use Rattle.rx_reach.specs.declared.tries.Tried.{Tried}
use Rattle.rx_reach.specs.Candidates.{IsTried, Try}
use Rattle.rx_reach.specs.Scenes.{Sees}

abbrev pub is_try : Try → Try → Bool
is_try t other = bytes_eq t.dir other.dir && bytes_eq t.name other.name

module _ {Y : Type 0} where
  -- what is kept of a name among the names of a directory
  abbrev pub name_at : Option (BTreeMap (String Y) Tried) → List ℕ → Option Tried
  name_at None name = None
  name_at (Some names) name = get_by_text names name

  -- what is kept of a try
  abbrev pub try_at : BTreeMap (List ℕ) (BTreeMap (String Y) Tried) → Try → Option Tried
  try_at dirs t = name_at (get_by (slice_cmp nat_cmp t.dir) dirs) t.name

  -- afterwards this is kept of the name, and of every other name what was
  abbrev pub NamesPut : BTreeMap (String Y) Tried → BTreeMap (String Y) Tried → List ℕ → Tried → Type 0
  NamesPut old new name tried = (other : List ℕ) → get_by_text new other ≡ if bytes_eq name other then Some tried else get_by_text old other

  -- afterwards this is kept of the try, and of every other try what was
  abbrev pub Puts : BTreeMap (List ℕ) (BTreeMap (String Y) Tried) → BTreeMap (List ℕ) (BTreeMap (String Y) Tried) → Try → Tried → Type 0
  Puts old new t tried = (other : Try) → try_at new other ≡ if is_try t other then Some tried else try_at old other

  -- each kept try is right in each scene in which these looks are
  abbrev pub AreKept : List (List ℕ × Look) → BTreeMap (List ℕ) (BTreeMap (String Y) Tried) → Type 0
  AreKept looks dirs = (t : Try) (tried : Tried) → try_at dirs t ≡ Some tried → Sees looks (λ scene. IsTried scene t tried)
