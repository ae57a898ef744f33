-- The dynamic table (RFC 7541 2.3.2 and 4), the newest entry first.
use Rattle.std.specs.Prelude.{ℕ, ◌-◌, List, [], ◌∷◌, if◌then◌else◌, nat_lt}
use Rattle.rx_hpack.specs.Header.{Field, entry_size}

pub record Table : Type 0 where
  pub entries : List Field
  -- the size that they may come to (4.2)
  pub largest : ℕ

-- the newest entries for which there is room
abbrev pub fitting : ℕ → List Field → List Field
fitting room [] = []
fitting room (field ∷ fields) = if nat_lt room (entry_size field) then [] else field ∷ fitting (room - entry_size field) fields

-- with an entry added (4.4)
abbrev pub inserted : Field → Table → Table
inserted field table = record { entries = fitting table.largest (field ∷ table.entries); largest = table.largest }

-- with another largest size (4.3)
abbrev pub resized : ℕ → Table → Table
resized largest table = record { entries = fitting largest table.entries; largest = largest }
