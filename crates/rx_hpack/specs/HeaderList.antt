-- The header list of a block, as far as it has come, and its bound (RFC 9113 6.5.2).
use Rattle.std.specs.Prelude.{◌≡◌, ◌+◌, List, [], ◌∷◌, ◌++◌, if◌then◌else◌, nat_lt, Result, Ok, Err}
use Rattle.rx_hpack.specs.declared.fault.HpackFault.{HpackFault}
use Rattle.rx_hpack.specs.declared.fault.HpackFault.TheVariants.{ListTooLarge}
use Rattle.rx_hpack.specs.Answers.{Fails}
use Rattle.rx_hpack.specs.Header.{Field, entry_size, size_of}

-- The list with a header at its end, unless its size is past 65,536 then.
unfoldable pub kept : List Field → Field → Result (List Field) HpackFault
kept fields field = if nat_lt 65536 (size_of fields + entry_size field) then Err ListTooLarge else Ok (fields ++ field ∷ [])

-- what keeping a header answers and leaves
abbrev pub Keeps : List Field → Field → Result (Unit {0}) HpackFault → List Field → Type 0
Keeps old field (Ok _) new = kept old field ≡ Ok new
Keeps old field (Err e) new = Fails e (kept old field)
