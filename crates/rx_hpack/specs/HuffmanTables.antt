-- What the tables of the Huffman decoder stand for: it goes four bits at a time from place to place.
use Rattle.std.specs.Prelude.{◌≡◌, ℕ, ◌+◌, ◌-◌, ◌*◌, ◌/◌, ◌%◌, ◌^◌, zero, suc, true, false, List, [], ◌∷◌, ◌++◌, length, if◌then◌else◌, nat_lt, slice_index_or, Result, Ok, Err}
use Rattle.std.specs.List.{list_any}
use Rattle.rx_hpack.specs.declared.fault.HpackFault.{HpackFault}
use Rattle.rx_hpack.specs.declared.fault.HpackFault.TheVariants.{BadHuffman, NoMemory}
use Rattle.rx_hpack.specs.Huffman.{rows, Walk, start, walked, bits_of, is_end_mark}

-- so many places of one length from a code on
abbrev pub level : ℕ → ℕ → ℕ → ℕ → List Walk → List Walk
level zero code size first later = later
level (suc count) code size first later = record { code = code; size = size; first = first } ∷ level count (code + 1) size first later

-- The places within a code, by length and then by number: those behind the codes of each length.
abbrev pub places_from : List (List ℕ) → ℕ → ℕ → List Walk
places_from [] size code = []
places_from (row ∷ rows) size code = level (2 ^ size - code) code size (2 * code) (places_from rows (size + 1) (2 * code + length row))

unfoldable pub places : List Walk
places = places_from rows 0 0

-- the place that a state stands for
abbrev pub place_at : List Walk → ℕ → Walk
place_at places state = slice_index_or places state start

-- four bits
abbrev pub four : ℕ → List ℕ
four n = (n / 8) ∷ (n / 4 % 2) ∷ (n / 2 % 2) ∷ (n % 2) ∷ []

-- how the table writes the symbol that four bits complete: what is above 256 stands for none
abbrev pub symbols : ℕ → List ℕ
symbols n = if nat_lt 256 n then [] else n ∷ []

-- What going on by some bits answers, where walking reads this: the state of the place after them, or the end mark.
abbrev pub GoesTo : List ℕ × Walk → List ℕ → Result ℕ HpackFault → List ℕ → Type 0
GoesTo read old (Ok state) new = (list_any is_end_mark read.0 ≡ false) × (new ≡ old ++ read.0) × (place_at places state ≡ read.1)
GoesTo read old (Err NoMemory) new = Unit {0}
GoesTo read old (Err e) new = (list_any is_end_mark read.0 ≡ true) × (e ≡ BadHuffman)

abbrev pub GoesFour : ℕ → ℕ → List ℕ → Result ℕ HpackFault → List ℕ → Type 0
GoesFour state n old result new = GoesTo (walked rows (place_at places state) (four n)) old result new

abbrev pub GoesByte : ℕ → ℕ → List ℕ → Result ℕ HpackFault → List ℕ → Type 0
GoesByte state byte old result new = GoesTo (walked rows (place_at places state) (bits_of (byte ∷ []))) old result new
