-- The Huffman code (RFC 7541 5.2 and appendix B): one table of lengths, the rule that gives out the codes, and the walk along a code.
use Rattle.std.specs.Prelude.{◌≡◌, ℕ, ◌+◌, ◌-◌, ◌*◌, ◌/◌, ◌%◌, ◌<◌, ◌^◌, zero, suc, Bool, ◌&&◌, ◌||◌, not, List, [], ◌∷◌, ◌++◌, length, replicate, position, if◌then◌else◌, nat_lt, ◌==◌, slice_index_or, slice_index, Result, Ok, Err}
use Rattle.std.specs.List.{flat_map, list_any, AllByRecursion}
use Rattle.std.specs.Option.{option_map_or}
use Rattle.rx_hpack.specs.declared.fault.HpackFault.{HpackFault}
use Rattle.rx_hpack.specs.declared.fault.HpackFault.TheVariants.{BadHuffman}

-- The symbols whose codes have 1, 2, 3 .. bits, each row in ascending order. 256 is EOS, the end mark.
unfoldable pub rows : List (List ℕ)
rows =
    []
    ∷ []
    ∷ []
    ∷ []
    ∷ (48 ∷ 49 ∷ 50 ∷ 97 ∷ 99 ∷ 101 ∷ 105 ∷ 111 ∷ 115 ∷ 116 ∷ [])
    ∷ (32 ∷ 37 ∷ 45 ∷ 46 ∷ 47 ∷ 51 ∷ 52 ∷ 53 ∷ 54 ∷ 55 ∷ 56 ∷ 57 ∷ 61 ∷ 65 ∷ 95 ∷ 98 ∷ 100 ∷ 102 ∷ 103 ∷ 104 ∷ 108 ∷ 109 ∷ 110 ∷ 112 ∷ 114 ∷ 117 ∷ [])
    ∷ (58 ∷ 66 ∷ 67 ∷ 68 ∷ 69 ∷ 70 ∷ 71 ∷ 72 ∷ 73 ∷ 74 ∷ 75 ∷ 76 ∷ 77 ∷ 78 ∷ 79 ∷ 80 ∷ 81 ∷ 82 ∷ 83 ∷ 84 ∷ 85 ∷ 86 ∷ 87 ∷ 89 ∷ 106 ∷ 107 ∷ 113 ∷ 118 ∷ 119 ∷ 120 ∷ 121 ∷ 122 ∷ [])
    ∷ (38 ∷ 42 ∷ 44 ∷ 59 ∷ 88 ∷ 90 ∷ [])
    ∷ []
    ∷ (33 ∷ 34 ∷ 40 ∷ 41 ∷ 63 ∷ [])
    ∷ (39 ∷ 43 ∷ 124 ∷ [])
    ∷ (35 ∷ 62 ∷ [])
    ∷ (0 ∷ 36 ∷ 64 ∷ 91 ∷ 93 ∷ 126 ∷ [])
    ∷ (94 ∷ 125 ∷ [])
    ∷ (60 ∷ 96 ∷ 123 ∷ [])
    ∷ []
    ∷ []
    ∷ []
    ∷ (92 ∷ 195 ∷ 208 ∷ [])
    ∷ (128 ∷ 130 ∷ 131 ∷ 162 ∷ 184 ∷ 194 ∷ 224 ∷ 226 ∷ [])
    ∷ (153 ∷ 161 ∷ 167 ∷ 172 ∷ 176 ∷ 177 ∷ 179 ∷ 209 ∷ 216 ∷ 217 ∷ 227 ∷ 229 ∷ 230 ∷ [])
    ∷ (129 ∷ 132 ∷ 133 ∷ 134 ∷ 136 ∷ 146 ∷ 154 ∷ 156 ∷ 160 ∷ 163 ∷ 164 ∷ 169 ∷ 170 ∷ 173 ∷ 178 ∷ 181 ∷ 185 ∷ 186 ∷ 187 ∷ 189 ∷ 190 ∷ 196 ∷ 198 ∷ 228 ∷ 232 ∷ 233 ∷ [])
    ∷ (1 ∷ 135 ∷ 137 ∷ 138 ∷ 139 ∷ 140 ∷ 141 ∷ 143 ∷ 147 ∷ 149 ∷ 150 ∷ 151 ∷ 152 ∷ 155 ∷ 157 ∷ 158 ∷ 165 ∷ 166 ∷ 168 ∷ 174 ∷ 175 ∷ 180 ∷ 182 ∷ 183 ∷ 188 ∷ 191 ∷ 197 ∷ 231 ∷ 239 ∷ [])
    ∷ (9 ∷ 142 ∷ 144 ∷ 145 ∷ 148 ∷ 159 ∷ 171 ∷ 206 ∷ 215 ∷ 225 ∷ 236 ∷ 237 ∷ [])
    ∷ (199 ∷ 207 ∷ 234 ∷ 235 ∷ [])
    ∷ (192 ∷ 193 ∷ 200 ∷ 201 ∷ 202 ∷ 205 ∷ 210 ∷ 213 ∷ 218 ∷ 219 ∷ 238 ∷ 240 ∷ 242 ∷ 243 ∷ 255 ∷ [])
    ∷ (203 ∷ 204 ∷ 211 ∷ 212 ∷ 214 ∷ 221 ∷ 222 ∷ 223 ∷ 241 ∷ 244 ∷ 245 ∷ 246 ∷ 247 ∷ 248 ∷ 250 ∷ 251 ∷ 252 ∷ 253 ∷ 254 ∷ [])
    ∷ (2 ∷ 3 ∷ 4 ∷ 5 ∷ 6 ∷ 7 ∷ 8 ∷ 11 ∷ 12 ∷ 14 ∷ 15 ∷ 16 ∷ 17 ∷ 18 ∷ 19 ∷ 20 ∷ 21 ∷ 23 ∷ 24 ∷ 25 ∷ 26 ∷ 27 ∷ 28 ∷ 29 ∷ 30 ∷ 31 ∷ 127 ∷ 220 ∷ 249 ∷ [])
    ∷ []
    ∷ (10 ∷ 13 ∷ 22 ∷ 256 ∷ [])
    ∷ []

-- so many of the lowest bits of a number, the highest first
abbrev pub bits : ℕ → ℕ → List ℕ
bits zero n = []
bits (suc size) n = bits size (n / 2) ++ n % 2 ∷ []

-- The bits of a symbol's code. Codes are given out row by row, and within a row by symbol: the first is all
-- zeros, each next one is the one before plus 1, and at the next length the number is doubled.
abbrev pub code_from : List (List ℕ) → ℕ → ℕ → ℕ → List ℕ
code_from [] size first symbol = []
code_from (row ∷ rows) size first symbol =
    option_map_or (λ k. bits size (first + k)) (position (λ s. s == symbol) row) (code_from rows (size + 1) (2 * (first + length row)) symbol)

abbrev pub code : ℕ → List ℕ
code symbol = code_from rows 1 0 symbol

-- the bits of bytes, the highest of each byte first
abbrev pub bits_of : List ℕ → List ℕ
bits_of [] = []
bits_of (b ∷ bytes) = (b / 128) ∷ (b / 64 % 2) ∷ (b / 32 % 2) ∷ (b / 16 % 2) ∷ (b / 8 % 2) ∷ (b / 4 % 2) ∷ (b / 2 % 2) ∷ (b % 2) ∷ bits_of bytes

-- These bytes are the codes of the text, one after the other, and then fewer than eight ones.
pub record IsHuffman (coded text : List ℕ) : Type 0 where
  pub bytes : AllByRecursion (λ symbol. symbol < 256) text
  pub padding : ℕ
  pub short : padding < 8
  pub spelled : bits_of coded ≡ flat_map code text ++ replicate padding 1

-- A place within a code: the bits so far as a number, how many they are, and the first code that is one bit longer.
pub record Walk : Type 0 where
  pub code : ℕ
  pub size : ℕ
  pub first : ℕ

abbrev pub start : Walk
start = record { code = 0; size = 0; first = 0 }

-- One bit more: the symbol whose code is complete then, and the place after it.
unfoldable pub step : List (List ℕ) → Walk → ℕ → List ℕ × Walk
step table place bit =
    let code = 2 * place.code + bit in
    let row = slice_index_or table place.size [] in
    if nat_lt code (place.first + length row)
    then (slice_index row (code - place.first) ∷ [], start)
    else ([], record { code = code; size = place.size + 1; first = 2 * (place.first + length row) })

-- The symbols that bits complete, and the place after them.
unfoldable pub walked : List (List ℕ) → Walk → List ℕ → List ℕ × Walk
walked table place [] = ([], place)
walked table place (bit ∷ bits) =
    let one = step table place bit in
    let others = walked table one.1 bits in
    (one.0 ++ others.0, others.1)

-- fewer than eight bits of a code, all ones
abbrev pub is_padding : Walk → Bool
is_padding place = nat_lt place.size 8 && (place.code + 1 == 2 ^ place.size)

abbrev pub is_end_mark : ℕ → Bool
is_end_mark symbol = symbol == 256

-- The text of a string in the Huffman code. The end mark and a rest that is no padding are refused.
unfoldable pub text_of : List ℕ → Result (List ℕ) HpackFault
text_of coded =
    let read = walked rows start (bits_of coded) in
    if list_any is_end_mark read.0 || not (is_padding read.1) then Err BadHuffman else Ok read.0
