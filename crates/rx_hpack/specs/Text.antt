-- String literals (RFC 7541 5.2): a bit that tells the Huffman code, a length, and so many bytes.
use Rattle.std.specs.Prelude.{◌≡◌, ℕ, ◌-◌, List, [], ◌∷◌, ◌++◌, ◌⊎◌, length, take, drop, if◌then◌else◌, nat_lt, Result, Ok, Err}
use Rattle.rx_hpack.specs.declared.fault.HpackFault.{HpackFault}
use Rattle.rx_hpack.specs.declared.fault.HpackFault.TheVariants.{BadInteger}
use Rattle.rx_hpack.specs.Answers.{◌>>=◌}
use Rattle.rx_hpack.specs.Integer.{integer_at, integer_bytes, IsInteger}
use Rattle.rx_hpack.specs.Huffman.{text_of, IsHuffman}

-- the bytes of a string whose length has this in its prefix, and the bytes after them
unfoldable pub part_at : ℕ → List ℕ → Result (List ℕ × List ℕ) HpackFault
part_at prefix bytes = do
  size ← integer_at 127 prefix bytes
  if nat_lt (length size.1) size.0 then Err BadInteger else Ok (take size.0 size.1, drop size.0 size.1)

-- the text of the string at the front, and the bytes after it
unfoldable pub string_at : List ℕ → Result (List ℕ × List ℕ) HpackFault
string_at [] = Err BadInteger
string_at (first ∷ bytes) =
    if nat_lt first 128 then part_at first bytes
    else part_at (first - 128) bytes >>= λ coded. text_of coded.0 >>= λ text. Ok (text, coded.1)

-- the bytes that are written for a text, which is left as it is
unfoldable pub plain_bytes : List ℕ → List ℕ
plain_bytes text = integer_bytes 127 0 (length text) ++ text

-- The same as a relation: the text as it is, its length before it,
pub record IsPlain (bytes text : List ℕ) : Type 0 where
  pub size : List ℕ
  pub is_size : IsInteger 127 0 size (length text)
  pub spelled : bytes ≡ size ++ text

-- or its bytes in the Huffman code, their number before them.
pub record IsCoded (bytes text : List ℕ) : Type 0 where
  pub coded : List ℕ
  pub size : List ℕ
  pub is_size : IsInteger 127 128 size (length coded)
  pub is_huffman : IsHuffman coded text
  pub spelled : bytes ≡ size ++ coded

-- These bytes are a string literal of the text.
abbrev pub IsString : List ℕ → List ℕ → Type 0
IsString bytes text = IsPlain bytes text ⊎ IsCoded bytes text
