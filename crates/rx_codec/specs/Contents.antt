-- What the fields of one number say, by the kind of the field (Protocol Buffers, Encoding, "Optional and Repeated
-- Elements", "Last One Wins"). For each kind: the contents that are written for a value, and the value that contents
-- mean. A content of another wire type than the kind's is skipped.
use Rattle.std.specs.Prelude.{ℕ, ℤ, ◌==◌, Bool, true, false, not, List, [], ◌∷◌, length, map, Option, Some, None, unwrap_or, Result, Ok, if◌then◌else◌}
use Rattle.std.specs.Int.{w64, cast_signed, cast_unsigned}
use Rattle.std.specs.List.{concat, filter_map, last_or}
use Rattle.rx_base.specs.Results.{◌>>=◌}
use Rattle.rx_wire.specs.Integers.{int32_of, sign_extended}
use Rattle.rx_wire.specs.Values.{Content, varint, fixed64, bytes, fixed32, Field}
use Rattle.rx_codec.specs.FieldBytes.{fields_bytes, fields_in}
use Rattle.rx_codec.specs.declared.faults.MessageFault.{MessageFault}

-- ---- contents of one wire type

abbrev pub chunk_of : Content → Option (List ℕ)
chunk_of (bytes b) = Some b
chunk_of (varint n) = None
chunk_of (fixed64 n) = None
chunk_of (fixed32 n) = None

abbrev pub number_of : Content → Option ℕ
number_of (varint n) = Some n
number_of (bytes b) = None
number_of (fixed64 n) = None
number_of (fixed32 n) = None

-- those of a length and bytes
unfoldable pub chunks : List Content → List (List ℕ)
chunks cs = filter_map chunk_of cs

-- the varints
unfoldable pub numbers : List Content → List ℕ
numbers cs = filter_map number_of cs

-- ---- a text or bytes, left out where empty; the last one counts

unfoldable pub text_put : List ℕ → List Content
text_put text = if length text == 0 then [] else bytes text ∷ []

unfoldable pub text_in : List Content → List ℕ
text_in cs = unwrap_or (last_or None (chunks cs)) []

-- ---- a number, left out where it is 0; the last one counts

unfoldable pub number_put : ℕ → List Content
number_put n = if n == 0 then [] else varint n ∷ []

unfoldable pub number_in : List Content → ℕ
number_in cs = unwrap_or (last_or None (numbers cs)) 0

-- a truth value: any number but 0 is true
abbrev pub number_of_truth : Bool → ℕ
number_of_truth true = 1
number_of_truth false = 0

unfoldable pub truth_put : Bool → List Content
truth_put b = number_put (number_of_truth b)

unfoldable pub truth_in : List Content → Bool
truth_in cs = not (number_in cs == 0)

-- an int32, its low 32 bits where it is read, and ten bytes where it is negative
unfoldable pub int32_put : ℤ → List Content
int32_put n = number_put (sign_extended n)

unfoldable pub int32_in : List Content → ℤ
int32_in cs = int32_of (number_in cs)

-- an int64
unfoldable pub int64_put : ℤ → List Content
int64_put n = number_put (cast_unsigned w64 n)

unfoldable pub int64_in : List Content → ℤ
int64_in cs = cast_signed w64 (number_in cs)

-- ---- repeated texts, each written, also an empty one

unfoldable pub texts_put : List (List ℕ) → List Content
texts_put texts = map bytes texts

unfoldable pub texts_in : List Content → List (List ℕ)
texts_in cs = chunks cs

-- ---- a message that is kept as its bytes, left out where there are none; pieces are joined

unfoldable pub joined_in : List Content → List ℕ
joined_in cs = concat (chunks cs)

-- ---- a message, written where there is one, also an empty one

unfoldable pub one_put : {A : Type 0} → (A → List Field) → Option A → List Content
one_put fields None = []
one_put fields (Some x) = bytes (fields_bytes (fields x)) ∷ []

-- the message that pieces are together: merging is reading them one after the other
abbrev pub one_of : {A : Type 0} → (List Field → Result A MessageFault) → List (List ℕ) → Result (Option A) MessageFault
one_of from [] = Ok None
one_of from (piece ∷ pieces) = do
  x ← from (fields_in (concat (piece ∷ pieces)))
  Ok (Some x)

unfoldable pub one_in : {A : Type 0} → (List Field → Result A MessageFault) → List Content → Result (Option A) MessageFault
one_in from cs = one_of from (chunks cs)

-- ---- repeated messages

unfoldable pub each_put : {A : Type 0} → (A → List Field) → List A → List Content
each_put fields xs = map (λ x. bytes (fields_bytes (fields x))) xs

abbrev pub each_of : {A : Type 0} → (List Field → Result A MessageFault) → List (List ℕ) → Result (List A) MessageFault
each_of from [] = Ok []
each_of from (piece ∷ pieces) = do
  x ← from (fields_in piece)
  xs ← each_of from pieces
  Ok (x ∷ xs)

unfoldable pub each_in : {A : Type 0} → (List Field → Result A MessageFault) → List Content → Result (List A) MessageFault
each_in from cs = each_of from (chunks cs)
