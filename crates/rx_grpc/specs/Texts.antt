-- What header fields say of a call (PROTOCOL-HTTP2.md of gRPC, "Responses"; RFC 9113 8.3.2).
use Rattle.std.specs.Prelude.{◌≡◌, ℕ, ◌+◌, ◌-◌, ◌*◌, Bool, false, ◌&&◌, not, List, [], ◌∷◌, length, slice_index, if◌then◌else◌, nat_lt, ◌==◌, Option, None, Some, codes}
use Rattle.std.specs.Borrow.{Bor}
use Rattle.std.specs.Str.{bytes_eq}
use Rattle.rx_hpack.specs.Header.{Field}
use Rattle.rx_grpc.specs.declared.head.Head.{Head}
use Rattle.rx_grpc.specs.declared.head.Head.TheVariants.{Success, Failure}

-- the value of the first field of a name
abbrev pub value_of : List ℕ → List Field → Option (List ℕ)
value_of name [] = None
value_of name (field ∷ fields) = if bytes_eq field.name name then Some field.value else value_of name fields

abbrev pub text_or_none : Option (List ℕ) → List ℕ
text_or_none None = []
text_or_none (Some text) = text

-- `grpc-message` as it was sent, or nothing ("Status-Message")
abbrev pub status_text_of : List Field → List ℕ
status_text_of list = text_or_none (value_of (codes "grpc-message") list)

-- the code finds this value
abbrev pub Finds : Option (List ℕ) → Option (Bor (List ℕ)) → Type 0
Finds value None = value ≡ None
Finds value (Some found) = value ≡ Some found.now

abbrev pub is_digit : ℕ → Bool
is_digit b = not (nat_lt b 48) && nat_lt b 58

-- three digits, and nothing else
unfoldable pub three_digits : List ℕ → Option ℕ
three_digits text =
    if (length text == 3) && is_digit (slice_index text 0) && is_digit (slice_index text 1) && is_digit (slice_index text 2)
    then Some ((slice_index text 0 - 48) * 100 + (slice_index text 1 - 48) * 10 + (slice_index text 2 - 48))
    else None

abbrev pub http_status_by : Option (List ℕ) → Option ℕ
http_status_by None = None
http_status_by (Some text) = three_digits text

-- what `:status` tells: nothing where it isn't there or is no number of three digits
abbrev pub http_status : List Field → Option ℕ
http_status list = http_status_by (value_of (codes ":status") list)

-- the status of a call by an HTTP status other than 200 (http-grpc-status-mapping.md of gRPC)
unfoldable pub failure_of : ℕ → ℕ
failure_of code =
    if code == 400 then 13
    else if code == 401 then 16
    else if code == 403 then 7
    else if code == 404 then 12
    else if code == 429 then 14
    else if code == 502 then 14
    else if code == 503 then 14
    else if code == 504 then 14
    else 2

abbrev pub head_by : Option ℕ → Head
head_by None = Failure 2
head_by (Some code) = if code == 200 then Success else Failure (failure_of code)

abbrev pub head_of : List Field → Head
head_of list = head_by (http_status list)

abbrev pub is_interim_by : Option ℕ → Bool
is_interim_by None = false
is_interim_by (Some code) = not (nat_lt code 100) && nat_lt code 200

-- a list that isn't the final one (RFC 9110 15.2)
abbrev pub is_interim : List Field → Bool
is_interim list = is_interim_by (http_status list)

-- `grpc-status`: 0 to 16 as they are written, and any other text is 2
unfoldable pub status_number : List ℕ → ℕ
status_number text =
    if length text == 1 then (if is_digit (slice_index text 0) then slice_index text 0 - 48 else 2)
    else if length text == 2 then (if (slice_index text 0 == 49) && is_digit (slice_index text 1) && nat_lt (slice_index text 1) 55 then slice_index text 1 - 38 else 2)
    else 2

-- a stream that the server reset, by the code of RFC 9113 7 ("HTTP2 Transport Mapping, Errors")
unfoldable pub reset_status : ℕ → ℕ
reset_status code =
    if code == 7 then 14
    else if code == 8 then 1
    else if code == 11 then 8
    else if code == 12 then 7
    else 13
