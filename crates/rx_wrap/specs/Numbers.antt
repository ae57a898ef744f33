-- Numbers in decimal digits: ports and times.
use Rattle.std.specs.Prelude.{ℕ, ◌*◌, ◌-◌, ◌==◌, List, not, length, nat_lt, take, Option, Some, None, codes, slice_index, if◌then◌else◌}
use Rattle.std.specs.Char.{is_ascii_digit}
use Rattle.std.specs.List.{list_all}
use Rattle.std.specs.Option.{option_and_then}
use Rattle.std.specs.Str.Parse.{digits_value}
use Rattle.rx_wrap.specs.Cuts.{begins}

-- the number of one digit or more, up to a most
unfoldable pub number_in : ℕ → List ℕ → Option ℕ
number_in most text =
    if length text == 0 then None
    else if not (list_all is_ascii_digit text) then None
    else if nat_lt most (digits_value 10 text) then None
    else Some (digits_value 10 text)

-- 1 to 65535, without a leading zero
unfoldable pub port_in : List ℕ → Option ℕ
port_in text = if begins text (codes "0") then None else number_in 65535 text

-- ---- times

-- the most seconds
abbrev pub longest : ℕ
longest = 4294967295

-- so many seconds, minutes or hours, in seconds
abbrev pub scaled : ℕ → ℕ → Option ℕ
scaled unit n = if nat_lt longest (n * unit) then None else Some (n * unit)

-- the seconds of `s`, `m` and `h`
abbrev pub unit_of : ℕ → Option ℕ
unit_of letter =
    if letter == 115 then Some 1
    else if letter == 109 then Some 60
    else if letter == 104 then Some 3600
    else None

abbrev pub seconds_by : Option ℕ → List ℕ → Option ℕ
seconds_by None text = option_and_then (scaled 1) (number_in longest text)
seconds_by (Some unit) text = option_and_then (scaled unit) (number_in longest (take (length text - 1) text))

-- digits, or digits and a unit
unfoldable pub seconds_in : List ℕ → Option ℕ
seconds_in text = seconds_by (unit_of (slice_index text (length text - 1))) text
