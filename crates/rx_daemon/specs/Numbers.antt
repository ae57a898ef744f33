-- The options of the command line whose value is a number.
use Rattle.std.specs.Prelude.{ℕ, List, not, ◌&&◌, Option, None, Some, option_map, codes, if◌then◌else◌}
use Rattle.std.specs.Char.{is_ascii_digit}
use Rattle.std.specs.Int.{is_in_range}
use Rattle.std.specs.List.{list_all}
use Rattle.std.specs.Str.{bytes_eq}
use Rattle.std.specs.Str.Parse.{digits_value}
use Rattle.rx_daemon.specs.Cuts.{begins}

-- the numbers that options have so far
pub record Numbers : Type 0 where
  pub sessions : Option ℕ
  pub slots : Option ℕ
  pub call_timeout : Option ℕ
  pub farm_silence : Option ℕ

abbrev pub no_numbers : Numbers
no_numbers = record { sessions = None; slots = None; call_timeout = None; farm_silence = None }

-- a number from 1 to the greatest, in decimal digits, without a sign or a leading zero
unfoldable pub count_in : ℕ → List ℕ → Option ℕ
count_in most text =
    if list_all is_ascii_digit text && not (begins text (codes "0")) && is_in_range 1 most (digits_value 10 text) then
    Some (digits_value 10 text)
    else None

-- the number of an option that has none yet
abbrev pub once_counted : Option ℕ → Option ℕ → Option ℕ
once_counted None count = count
once_counted (Some given) count = None

-- as many sessions, and as many commands, run at once at most
abbrev pub most_at_once : ℕ
most_at_once = 256

-- a limit of time is at most an hour
abbrev pub most_seconds : ℕ
most_seconds = 3600

-- an option and its value: --sessions N, --slots N, --call-timeout SECONDS or --farm-silence SECONDS
unfoldable pub with_number : Numbers → List ℕ → List ℕ → Option Numbers
with_number numbers name value =
    if bytes_eq name (codes "--sessions") then
    option_map (λ sessions. record numbers { sessions = Some sessions })
    (once_counted numbers.sessions (count_in most_at_once value))
    else if bytes_eq name (codes "--slots") then
    option_map (λ slots. record numbers { slots = Some slots }) (once_counted numbers.slots (count_in most_at_once value))
    else if bytes_eq name (codes "--call-timeout") then
    option_map (λ seconds. record numbers { call_timeout = Some seconds })
    (once_counted numbers.call_timeout (count_in most_seconds value))
    else if bytes_eq name (codes "--farm-silence") then
    option_map (λ seconds. record numbers { farm_silence = Some seconds })
    (once_counted numbers.farm_silence (count_in most_seconds value))
    else None
