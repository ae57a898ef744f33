-- Where a farm listens, and where the proxy does.
use Rattle.std.specs.Prelude.{ℕ, List, Bool, ◌&&◌, ◌||◌, not, codes, drop, length, ◌==◌}
use Rattle.std.specs.Char.{is_ascii_alphanumeric, is_ascii_digit}
use Rattle.std.specs.Int.{is_in_range}
use Rattle.std.specs.List.{list_all}
use Rattle.std.specs.Str.Parse.{digits_value}
use Rattle.rx_daemon.specs.Cuts.{after, before, begins, has}

abbrev pub is_host_byte : ℕ → Bool
is_host_byte b = is_ascii_alphanumeric b || b == 46 || b == 45

-- HOST: 1 to 255 letters, digits, `.` and `-`
unfoldable pub is_host : List ℕ → Bool
is_host text = is_in_range 1 255 (length text) && list_all is_host_byte text

-- PORT: 1 to 65535 in decimal digits, without a sign or a leading zero
unfoldable pub is_port : List ℕ → Bool
is_port text =
    list_all is_ascii_digit text && not (begins text (codes "0")) && is_in_range 1 65535 (digits_value 10 text)

abbrev pub colon : ℕ
colon = 58

-- HOST:PORT
unfoldable pub is_address : List ℕ → Bool
is_address text = has colon text && is_host (before colon text) && is_port (after colon text)

-- where the proxy listens: `unix://` and a path that begins with a slash, or `127.0.0.1:` and a port
unfoldable pub is_listening_address : List ℕ → Bool
is_listening_address text = begins text (codes "unix:///") || (begins text (codes "127.0.0.1:") && is_port (drop 10 text))
