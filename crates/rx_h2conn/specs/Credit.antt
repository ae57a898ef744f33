-- When credit is told (RFC 9113 5.2.1, 6.9): the client gives windows of 16,777,216 bytes, and tells what was used of
-- one once it is a quarter.
use Rattle.std.specs.Prelude.{ℕ, length, if◌then◌else◌, nat_lt, ◌==◌}
use Rattle.rx_h2conn.specs.declared.stream.Stream.{Stream}
use Rattle.rx_h2conn.specs.Session.{Session}

-- all that is owed, once it is 4,194,304 bytes
abbrev pub due : ℕ → ℕ
due owed = if nat_lt owed 4194304 then 0 else owed

-- On the connection nothing is told before the client has opened a stream. So with the first one its window rises from
-- 65,535 bytes, as it is at first (6.9.2).
abbrev pub connection_due : Session → ℕ
connection_due s = if length s.streams == 0 then 0 else due s.owed

-- on a stream nothing is told once the server has ended it (5.1)
abbrev pub stream_due : Stream → ℕ
stream_due t = if t.server_done then 0 else due t.owed
