-- The stream that rows may send on.
use Rattle.std.specs.Prelude.{Option, None, Some}
use Rattle.rx_h2conn.specs.Session.{Session}
use Rattle.rx_h2conn.specs.Streams.{IsHeld}
use Rattle.h2_rows.specs.declared.session.Held.{Held}

-- the connection holds this stream, where there is one
abbrev pub IsHeldBy : Session → Option Held → Type 0
IsHeldBy s None = Unit {0}
IsHeldBy s (Some held) = IsHeld s held.id held.ended
