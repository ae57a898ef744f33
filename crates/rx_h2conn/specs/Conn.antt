-- A connection as it starts.
use Rattle.std.specs.Prelude.{ℕ, List, [], ◌∷◌, ◌++◌, None}
use Rattle.rx_h2frame.specs.declared.kind.Kind.TheVariants.{Settings}
use Rattle.rx_h2frame.specs.Write.{Out, out_bytes}
use Rattle.rx_h2conn.specs.declared.settings.SizeUpdate.TheVariants.{NotAsked}
use Rattle.rx_h2conn.specs.Session.{Reading}
use Rattle.rx_h2conn.specs.Steps.{blank_decoder}

-- PRI * HTTP/2.0, two line ends, SM, two line ends (RFC 9113 3.4)
abbrev pub preface : List ℕ
preface = 80 ∷ 82 ∷ 73 ∷ 32 ∷ 42 ∷ 32 ∷ 72 ∷ 84 ∷ 84 ∷ 80 ∷ 47 ∷ 50 ∷ 46 ∷ 48 ∷ 13 ∷ 10 ∷ 13 ∷ 10 ∷ 83 ∷ 77 ∷ 13 ∷ 10 ∷ 13 ∷ 10 ∷ []

-- no push, 1,048,576 bytes for each stream, and header lists of 65,536 bytes (6.5.2)
abbrev pub first_settings : Out
first_settings = record { kind = Settings; flags = 0; stream = 0; body = 0 ∷ 2 ∷ 0 ∷ 0 ∷ 0 ∷ 0 ∷ 0 ∷ 4 ∷ 0 ∷ 16 ∷ 0 ∷ 0 ∷ 0 ∷ 6 ∷ 0 ∷ 1 ∷ 0 ∷ 0 ∷ [] }

-- The server may send 65,535 bytes on the connection (6.9.2), and is owed what makes 16,777,216.
abbrev pub started : Reading
started = record {
  state = record { fault = None; streams = []; send = 65535; initial = 65535; receive = 65535; owed = 16711681; acks = 0; gone = None; size_update = NotAsked; decoder = blank_decoder; sequence = None; events = []; queued = preface ++ out_bytes first_settings };
  rest = [];
}
