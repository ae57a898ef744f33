-- What holds of each connection: the credit that is told, owed or waiting makes the windows that the client gave.
use Rattle.std.specs.Prelude.{◌≤◌, ℕ, ◌+◌, ◌/◌, ◌==◌, if◌then◌else◌, slice_index_or, length, List, [], ◌∷◌}
use Rattle.rx_h2conn.specs.declared.stream.Stream.{Stream}
use Rattle.rx_h2conn.specs.Session.{Session, Queued}
use Rattle.rx_h2conn.specs.Streams.{fresh}

abbrev pub credits : List Queued → ℕ
credits [] = 0
credits (q ∷ qs) = q.credit + credits qs

-- the credit that waits for the stream 2k + 1
abbrev pub waiting : ℕ → List Queued → ℕ
waiting k [] = 0
waiting k (q ∷ qs) = (if (q.stream / 2) == k then q.credit else 0) + waiting k qs

-- The windows hold, where a stream that isn't there counts as this one.
pub record IsSoundBy (none : Stream) (s : Session) : Type 0 where
  -- what the server may still send, what is owed to it and what waits
  pub connection : s.receive + s.owed + credits s.events ≤ 16777216
  pub stream : (k : ℕ) → (slice_index_or s.streams k none).receive + (slice_index_or s.streams k none).owed + waiting k s.events ≤ 16777216
  pub count : length s.streams ≤ 1073741824

abbrev pub IsSound : Session → Type 0
IsSound s = IsSoundBy fresh s

-- a stream on which the server may send nothing more, and is owed nothing
abbrev pub used : Stream
used = record fresh { receive = 0; owed = 0 }

-- the same where want of memory broke the connection, so that its streams are forgotten
abbrev pub IsWithin : Session → Type 0
IsWithin s = IsSoundBy used s
