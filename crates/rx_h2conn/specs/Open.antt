-- Streams that the client opens (RFC 9113 5.1.1, 8.1).
use Rattle.std.specs.Prelude.{ℕ, ◌+◌, ◌*◌, Bool, true, false, List, [], ◌∷◌, ◌++◌, length, nat_lt, Option, None, Some, Result}
use Rattle.rx_hpack.specs.Header.{Field}
use Rattle.rx_hpack.specs.Encoder.{block_bytes}
use Rattle.rx_h2frame.specs.declared.kind.Kind.TheVariants.{Headers, Continuation}
use Rattle.rx_h2frame.specs.Write.{Out}
use Rattle.rx_h2conn.specs.declared.fault.ConnFault.{ConnFault}
use Rattle.rx_h2conn.specs.declared.fault.ConnFault.TheVariants.{GoneAway, StreamsSpent}
use Rattle.rx_h2conn.specs.declared.settings.SizeUpdate.{SizeUpdate}
use Rattle.rx_h2conn.specs.declared.settings.SizeUpdate.TheVariants.{NotAsked, Due, Told}
use Rattle.rx_h2conn.specs.Session.{Session}
use Rattle.rx_h2conn.specs.Streams.{fresh}
use Rattle.rx_h2conn.specs.Emitted.{bytes_of}
use Rattle.rx_h2conn.specs.Output.{frames_of, end_stream, AnswersAt}

-- why no stream can be opened: the fault, that the server went away, or that the stream 2^31 - 1 was used
abbrev pub refused_by : Option ConnFault → Option ℕ → Bool → Option ConnFault
refused_by (Some fault) away has_room = Some fault
refused_by None (Some last) has_room = Some (GoneAway last)
refused_by None None false = Some StreamsSpent
refused_by None None true = None

abbrev pub refusal : Session → Option ConnFault
refusal s = refused_by s.fault s.gone (nat_lt (length s.streams) 1073741824)

-- An update to a table of no bytes stands before the first block after the server asked for a smaller one (RFC 7541 4.2).
abbrev pub update_prefix : SizeUpdate → List ℕ
update_prefix Due = 32 ∷ []
update_prefix NotAsked = []
update_prefix Told = []

abbrev pub told_update : SizeUpdate → SizeUpdate
told_update Due = Told
told_update NotAsked = NotAsked
told_update Told = Told

abbrev pub header_block : SizeUpdate → List Field → List ℕ
header_block update fields = update_prefix update ++ block_bytes fields

-- the next odd number
abbrev pub next_id : Session → ℕ
next_id s = length s.streams * 2 + 1

-- HEADERS, and CONTINUATION where the block is longer than a frame
abbrev pub header_frames : Session → List Field → Bool → List Out
header_frames s fields last = frames_of (length (header_block s.size_update fields) + 1) Headers Continuation (end_stream last) 4 (next_id s) (header_block s.size_update fields)

unfoldable pub opened : Session → List Field → Bool → Session
opened s fields last = record s {
  streams = s.streams ++ record fresh { client_done = last } ∷ [];
  size_update = told_update s.size_update;
  queued = s.queued ++ bytes_of (header_frames s fields last);
}

-- what `open_stream` leaves and answers: the number of the stream
abbrev pub Opens : Session → List Field → Bool → Session → Result ℕ ConnFault → Type 0
Opens old fields last new r = AnswersAt (refusal old) old (opened old fields last) (next_id old) new r
