-- The bytes of streams that the output holds (RFC 9113 6.1).
use Rattle.std.specs.Prelude.{ℕ, Bool, true, false, ◌&&◌, List, [], ◌∷◌, ◌++◌, length, take, if◌then◌else◌, ◌==◌, Option, None, Some}
use Rattle.std.specs.List.{filter}
use Rattle.rx_h2frame.specs.declared.kind.Kind.{Kind}
use Rattle.rx_h2frame.specs.declared.kind.Kind.TheVariants.{Data}
use Rattle.rx_h2frame.specs.Write.{Out}
use Rattle.rx_h2conn.specs.declared.fault.ConnFault.{ConnFault}
use Rattle.rx_h2conn.specs.Session.{Session, Reading}
use Rattle.rx_h2conn.specs.Output.{charged}
use Rattle.rx_h2conn.specs.History.{Call, Feeds, Starves, Hands, Takes, Opens, Sends, Resets, after}

abbrev pub is_data : Kind → Bool
is_data Data = true
is_data _ = false

-- what frames hold, one after another
abbrev pub payload : List Out → List ℕ
payload [] = []
payload (o ∷ os) = o.body ++ payload os

-- the bytes of one stream, and of all of them
abbrev pub bytes_on : ℕ → List Out → List ℕ
bytes_on id os = payload (filter (λ o. is_data o.kind && (o.stream == id)) os)

abbrev pub bytes_in : List Out → List ℕ
bytes_in os = payload (filter (λ o. is_data o.kind) os)

-- what `send` takes and writes: nothing once the server has reset the stream
abbrev pub written : Session → ℕ → List ℕ → List ℕ
written s id piece = take (charged s id (length piece)) piece

abbrev pub bytes_unless : Option ConnFault → List ℕ → List ℕ
bytes_unless None bytes = bytes
bytes_unless (Some e) bytes = []

-- what the calls of `send` wrote for a stream
abbrev pub written_by : Reading → ℕ → Call → List ℕ
written_by r id (Feeds piece) = []
written_by r id Starves = []
written_by r id Hands = []
written_by r id Takes = []
written_by r id (Opens fields last) = []
written_by r id (Sends i piece last) = if i == id then bytes_unless r.state.fault (written r.state i piece) else []
written_by r id (Resets i code) = []

abbrev pub all_written : Reading → ℕ → List Call → List ℕ
all_written r id [] = []
all_written r id (c ∷ cs) = written_by r id c ++ all_written (after r c) id cs
