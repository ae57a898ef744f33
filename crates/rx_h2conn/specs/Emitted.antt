-- The frames that bytes from the server add to the output: acknowledgements alone.
use Rattle.std.specs.Prelude.{ℕ, Bool, true, false, ◌||◌, List, [], ◌∷◌, ◌++◌, if◌then◌else◌, Option, None, Some, Result, Ok, Err}
use Rattle.rx_h2frame.specs.declared.frame.FrameFault.{FrameFault}
use Rattle.rx_h2frame.specs.declared.kind.Kind.{Kind}
use Rattle.rx_h2frame.specs.declared.kind.Kind.TheVariants.{Settings, Ping}
use Rattle.rx_h2frame.specs.Flags.{is_set}
use Rattle.rx_h2frame.specs.Frame.{Whole, Seen, Complete, Lacks, next}
use Rattle.rx_h2frame.specs.Write.{Out, out_bytes}
use Rattle.rx_h2conn.specs.declared.fault.ConnFault.{ConnFault}
use Rattle.rx_h2conn.specs.Session.{Session, Reading}
use Rattle.rx_h2conn.specs.Ping.{ping_ack}
use Rattle.rx_h2conn.specs.Settings.{settings_ack}
use Rattle.rx_h2conn.specs.Steps.{took, more, byte}

abbrev pub bytes_of : List Out → List ℕ
bytes_of [] = []
bytes_of (o ∷ os) = out_bytes o ++ bytes_of os

abbrev pub has_fault : Option ConnFault → Bool
has_fault None = false
has_fault (Some e) = true

-- SETTINGS and PING are acknowledged (RFC 9113 6.5.3, 6.7)
abbrev pub ack_outs : Kind → Whole → List Out
ack_outs Settings f = settings_ack ∷ []
ack_outs Ping f = ping_ack f ∷ []
ack_outs _ f = []

-- unless they break a rule or are acknowledgements themselves
abbrev pub took_outs : Session → Whole → List Out
took_outs s f = if has_fault (took s f).fault || is_set f.flags 1 then [] else ack_outs f.kind f

abbrev pub judged_outs : Reading → Result Seen FrameFault → List Out
judged_outs r (Err e) = []
judged_outs r (Ok (Lacks n)) = []
judged_outs r (Ok (Complete f)) = took_outs r.state f

unfoldable pub settled_outs : Reading → List Out
settled_outs r = judged_outs r (next 16384 r.rest)

abbrev pub outs_unless : Option ConnFault → List Out → List Out
outs_unless None outs = outs
outs_unless (Some e) outs = []

unfoldable pub byte_outs : Reading → ℕ → List Out
byte_outs r b = outs_unless r.state.fault (settled_outs (more r (b ∷ [])))

abbrev pub fed_outs : Reading → List ℕ → List Out
fed_outs r [] = []
fed_outs r (b ∷ bytes) = byte_outs r b ++ fed_outs (byte r b) bytes
