-- PING (RFC 9113 6.7).
use Rattle.std.specs.Prelude.{◌+◌, Bool, ◌&&◌, not, ◌++◌, if◌then◌else◌, nat_lt}
use Rattle.rx_h2frame.specs.declared.kind.Kind.TheVariants.{Ping}
use Rattle.rx_h2frame.specs.Flags.{is_set}
use Rattle.rx_h2frame.specs.Frame.{Whole}
use Rattle.rx_h2frame.specs.Write.{Out, out_bytes}
use Rattle.rx_h2conn.specs.Session.{Session}
use Rattle.rx_h2conn.specs.Streams.{failed, is_interrupted}

-- no more acknowledgements may wait
abbrev pub is_flooded : Session → Bool
is_flooded s = not (nat_lt s.acks 1024)

-- an acknowledgement more
abbrev pub acknowledged : Session → Out → Session
acknowledged s out = record s { acks = s.acks + 1; queued = s.queued ++ out_bytes out }

abbrev pub ping_ack : Whole → Out
ping_ack f = record { kind = Ping; flags = 1; stream = 0; body = f.body }

unfoldable pub on_ping : Session → Whole → Session
on_ping s f =
    if not (is_set f.flags 1) && is_flooded s then failed s 11
    else if is_interrupted s then failed s 1
    else if is_set f.flags 1 then s
    else acknowledged s (ping_ack f)
