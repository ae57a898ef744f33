use Rattle.std.proofs.Common.{◌≤◌, ◌-◌, length, take}
use Rattle.std.specs.Io.KnownBytes.{Appends}
use Rattle.rx_note_lines.proofs.line_reporters.write_all.Given as goal

abbrev pub invariant-pieces : goal.invariant-pieces
invariant-pieces g l =
    let taken = g.K.Sink.taken in
    let faults = g.K.Sink.faults in
    record {
      told : Appends (taken l.fn.sink) (taken l.sink) (take l.sent l.bytes);
      later : faults l.fn.sink ≤ faults l.sink;
      bound : l.sent ≤ length l.bytes;
    }

abbrev pub decreases-pieces : goal.decreases-pieces
decreases-pieces g l = length l.bytes - l.sent
