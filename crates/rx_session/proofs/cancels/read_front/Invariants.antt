use Rattle.std.proofs.Common.{◌≤◌, ◌-◌, vec_len}
use Rattle.std.specs.Io.KnownBytes.{Consumes}
use Rattle.rx_session.specs.Cancels.{IsReadOn, cancel_length}
use Rattle.rx_session.proofs.cancels.read_front.Given as goal

abbrev pub invariant-bytes : goal.invariant-bytes
invariant-bytes g l =
    let left = g.S.Source.left in
    let faults = g.S.Source.faults in
    record {
      told : Consumes (left l.fn.source) (left l.source) l.read.items;
      later : faults l.fn.source ≤ faults l.source;
      most : vec_len l.read ≤ cancel_length;
      front : IsReadOn l.read.items;
    }

abbrev pub decreases-bytes : goal.decreases-bytes
decreases-bytes g l = cancel_length - vec_len l.read
