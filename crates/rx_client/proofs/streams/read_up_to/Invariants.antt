use Rattle.std.proofs.Common.{◌≤◌, ◌-◌, vec_len}
use Rattle.std.specs.Prelude.{max}
use Rattle.rx_session.specs.Streams.{ReadsOn}
use Rattle.rx_client.proofs.streams.read_up_to.Given as goal

abbrev pub invariant-pieces : goal.invariant-pieces
invariant-pieces g l =
    let left = g.S.Source.left in
    let faults = g.S.Source.faults in
    record {
      told : ReadsOn (left l.fn.source) (left l.source) l.fn.read.items l.read.items;
      later : faults l.fn.source ≤ faults l.source;
      most : vec_len l.read ≤ max (vec_len l.fn.read) l.want;
    }

abbrev pub decreases-pieces : goal.decreases-pieces
decreases-pieces g l = l.want - vec_len l.read
