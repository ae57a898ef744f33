use Rattle.std.specs.List.{All}
use Rattle.rx_hpack.specs.Encoder.{IsWritable}
use Rattle.h2_rows.proofs.headers.read_headers.Given as goal

abbrev pub invariant-loop : goal.invariant-loop
invariant-loop l = All IsWritable l.headers.items
