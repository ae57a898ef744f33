use Rattle.std.proofs.Common.{◌≡◌, ◌+◌, ◌*◌, ◌++◌, drop, List, ℕ}
use Rattle.rx_h2conn.specs.Emitted.{bytes_of}
use Rattle.rx_h2conn.specs.Output.{stream_credits}
use Rattle.rx_h2conn.proofs.output.write_credits.Given as goal

abbrev pub invariant-loop-stream : goal.invariant-loop-stream
invariant-loop-stream l = record {
  id : l.id ≡ (l.before + l.stream-index) * 2 + 1;
  whole : l.out.items ++ bytes_of (stream_credits l.id (drop l.stream-index l.streams)) ≡ l.fn.out.items ++ bytes_of (stream_credits (l.before * 2 + 1) l.streams);
  front : (more : List ℕ) × (l.out.items ≡ l.fn.out.items ++ more);
}
