use Rattle.rx_grpc.proofs.StreamedLemmas.{IsJoining}
use Rattle.rx_grpc.proofs.blob_streams.join.Given as goal

abbrev pub invariant-loop : goal.invariant-loop
invariant-loop g l = IsJoining g.D.Dial.rule g.D.L.Link l.fn.channel l.channel l.text.items
