use Rattle.std.proofs.Common.{◌≡◌, length}
use Rattle.rx_hpack.specs.Header.{views}
use Rattle.rx_grpc.specs.Texts.{value_of}
use Rattle.rx_grpc.proofs.texts.value_of.Given as goal

abbrev pub invariant-loop-header : goal.invariant-loop-header
invariant-loop-header l = value_of l.name (views l.left) ≡ value_of l.name (views l.fn.list)

abbrev pub decreases-loop-header : goal.decreases-loop-header
decreases-loop-header l = length l.left
