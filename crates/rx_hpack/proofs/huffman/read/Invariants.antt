use Rattle.std.proofs.Common.{drop}
use Rattle.rx_hpack.proofs.HuffmanLoop.{SoFar}
use Rattle.rx_hpack.proofs.huffman.read.Given as goal

abbrev pub invariant-loop-byte : goal.invariant-loop-byte
invariant-loop-byte l = SoFar l.coded l.text.items l.state (drop l.byte-index l.coded)
