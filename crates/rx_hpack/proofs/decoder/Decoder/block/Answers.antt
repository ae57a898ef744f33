use Rattle.std.proofs.Common.{arith}
use Rattle.rx_hpack.proofs.BlockLemmas.{found_by, reached_by}
use Rattle.rx_hpack.proofs.decoder.Decoder.block.Goals as goal

pub returns-clause-found : goal.returns-clause-found
returns-clause-found c = found_by c.args.self.now c.args.bytes.now c.read.result c.read.new.self (λ i. omega (arith, c.type_inv.bytes i)) c.read.ensures

pub returns-clause-only : goal.returns-clause-only
returns-clause-only c = λ old fields new is block. reached_by old new c.args.self.now c.args.bytes.now fields c.read.result c.read.new.self is block c.read.ensures
