use Rattle.std.proofs.Common.{◌≡◌, take}
use Rattle.rx_hpack.specs.Header.{views}
use Rattle.rx_hpack.specs.Encoder.{block_bytes}
use Rattle.rx_hpack.proofs.encoder.write_block.Given as goal

abbrev pub invariant-loop-header : goal.invariant-loop-header
invariant-loop-header l = l.block.items ≡ block_bytes (views (take l.header-index l.headers))
