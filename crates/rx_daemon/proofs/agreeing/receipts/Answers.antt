use Rattle.std.proofs.Common.{◌∙◌, arith}
use Rattle.rx_daemon.specs.Agreeing.{receipts_of}
use Rattle.rx_daemon.proofs.AgreeLemmas.{sum-told}
use Rattle.rx_daemon.proofs.SettleLemmas.{sum-more}
use Rattle.rx_daemon.proofs.agreeing.receipts.Goals as goal

pub loop-i-preserved : goal.loop-i-preserved
loop-i-preserved g c = record {
  sum =
      let more = sum-more (λ s. receipts_of s.transcript) c.args.served.now c.loop-i.i c.index-served-i.result c.loop-i-test.true in
      omega (arith, c.loop-i.invariant.sum, more, c.receipts_in-count.ensures.value);
  small = omega (arith, c.loop-i.invariant.small, c.receipts_in-count.ensures.bound);
}

pub returns : goal.returns
returns g c = c.loop-i.invariant.sum ∙ sum-told c.loop-i.i c.args.served.now c.loop-i-test.false
