use Rattle.rx_hpack.proofs.WriteLemmas.{starts, goes_on, ends}
use Rattle.rx_hpack.proofs.integer.write_groups.Goals as goal

pub loop-number-init : goal.loop-number-init
loop-number-init c = starts c.args.out.now.items c.args.number c.ranges.number.fits

pub loop-number-preserved : goal.loop-number-preserved
loop-number-preserved c = goes_on c.args.out.now.items c.args.number c.loop-number.out.items c.push.new.self.items c.loop-number.number c.loop-number-test.true c.in_ok-push.ensures.items c.loop-number.invariant

pub returns : goal.returns
returns c = ends c.args.out.now.items c.args.number c.loop-number.out.items c.push-2.new.self.items c.loop-number.number c.loop-number-test.false c.in_ok-push-2.ensures.items c.loop-number.invariant
