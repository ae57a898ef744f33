use Rattle.rx_h2conn.proofs.FrameLemmas.{writing_goes_on, writing_ends}
use Rattle.rx_h2conn.proofs.output.write_frames.Goals as goal

pub loop-left-preserved : goal.loop-left-preserved
loop-left-preserved c = writing_goes_on c.args.out.now.items c.loop-left.out.items c.write_frame.new.out.items c.args.framing c.loop-left.kind c.loop-left.flags c.args.bytes.now c.loop-left.left.now c.split_at.result.0.now c.split_at.result.1.now c.loop-left.invariant c.loop-left-test.true c.split_at.ensures.front c.split_at.ensures.back c.in_ok-write_frame.ensures.ok

pub returns-clause-ok : goal.returns-clause-ok
returns-clause-ok c = writing_ends c.args.out.now.items c.loop-left.out.items c.write_frame-2.new.out.items c.args.framing c.loop-left.kind c.loop-left.flags c.args.bytes.now c.loop-left.left.now c.loop-left.invariant c.loop-left-test.false c.in_ok-write_frame-2.ensures.ok
