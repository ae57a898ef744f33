use Rattle.rx_fakes.proofs.Reading.{left_after, left_ends}
use Rattle.rx_fakes.proofs.source.read_from.Goals as goal

pub returns-clause-left : goal.returns-clause-left
returns-clause-left c = left_after c.args.bytes.now c.copy_front.new.into c.args.at c.copy_front.result (rw c.split_at.ensures.back at c.copy_front.ensures.copied)

pub returns-clause-end : goal.returns-clause-end
returns-clause-end c = left_ends c.args.bytes.now c.args.into.now c.args.at c.args.most c.copy_front.result c.requires (rw (c.split_at.ensures.back, c.max.ensures) at c.copy_front.ensures.count)
