use Rattle.std.proofs.Common.{arith}
use Rattle.rx_codec.proofs.ContentLaws.{each_again_at}
use Rattle.rx_codec.proofs.writer.Writer.push_messages.Goals as goal

pub returns-clause-again : goal.returns-clause-again
returns-clause-again g c = λ ok can. each_again_at g.N.Message.fields g.N.Message.from g.N.Message.IsReadable c.args.values.now c.loop-value.value-index (omega arith) c.loop-value.invariant.again can
