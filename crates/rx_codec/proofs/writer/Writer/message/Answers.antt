use Rattle.rx_codec.proofs.ContentLaws.{none_again}
use Rattle.rx_codec.proofs.writer.Writer.message.Goals as goal

pub returns-in-None-clause-again : goal.returns-in-None-clause-again
returns-in-None-clause-again g c = λ ok can. rw c.in-None.is (none_again _ _)
