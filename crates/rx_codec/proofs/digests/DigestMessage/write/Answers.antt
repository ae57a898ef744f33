use Rattle.rx_codec.proofs.DigestLaws.{digest_again}
use Rattle.rx_codec.proofs.digests.DigestMessage.write.Goals as goal

pub returns-clause-again : goal.returns-clause-again
returns-clause-again c = λ ok can. digest_again c.args.self.now c.in_ok-hash.ensures.len c.in_ok-hash.ensures.bytes can
