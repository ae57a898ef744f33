use Rattle.std.proofs.Common.{refl}
use Rattle.rx_grpc.specs.RetryInfo.{retry_info_fields, retry_info_from}
use Rattle.rx_codec.proofs.ContentLaws.{contents-numbered, some_unit}
use Rattle.rx_grpc.proofs.retry_info.RetryInfoMessage.write.Goals as goal

pub returns-clause-again : goal.returns-clause-again
unfolding retry_info_fields retry_info_from
returns-clause-again c = λ ok can.
    let x = c.args.self.now in
    simp (contents-numbered) (rw (c.message.ensures.again ok (some_unit x.retry_delay)) refl)
