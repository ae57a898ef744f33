use Rattle.std.proofs.Common.{◌≡◌, refl, rules}
use Rattle.std.proofs.lemmas.List.{append-nil}
use Rattle.rx_grpc.specs.RetryInfo.{delay_fields, delay_from}
use Rattle.rx_codec.specs.Contents.{int32_in, int32_put, int64_in, int64_put}
use Rattle.rx_codec.proofs.ContentLaws.{contents-append, contents-numbered}
use Rattle.rx_grpc.proofs.retry_info.DelayMessage.write.Goals as goal

pub returns-clause-again : goal.returns-clause-again
unfolding delay_fields delay_from
returns-clause-again c = λ ok can.
    let x = c.args.self.now in
    let seconds_again : int64_in (int64_put x.seconds) ≡ x.seconds = search (rules, c.in_ok-int64.ensures.again) in
    let nanos_again : int32_in (int32_put x.nanos) ≡ x.nanos = search (rules, c.int32.ensures.again) in
    simp (contents-append, contents-numbered, append-nil) (rw (seconds_again, nanos_again) refl)
