use Rattle.std.proofs.Common.{◌≡◌, refl, rules}
use Rattle.rx_exec_messages.specs.Capabilities.{cache_capabilities_fields, cache_capabilities_from}
use Rattle.rx_codec.specs.Contents.{int64_in, int64_put}
use Rattle.rx_codec.proofs.ContentLaws.{contents-numbered}
use Rattle.rx_exec_messages.proofs.capabilities.CacheCapabilitiesMessage.write.Goals as goal

pub returns-clause-again : goal.returns-clause-again
unfolding cache_capabilities_fields cache_capabilities_from
returns-clause-again c = λ ok can.
    let x = c.args.self.now in
    let max_batch_total_size_bytes_again :
    int64_in (int64_put x.max_batch_total_size_bytes) ≡ x.max_batch_total_size_bytes =
    search (rules, c.int64.ensures.again) in
    simp (contents-numbered) (rw (max_batch_total_size_bytes_again) refl)
