use Rattle.std.proofs.Common.{◌≡◌, refl, rules}
use Rattle.rx_exec_messages.specs.Streams.{write_response_fields, write_response_from}
use Rattle.rx_codec.specs.Contents.{int64_in, int64_put}
use Rattle.rx_codec.proofs.ContentLaws.{contents-numbered}
use Rattle.rx_exec_messages.proofs.streams.WriteResponseMessage.write.Goals as goal

pub returns-clause-again : goal.returns-clause-again
unfolding write_response_fields write_response_from
returns-clause-again c = λ ok can.
    let x = c.args.self.now in
    let committed_size_again : int64_in (int64_put x.committed_size) ≡ x.committed_size =
    search (rules, c.int64.ensures.again) in
    simp (contents-numbered) (rw (committed_size_again) refl)
