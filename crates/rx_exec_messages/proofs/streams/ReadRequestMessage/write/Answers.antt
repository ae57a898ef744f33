use Rattle.std.proofs.Common.{◌≡◌, refl, rules}
use Rattle.std.proofs.lemmas.List.{append-nil}
use Rattle.rx_exec_messages.specs.Streams.{read_request_fields, read_request_from}
use Rattle.rx_codec.specs.Contents.{int64_in, int64_put}
use Rattle.rx_codec.proofs.ContentLaws.{contents-append, contents-numbered, text_again}
use Rattle.rx_exec_messages.proofs.streams.ReadRequestMessage.write.Goals as goal

pub returns-clause-again : goal.returns-clause-again
unfolding read_request_fields read_request_from
returns-clause-again c = λ ok can.
    let x = c.args.self.now in
    let read_offset_again : int64_in (int64_put x.read_offset) ≡ x.read_offset =
    search (rules, c.in_ok-int64.ensures.again) in
    let read_limit_again : int64_in (int64_put x.read_limit) ≡ x.read_limit =
    search (rules, c.int64-2.ensures.again) in
    simp (contents-append, contents-numbered, append-nil) (
    rw (text_again x.resource_name, read_offset_again, read_limit_again) refl
    )
