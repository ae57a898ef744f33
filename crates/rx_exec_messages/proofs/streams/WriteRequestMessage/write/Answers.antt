use Rattle.std.proofs.Common.{◌≡◌, refl, rules}
use Rattle.std.proofs.lemmas.List.{append-nil}
use Rattle.rx_exec_messages.specs.Streams.{write_request_fields, write_request_from}
use Rattle.rx_codec.specs.Contents.{int64_in, int64_put}
use Rattle.rx_codec.proofs.ContentLaws.{contents-append, contents-numbered, text_again, truth_again}
use Rattle.rx_exec_messages.proofs.streams.WriteRequestMessage.write.Goals as goal

pub returns-clause-again : goal.returns-clause-again
unfolding write_request_fields write_request_from
returns-clause-again c = λ ok can.
    let x = c.args.self.now in
    let write_offset_again : int64_in (int64_put x.write_offset) ≡ x.write_offset =
    search (rules, c.in_ok-int64.ensures.again) in
    simp (contents-append, contents-numbered, append-nil) (
    rw (
      text_again x.resource_name,
      write_offset_again,
      truth_again x.finish_write,
      text_again x.body,
    ) refl
    )
