use Rattle.std.proofs.Common.{refl}
use Rattle.std.proofs.lemmas.List.{append-nil}
use Rattle.rx_exec_messages.specs.Executions.{execute_request_fields, execute_request_from}
use Rattle.rx_codec.proofs.ContentLaws.{contents-append, contents-numbered, text_again, truth_again}
use Rattle.rx_exec_messages.proofs.executions.ExecuteRequestMessage.write.Goals as goal

pub returns-clause-again : goal.returns-clause-again
unfolding execute_request_fields execute_request_from
returns-clause-again c = λ ok can.
    let x = c.args.self.now in
    simp (contents-append, contents-numbered, append-nil) (
    rw (
      text_again x.instance_name,
      truth_again x.skip_cache_lookup,
      c.message.ensures.again ok can,
    ) refl
    )
