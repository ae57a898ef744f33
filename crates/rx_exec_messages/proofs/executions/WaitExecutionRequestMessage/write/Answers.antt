use Rattle.std.proofs.Common.{refl}
use Rattle.rx_exec_messages.specs.Executions.{wait_execution_request_fields}
use Rattle.rx_exec_messages.specs.Executions.{wait_execution_request_from}
use Rattle.rx_codec.proofs.ContentLaws.{contents-numbered, text_again}
use Rattle.rx_exec_messages.proofs.executions.WaitExecutionRequestMessage.write.Goals as goal

pub returns-clause-again : goal.returns-clause-again
unfolding wait_execution_request_fields wait_execution_request_from
returns-clause-again c = λ ok can.
    let x = c.args.self.now in
    simp (contents-numbered) (rw (text_again x.name) refl)
