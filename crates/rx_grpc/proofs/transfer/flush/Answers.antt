use Rattle.std.proofs.Common.{◌∙◌}
use Rattle.rx_grpc.proofs.MoveLemmas.{exchange_flushed, drained_flushed}
use Rattle.rx_grpc.proofs.transfer.flush.Goals as goal

pub returns-clause-exchange : goal.returns-clause-exchange
returns-clause-exchange g c =
    exchange_flushed _ _ _ _ c.deref.result.now (c.deref.ensures.value ∙ c.in_ok-output.ensures.ok) c.in_ok-output.ensures.after c.in_ok-output.ensures.rest c.in_ok-send_all.ensures.wire

pub returns-clause-drained : goal.returns-clause-drained
returns-clause-drained g c = λ none. drained_flushed c.args.conn.now.state c.take_output.new.self.state c.in_ok-output.ensures.after none
