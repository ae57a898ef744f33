use Rattle.rx_exec_messages.proofs.ScriptLemmas.{script-stays}
use Rattle.rx_exec_messages.proofs.script.ScriptCaller.next_operation.Goals as goal

pub returns-clause-stays : goal.returns-clause-stays
returns-clause-stays g c =
    script-stays g.W.World.blob g.W.World.operation c.args.self.now c.tell.new.self c.next_operation-answer.new.self
    c.next_operation-answer.ensures.stays c.tell.ensures.state
