use Rattle.rx_exec_messages.proofs.ScriptLemmas.{script-stays}
use Rattle.rx_exec_messages.proofs.script.ScriptCaller.wait.Goals as goal

pub returns-clause-stays : goal.returns-clause-stays
returns-clause-stays g c =
    script-stays g.W.World.blob g.W.World.operation c.args.self.now c.tell.new.self c.wait-answer.new.self
    c.wait-answer.ensures.stays c.tell.ensures.state
