use Rattle.rx_h2conn.specs.State.{state_of}
use Rattle.rx_h2conn.proofs.ConnLemmas.{conn_taken}
use Rattle.rx_h2conn.proofs.reader.Reader.take_output.Goals as goal

pub returns-clause-conn : goal.returns-clause-conn
returns-clause-conn c = conn_taken (state_of c.args.self.now.machine) (state_of c.take_output.new.self) c.take_output.result c.args.self.now.rest.items c.args.self.now.lacking c.take_output.ensures.after c.take_output.ensures.err c.requires.conn
