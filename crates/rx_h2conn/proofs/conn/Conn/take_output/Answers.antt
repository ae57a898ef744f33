use Rattle.std.proofs.Common.{sym}
use Rattle.rx_h2conn.specs.State.{state_of}
use Rattle.rx_h2conn.proofs.KeptLemmas.{held_taken}
use Rattle.rx_h2conn.proofs.conn.Conn.take_output.Goals as goal

pub returns-clause-held : goal.returns-clause-held
returns-clause-held c = rw (sym c.self.view_is) (held_taken (state_of c.self.inside.reader.machine) (state_of c.take_output.new.self.machine) c.take_output.result c.take_output.ensures.after c.take_output.ensures.err)
