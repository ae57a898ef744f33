use Rattle.rx_h2conn.specs.State.{state_of}
use Rattle.rx_h2conn.specs.Output.{reset}
use Rattle.rx_h2conn.proofs.ConnLemmas.{conn_answered, sound_given_up, reset-fault, small_id}
use Rattle.rx_h2conn.proofs.reader.Reader.reset.Goals as goal

pub reset-requires-clause-id : goal.reset-requires-clause-id
reset-requires-clause-id c = λ none. small_id (state_of c.args.self.now.machine) c.args.id (c.requires.opened none) c.requires.conn.within.count

pub returns-clause-conn : goal.returns-clause-conn
returns-clause-conn c =
    let s = state_of c.args.self.now.machine in
    conn_answered s.fault s (reset s c.args.id c.args.code) (state_of c.reset.new.self) tt c.reset.result c.args.self.now.rest.items c.args.self.now.lacking c.reset.ensures (λ none. none) (λ none. sound_given_up s c.args.id c.args.code (c.requires.opened none)) (reset-fault s c.args.id c.args.code) c.requires.conn
