use Rattle.rx_h2conn.specs.Reader.{reading_of}
use Rattle.rx_h2conn.proofs.PieceLemmas.{conn_handed}
use Rattle.rx_h2conn.proofs.reader.Reader.next_event.Goals as goal

pub returns-clause-conn : goal.returns-clause-conn
returns-clause-conn c =
    rw (c.pop_event.ensures.lacking, c.pop_event.ensures.after) (conn_handed (reading_of c.args.self.now) c.args.self.now.lacking c.requires.conn)
