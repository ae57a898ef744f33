use Rattle.std.proofs.Common.{ap, sym}
use Rattle.rx_h2conn.specs.Session.{Reading}
use Rattle.rx_h2conn.specs.Reader.{reading_of}
use Rattle.rx_h2conn.proofs.KeptLemmas.{held_handed}
use Rattle.rx_h2conn.proofs.conn.Conn.next_event.Goals as goal

pub returns-clause-held : goal.returns-clause-held
returns-clause-held c =
    let after = ap (λ (r : Reading). r.state) c.next_event.ensures.after in
    rw (after, sym c.self.view_is) (held_handed (reading_of c.self.inside.reader).state)
