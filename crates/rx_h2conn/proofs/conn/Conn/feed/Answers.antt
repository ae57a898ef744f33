use Rattle.std.proofs.Common.{sym}
use Rattle.rx_h2conn.specs.Reader.{reading_of}
use Rattle.rx_h2conn.proofs.KeptLemmas.{held_feeds}
use Rattle.rx_h2conn.proofs.conn.Conn.feed.Goals as goal

pub returns-clause-held : goal.returns-clause-held
returns-clause-held c = rw (sym c.self.view_is) (held_feeds c.self.inside.reader.machine.fault (reading_of c.self.inside.reader) (reading_of c.feed.new.self) c.args.piece.now c.feed.result c.feed.ensures.feeds)
