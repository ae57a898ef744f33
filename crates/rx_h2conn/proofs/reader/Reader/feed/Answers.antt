use Rattle.std.proofs.Common.{rules, ◌≡◌, None}
use Rattle.rx_h2conn.specs.Reader.{reading_of}
use Rattle.rx_h2conn.proofs.PieceLemmas.{conn_after}
use Rattle.rx_h2conn.proofs.reader.Reader.feed.Goals as goal

pub returns-in_default-take_piece-clause-conn : goal.returns-in_default-take_piece-clause-conn
returns-in_default-take_piece-clause-conn c =
    let none : c.args.self.now.machine.fault ≡ None = search rules in
    conn_after (reading_of c.args.self.now) (reading_of c.take_piece.new.self) c.args.self.now.lacking c.take_piece.new.self.lacking c.args.piece.now c.take_piece.result (search rules) (c.requires.conn.ready none) c.take_piece.ensures.reads c.take_piece.ensures.ready
