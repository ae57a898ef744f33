use Rattle.std.proofs.Common.{rules}
use Rattle.rx_board.specs.Journal.{IsKeptBy}
use Rattle.rx_board.proofs.LastPlaced.{holds_last}
use Rattle.rx_board.proofs.board.Board.into_parts.Goals as goal

pub returns-clause-last : goal.returns-clause-last
returns-clause-last g c =
    let place = c.args.self.place in
    let kept : IsKeptBy (g.P.Place.opening place) (g.P.Place.contents place) c.args.self.journal = search rules in
    holds_last (g.P.Place.opening place) (g.P.Place.contents place) c.args.self.journal kept
