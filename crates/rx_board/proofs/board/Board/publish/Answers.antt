use Rattle.std.proofs.Common.{rules}
use Rattle.rx_board.proofs.OnePublication.{kept-one_more}
use Rattle.rx_board.proofs.board.Board.publish.Goals as goal

pub invariant_of-self-then-placed-files : goal.invariant_of-self-then-placed-files
invariant_of-self-then-placed-files g c =
    let items = rw (c.unwrap.ensures, c.reserve.ensures.items) at c.push.ensures.items in
    let before = c.self.inside in
    let after = c.place_files-placed.new.place in
    rw (items, c.place_files-placed.ensures.opening)
    (kept-one_more (g.P.Place.opening before.place) (g.P.Place.contents before.place) (g.P.Place.contents after) (g.P.Place.faults before.place) (g.P.Place.faults after) before.journal.items before.limit _ c.args.files.now
    c.self.invariant c.place_files-placed.ensures.placed (search rules) (search rules) (search rules) (search rules) c.place_files-placed.ensures.later c.place_files-placed.ensures.failed)

pub invariant_of-self-3 : goal.invariant_of-self-3
invariant_of-self-3 g c =
    let items = rw (c.unwrap.ensures, c.reserve.ensures.items) at c.push.ensures.items in
    let before = c.self.inside in
    let after = c.place_files-placed.new.place in
    rw (items, c.place_files-placed.ensures.opening)
    (kept-one_more (g.P.Place.opening before.place) (g.P.Place.contents before.place) (g.P.Place.contents after) (g.P.Place.faults before.place) (g.P.Place.faults after) before.journal.items before.limit _ c.args.files.now
    c.self.invariant c.place_files-placed.ensures.placed (search rules) (search rules) (search rules) (search rules) c.place_files-placed.ensures.later c.place_files-placed.ensures.failed)
