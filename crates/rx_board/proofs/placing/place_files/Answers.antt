use Rattle.std.proofs.Common.{rules, take}
use Rattle.std.proofs.lemmas.List.{take_more}
use Rattle.rx_board.proofs.OnePublication.{places_all-more}
use Rattle.rx_board.proofs.placing.place_files.Goals as goal

pub loop-placed-preserved : goal.loop-placed-preserved
loop-placed-preserved g c =
    let contents = g.P.Place.contents in
    let more = take_more c.args.files.now c.loop-placed.placed c.index-files-placed.result c.loop-placed-test.true
    in record {
      placed = rw (more, ← c.index-files-placed.is)
          (places_all-more (contents c.args.place.now) (contents c.loop-placed.place) (contents c.place.new.self) (take c.loop-placed.placed c.args.files.now) c.index-files-placed.result
          c.loop-placed.invariant.placed (rw c.as_slice.ensures at c.in-Ok.ensures.placed));
      opening = search rules;
      later = search rules;
    }
