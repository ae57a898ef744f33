use Rattle.std.proofs.Common.{◌≡◌, ◌≤◌, take}
use Rattle.rx_board.specs.Placing.{PlacesAll}
use Rattle.rx_board.proofs.placing.place_files.Given as goal

abbrev pub invariant-loop-placed : goal.invariant-loop-placed
invariant-loop-placed g l =
    let contents = g.P.Place.contents in
    let opening = g.P.Place.opening in
    let faults = g.P.Place.faults in
    record {
      placed : PlacesAll (contents l.fn.place) (contents l.place) (take l.placed l.files);
      opening : opening l.place ≡ opening l.fn.place;
      later : faults l.fn.place ≤ faults l.place;
    }
