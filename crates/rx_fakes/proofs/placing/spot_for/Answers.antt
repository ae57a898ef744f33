use Rattle.std.proofs.Common.{◌≡◌, Equal, get_or, nat_cmp, sym, ◌∙◌}
use Rattle.std.specs.Cmp.Lexicographic.{slice_cmp}
use Rattle.rx_fakes.proofs.Spots.{placed_by-set}
use Rattle.rx_fakes.proofs.placing.spot_for.Goals as goal

pub returns-in-Equal-clause-spot : goal.returns-in-Equal-clause-spot
returns-in-Equal-clause-spot g c =
    let path_of = g.T.HasPath.path_of in
    let items = c.args.items.now in
    let held = c.index-items-at.result in
    let same : slice_cmp nat_cmp (path_of c.args.item.now) (path_of (get_or items c.loop-at.at held)) ≡ Equal =
    rw (← c.index-items-at.is, ← c.path.ensures, ← c.path-in-loop-at.ensures) (sym c.cmp.ensures ∙ c.in-Equal.is)
    in c.loop-at.invariant ∙ placed_by-set path_of items c.args.item.now held c.loop-at.at c.loop-at-test.true same
