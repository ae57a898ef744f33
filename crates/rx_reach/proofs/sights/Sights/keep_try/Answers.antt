use Rattle.rx_reach.proofs.TryLemmas.{kept-put, kept-same}
use Rattle.rx_reach.proofs.sights.Sights.keep_try.Goals as goal

pub invariant_of-self : goal.invariant_of-self
invariant_of-self c = (c.self.invariant.0, kept-same c.self.inside.looks.entries c.self.inside.tries.by_dir c.keep.new.self.by_dir c.in_err-keep.ensures.same c.self.invariant.1)

pub invariant_of-self-2 : goal.invariant_of-self-2
invariant_of-self-2 c = (
  c.self.invariant.0,
  kept-put c.self.inside.looks.entries c.self.inside.tries.by_dir c.keep.new.self.by_dir (record { dir = c.args.dir.now; name = c.args.name.now }) c.args.tried c.in_ok-keep.ensures.put c.self.invariant.1 (rw c.self.view_is c.requires),
)
