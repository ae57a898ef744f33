use Rattle.rx_engine.proofs.AttemptLemmas.{named}
use Rattle.rx_engine.proofs.there.tree_of.Goals as goal

pub returns-in-Ok-clause-tree : goal.returns-in-Ok-clause-tree
returns-in-Ok-clause-tree c =
    let built = c.in-Ok.ensures in
    record {
      root_is = rw (c.as_slice.ensures, c.as_slice-2.ensures) at built.root;
      of_copies = rw (c.as_slice.ensures, c.as_slice-2.ensures) at built.world;
      directories_are = rw (c.as_slice.ensures, c.as_slice-2.ensures) at built.blobs;
      once = built.once;
    }

pub returns-in-Ok-clause-named : goal.returns-in-Ok-clause-named
returns-in-Ok-clause-named c = named c.args.gathered.now c.in-Ok.tree.root c.in-Ok.tree.blobs (returns-in-Ok-clause-tree c)
