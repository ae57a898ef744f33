use Rattle.std.proofs.Common.{inl, inr, refl}
use Rattle.rx_engine.proofs.AttemptLemmas.{idle-there-none, there-held}
use Rattle.rx_engine.proofs.there.run_there.Goals as goal

pub returns-in_default-clause-ended : goal.returns-in_default-clause-ended
returns-in_default-clause-ended g c =
    inl (refl, c.requires.untold, idle-there-none g.W.World g.C.Caller g.S.Sources c.args.farm.now c.args.sources.now)

pub returns-clause-ended : goal.returns-clause-ended
returns-clause-ended g c =
    let ran = c.run_remote-end.ensures in
    inr (there-held g.W.World g.C.Caller g.S.Sources c.args.job.now.gathered.now c.args.job.now.accept_cached _ _ _ _ _ c.run_remote-end.result c.hold.result
    (record {
      root = c.in-Ok.tree.root;
      directories = c.in-Ok.tree.blobs;
      tree = c.in-Ok.ensures.tree;
      ended = rw c.as_slice.ensures at ran.ended;
      right = ran.right;
      sound = ran.sound;
      stays = ran.stays;
      own = rw c.as_slice.ensures at ran.own;
      stopped = rw c.requires.untold at ran.told;
      unchanged = rw c.as_slice.ensures at ran.unchanged;
    }) c.hold.ensures)
