use Rattle.std.proofs.Common.{refl}
use Rattle.rx_reach.proofs.ProgressLemmas.{takes-found, takes-nothing, takes-other, takes-outside}
use Rattle.rx_reach.proofs.progress.Progress.take.Goals as goal

pub returns-in-Nothing-clause-takes : goal.returns-in-Nothing-clause-takes
returns-in-Nothing-clause-takes c = takes-nothing c.args.blamed.now c.args.tried.now c.args.self.now _ c.in-Nothing.is refl refl refl (rw c.as_slice.ensures at c.in_ok-insert_all.ensures.ok)

pub returns-in_ok-insert-in-Outside-clause-takes : goal.returns-in_ok-insert-in-Outside-clause-takes
returns-in_ok-insert-in-Outside-clause-takes c =
    takes-outside c.args.blamed.now c.args.tried.now c.args.self.now _ c.in-Outside.is refl refl c.in_ok-insert-in-Outside.ensures (rw c.as_slice.ensures at c.in_ok-insert_all.ensures.ok)

pub returns-in_ok-insert-in-Other-clause-takes : goal.returns-in_ok-insert-in-Other-clause-takes
returns-in_ok-insert-in-Other-clause-takes c =
    takes-other c.args.blamed.now c.args.tried.now c.args.self.now _ c.in-Other.path c.in-Other.is refl refl c.in_ok-insert-in-Other.ensures (rw c.as_slice.ensures at c.in_ok-insert_all.ensures.ok)

pub returns-in-Found-clause-takes : goal.returns-in-Found-clause-takes
returns-in-Found-clause-takes c =
    takes-found c.args.blamed.now c.args.tried.now c.args.self.now _ _ c.in-Found.path c.find.result c.in-Found.is refl refl refl c.find.ensures.finds (rw c.as_slice.ensures at c.in_ok-insert_all.ensures.ok)
