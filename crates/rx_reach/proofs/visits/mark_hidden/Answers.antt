use Rattle.std.proofs.Common.{refl}
use Rattle.rx_reach.proofs.VisitLemmas.{marked-hidden, marked-open}
use Rattle.rx_reach.proofs.visits.mark_hidden.Goals as goal

pub returns-then-hidden-clause-ok : goal.returns-then-hidden-clause-ok
returns-then-hidden-clause-ok c = marked-hidden c.args.path.now c.args.hidden c.args.progress.now _ c.if-hidden.true refl refl refl c.in_ok-insert.ensures

pub returns-clause-ok : goal.returns-clause-ok
returns-clause-ok c = marked-open c.args.path.now c.args.hidden c.args.progress.now c.if-hidden.false
