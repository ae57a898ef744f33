use Rattle.std.proofs.Common.{refl, sym, ◌∙◌}
use Rattle.rx_reach.proofs.ProgressLemmas.{finds-known, finds-new, stays-found}
use Rattle.rx_reach.proofs.progress.Progress.find.Goals as goal

pub returns-then-contains-clause-finds : goal.returns-then-contains-clause-finds
returns-then-contains-clause-finds c = finds-known c.args.self.now c.args.path.now (c.contains.ensures.0 c.if-contains.true)

pub returns-clause-stays : goal.returns-clause-stays
returns-clause-stays c = stays-found c.args.self.now _ c.args.path.now c.in_ok-insert.ensures refl (λ h. absurd (cc (sym (c.contains.ensures.1 h) ∙ c.if-contains.false)))

pub returns-clause-finds : goal.returns-clause-finds
returns-clause-finds c = finds-new c.args.self.now _ c.args.path.now c.in_ok-insert.ensures refl refl refl
