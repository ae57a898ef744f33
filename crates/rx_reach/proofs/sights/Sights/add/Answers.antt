use Rattle.std.proofs.Common.{rules, sym, None}
use Rattle.rx_reach.specs.Sights.{answer_of}
use Rattle.rx_reach.proofs.SightLemmas.{notes-put-at}
use Rattle.rx_reach.proofs.TryLemmas.{kept-later}
use Rattle.rx_reach.proofs.sights.Sights.add.Goals as goal

pub invariant_of-self-in_err-insert : goal.invariant_of-self-in_err-insert
invariant_of-self-in_err-insert c = rw c.in_err-insert.ensures.err c.self.invariant

pub invariant_of-self-2 : goal.invariant_of-self-2
invariant_of-self-2 c =
    let noted = notes-put-at c.self.inside.looks c.insert.new.self (answer_of c.args.path.now c.args.look None) _ c.in_ok-try_clone.ensures (rw c.self.view_is c.requires) c.in_ok-insert.ensures.updates in
    (search rules, kept-later c.self.inside.looks.entries c.insert.new.self.entries _ c.self.inside.tries.by_dir noted.0 c.self.invariant.1)

pub returns-clause-added : goal.returns-clause-added
returns-clause-added c = λ bytes.
    rw (sym c.self.view_is)
    (notes-put-at c.self.inside.looks c.insert.new.self (answer_of c.args.path.now c.args.look bytes) _ c.in_ok-try_clone.ensures (rw c.self.view_is c.requires) c.in_ok-insert.ensures.updates).0
