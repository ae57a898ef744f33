use Rattle.std.proofs.Common.{◌≤◌, sym, ◌∙◌, arith}
use Rattle.rx_h2conn.proofs.DueLemmas.{due_quiet, due_above, due_less}
use Rattle.rx_h2conn.proofs.streams.Streams.set.Goals as goal

pub invariant_of-self : goal.invariant_of-self
invariant_of-self c = due_quiet c.self.inside.first_due c.args.at c.self.inside.list.items c.args.stream (sym c.due.ensures.is ∙ c.if-due-eq0.true) c.self.invariant

pub invariant_of-self-2 : goal.invariant_of-self-2
invariant_of-self-2 c =
    let first = c.min-self-inside.result in
    let lower : first ≤ c.self.inside.first_due = omega (arith, c.min-self-inside.ensures) in
    let above : first ≤ c.args.at = omega (arith, c.min-self-inside.ensures) in
    due_above first c.args.at c.self.inside.list.items c.args.stream above (due_less first c.self.inside.first_due c.self.inside.list.items lower c.self.invariant)
