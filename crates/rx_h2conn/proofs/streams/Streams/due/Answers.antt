use Rattle.std.proofs.Common.{sym}
use Rattle.rx_h2conn.proofs.DueLemmas.{due_few, due_credits}
use Rattle.rx_h2conn.proofs.streams.Streams.due.Goals as goal

pub split_at-requires : goal.split_at-requires
split_at-requires c = rw c.deref.ensures.value (due_few _ _ c.self.invariant)

pub returns-clause-same : goal.returns-clause-same
returns-clause-same c =
    rw (c.split_at.ensures.back, c.deref.ensures.value, sym c.self.view_is) (due_credits c.self.inside.first_due 1 c.self.inside.list.items c.self.invariant)
