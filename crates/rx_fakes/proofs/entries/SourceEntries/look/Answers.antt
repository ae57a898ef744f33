use Rattle.std.proofs.Common.{None, Some, ap, sym}
use Rattle.rx_fakes.proofs.Nodes.{entry_at-found}
use Rattle.rx_fakes.proofs.entries.SourceEntries.look.Goals as goal

pub returns-in-Some-clause-look : goal.returns-in-Some-clause-look
returns-in-Some-clause-look g c =
    rw (sym c.self.view_is) (ap (λ entry. entry.look) (entry_at-found c.args.path.now c.self.inside.nodes.entries (Some c.in-Some.node.now) c.in-Some.ensures.value))

pub returns-in-None-clause-look : goal.returns-in-None-clause-look
returns-in-None-clause-look g c =
    rw (sym c.self.view_is) (ap (λ entry. entry.look) (entry_at-found c.args.path.now c.self.inside.nodes.entries None c.in-None.ensures.value))
