use Rattle.std.proofs.Common.{List, ap, ℕ}
use Rattle.rx_world.specs.Links.{Wire}
use Rattle.rx_fakes.proofs.Reading.{taken_after}
use Rattle.rx_fakes.proofs.link.MemoryLinkLink.receive.Goals as goal

pub returns-clause-wire : goal.returns-clause-wire
returns-clause-wire c =
    ap (λ (received : List ℕ). record { sent = c.args.self.now.sent.items; received = received }) (taken_after c.args.self.now.bytes.items c.read_from-count.new.into c.args.self.now.at c.read_from-count.result (rw c.deref.ensures.value at c.read_from-count.ensures.copied))
