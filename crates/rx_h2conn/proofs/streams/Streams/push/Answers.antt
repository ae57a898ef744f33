use Rattle.rx_h2conn.proofs.DueLemmas.{due_pushed}
use Rattle.rx_h2conn.proofs.streams.Streams.push.Goals as goal

pub invariant_of-self-2 : goal.invariant_of-self-2
invariant_of-self-2 c = rw c.in_ok-push.ensures.items (due_pushed _ _ _ c.self.invariant)
