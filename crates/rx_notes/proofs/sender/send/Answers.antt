use Rattle.std.proofs.Common.{ap, ◌∙◌}
use Rattle.rx_notes.proofs.Steps.{sends}
use Rattle.rx_notes.proofs.sender.send.Goals as goal

pub try_push_as-requires-clause-rule : goal.try_push_as-requires-clause-rule
try_push_as-requires-clause-rule g c = sends _ _ _ _ (ap (λ v. v.sends) c.loop.invariant.1 ∙ c.requires.may)
