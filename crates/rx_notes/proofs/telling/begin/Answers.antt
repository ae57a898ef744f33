use Rattle.std.proofs.Common.{ap}
use Rattle.rx_notes.proofs.Steps.{forks-taking}
use Rattle.rx_notes.proofs.telling.begin.Goals as goal

pub another-reader-requires-clause-rule : goal.another-reader-requires-clause-rule
another-reader-requires-clause-rule g c = forks-taking _ _ (ap (λ v. v.takes) c.requires.first)
