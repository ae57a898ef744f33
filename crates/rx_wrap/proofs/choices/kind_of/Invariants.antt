use Rattle.std.proofs.Common.{◌≡◌, drop}
use Rattle.rx_wrap.specs.Choices.{kind_of, with_labels}
use Rattle.rx_wrap.proofs.choices.kind_of.Given as goal

abbrev pub invariant-loop-label : goal.invariant-loop-label
invariant-loop-label l = with_labels l.kind (drop l.label-index l.labels) ≡ kind_of l.labels
