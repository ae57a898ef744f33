use Rattle.std.proofs.Common.{◌≡◌, ◌++◌, drop}
use Rattle.rx_cppflags.proofs.made.with_texts.Given as goal

abbrev pub invariant-loop-text : goal.invariant-loop-text
invariant-loop-text l = l.made ++ drop l.text-index l.texts ≡ l.fn.made ++ l.texts
