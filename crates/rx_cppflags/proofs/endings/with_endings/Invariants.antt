use Rattle.std.proofs.Common.{◌≡◌, ◌++◌, drop, map}
use Rattle.rx_cppflags.specs.Endings.{with_ending}
use Rattle.rx_cppflags.proofs.endings.with_endings.Given as goal

abbrev pub invariant-loop-text : goal.invariant-loop-text
invariant-loop-text l = l.ended ++ map (with_ending l.ending) (drop l.text-index l.texts) ≡ l.fn.ended ++ map (with_ending l.ending) l.texts
