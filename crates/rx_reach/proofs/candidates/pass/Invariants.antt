use Rattle.std.proofs.Common.{◌≡◌, ◌++◌, length, drop}
use Rattle.rx_base.specs.Paths.{IsPath, parts, with_parts, with_text}
use Rattle.rx_reach.specs.Candidates.{AreShort, names_of, steps}
use Rattle.rx_reach.proofs.candidates.pass.Given as goal

abbrev pub invariant-loop-part : goal.invariant-loop-part
invariant-loop-part l = record {
  path : IsPath l.walk.at;
  short : AreShort l.walk.steps.items;
  steps_are : l.walk.steps.items ++ steps (names_of l.walk.at) (drop (length l.yielded) (parts l.text)) ≡ l.fn.walk.steps.items ++ steps (names_of l.fn.walk.at) (parts l.text);
  names_are : with_parts (names_of l.walk.at) (drop (length l.yielded) (parts l.text)) ≡ with_text (names_of l.fn.walk.at) l.text;
}
