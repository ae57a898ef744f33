use Rattle.rx_action.proofs.PathsBehind.{both, first, neither}
use Rattle.rx_action.proofs.output_paths.path_behind.Goals as goal

pub returns-in-Some-strip_prefix : goal.returns-in-Some-strip_prefix
returns-in-Some-strip_prefix c =
    rw (← c.as_str.ensures.text, ← c.as_str-2.ensures.text) (both _ _ _ _ c.in-Some.ensures.cases c.in-Some-strip_prefix.ensures.cases)

pub returns-in-None-strip_prefix : goal.returns-in-None-strip_prefix
returns-in-None-strip_prefix c =
    rw (c.as_str-in-None-strip_prefix.ensures.text, ← c.as_str.ensures.text, ← c.as_str-2.ensures.text) (first _ _ _ c.in-Some.ensures.cases c.in-None-strip_prefix.ensures.cases)

pub returns-in-None : goal.returns-in-None
returns-in-None c = rw (c.as_str-in-None.ensures.text, ← c.as_str.ensures.text, ← c.as_str-2.ensures.text) (neither _ _ c.in-None.ensures.cases)
