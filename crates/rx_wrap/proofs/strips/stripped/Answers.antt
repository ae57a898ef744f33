use Rattle.rx_wrap.proofs.FrontLemmas.{strips}
use Rattle.rx_wrap.proofs.strips.stripped.Goals as goal

pub returns : goal.returns
returns c = strips _ _ _ c.strip_prefix.ensures.cases
