use Rattle.rx_cppflags.proofs.Behind.{strips, lacks}
use Rattle.rx_cppflags.proofs.rows.behind.Goals as goal

pub returns-in-Some : goal.returns-in-Some
returns-in-Some c = strips _ _ _ c.in-Some.ensures.cases

pub returns-in-None : goal.returns-in-None
returns-in-None c = lacks _ _ c.in-None.ensures.cases
