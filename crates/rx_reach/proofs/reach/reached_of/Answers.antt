use Rattle.rx_reach.proofs.EndLemmas.{first-least}
use Rattle.rx_reach.proofs.reach.reached_of.Goals as goal

pub returns-clause-hard : goal.returns-clause-hard
returns-clause-hard c = first-least c.args.progress.hard c.pop_first.new.self c.pop_first.result c.pop_first.ensures.sorted c.pop_first.ensures.taken
