use Rattle.std.proofs.Common.{arith, rules}
use Rattle.rx_cppflags.proofs.LastSplit.{splits_at_last}
use Rattle.rx_cppflags.proofs.endings.directory_of.Goals as goal

pub returns-in-Some : goal.returns-in-Some
returns-in-Some c =
    let split = splits_at_last 47 c.args.text.now _ c.rsplit_once.ensures.cases (omega arith) in
    rw (← split) (grind rules)

pub returns-in-None : goal.returns-in-None
returns-in-None c =
    let split = splits_at_last 47 c.args.text.now _ c.rsplit_once.ensures.cases (omega arith) in
    rw (← split) (grind rules)
