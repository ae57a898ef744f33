use Rattle.std.proofs.Common.{arith, rules}
use Rattle.rx_cppflags.proofs.LastSplit.{splits_at_last}
use Rattle.rx_cppflags.proofs.endings.without_ending.Goals as goal

pub returns-in-Some : goal.returns-in-Some
returns-in-Some c =
    let split = splits_at_last 46 c.args.text.now _ c.rsplit_once.ensures.cases (omega arith) in
    rw (← split) (grind rules)

pub returns-in_default : goal.returns-in_default
returns-in_default c =
    let split = splits_at_last 46 c.args.text.now _ c.rsplit_once.ensures.cases (omega arith) in
    rw (← split) (grind rules)

pub returns-in_default-2 : goal.returns-in_default-2
returns-in_default-2 c =
    let split = splits_at_last 46 c.args.text.now _ c.rsplit_once.ensures.cases (omega arith) in
    rw (← split) (grind rules)
