use Rattle.std.proofs.Common.{ap, arith}
use Rattle.std.specs.declared.sync.ledger.Blank.{Blank}
use Rattle.rx_daemon.proofs.RightLemmas.{same-right}
use Rattle.rx_daemon.proofs.rights.clash.Goals as goal

pub clash_of-requires-clause-other : goal.clash_of-requires-clause-other
clash_of-requires-clause-other g c =
    let same = same-right _ _ _ _ c.requires.other c.requires.one in (ap (λ (b : Blank). b.name) same, ap (λ (b : Blank). b.parts) same)

pub clash_of-requires-clause-some : goal.clash_of-requires-clause-some
clash_of-requires-clause-some g c = let part = c.requires.one.one_part in omega (arith, part)
