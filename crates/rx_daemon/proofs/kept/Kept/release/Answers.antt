use Rattle.std.proofs.Common.{arith}
use Rattle.rx_daemon.proofs.KeptLemmas.{kept-fewer}
use Rattle.rx_daemon.proofs.kept.Kept.release.Goals as goal

pub invariant_of-self : goal.invariant_of-self
invariant_of-self g c =
    let was = c.self.invariant in
    let part = c.args.admission.one_part in (
      kept-fewer _ _ _ _ _ _ _ _ _ _ _ _ _ _ _ was.0,
      omega (arith, was.1),
      omega (arith, was.2, part, c.merge.ensures.parts, c.merge.ensures.apart),
      omega (arith, was.3, c.merge.ensures.amount, c.args.admission.nothing),
      was.4,
    )
