use Rattle.std.proofs.Common.{sym}
use Rattle.std.proofs.lemmas.Result.{err_from_is_err_and}
use Rattle.rx_session.proofs.FaultReading.{is_refused, reading_ends}
use Rattle.rx_session.proofs.call_faults.read_faults.Goals as goal

pub returns-in_err-fault : goal.returns-in_err-fault
returns-in_err-fault c =
    let p = err_from_is_err_and c.from_residual.result c.from_residual.ensures.1 in
    let refused = is_refused c.args.packed.now c.numbers.at c.numbers.faults _ c.numbers.invariant c.numbers-test.true (sym c.in_err-fault.ensures.fault) in
    rw (p.1, p.2) (λ other. refused)

pub returns : goal.returns
returns c = reading_ends c.args.packed.now c.numbers.at c.numbers.faults c.numbers.invariant c.numbers-test.false
