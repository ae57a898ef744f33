use Rattle.std.proofs.Common.{◌∙◌}
use Rattle.rx_results.proofs.AgreementLemmas.{agrees-unspoiled}
use Rattle.rx_results.proofs.ReadingLemmas.{spoiled-is}
use Rattle.rx_results.proofs.readings.Reading.spoiled.Goals as goal

pub returns-clause-first : goal.returns-clause-first
returns-clause-first c command given reading =
    rw c.as_slice.ensures at c.first_mismatch.ensures
    ∙ spoiled-is command given c.args.self.now reading

pub returns-clause-agreed : goal.returns-clause-agreed
returns-clause-agreed c blob command outcome given reading agrees =
    returns-clause-first c command given reading
    ∙ agrees-unspoiled blob command outcome given agrees
