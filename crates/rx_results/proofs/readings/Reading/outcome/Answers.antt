use Rattle.std.proofs.Common.{◌∙◌, rules, subst, sym, w32, SFits}
use Rattle.std.proofs.lemmas.Int.{to_z-of_z}
use Rattle.rx_world.specs.Outcomes.{IsClean, IsProper}
use Rattle.rx_results.specs.Outcomes.{IsWithinLimits}
use Rattle.rx_results.proofs.AgreementLemmas.{agrees-clean}
use Rattle.rx_results.proofs.LimitLemmas.{outcome-limits}
use Rattle.rx_results.proofs.OutcomeLemmas.{outcome-is, outcome-proper}
use Rattle.rx_results.proofs.readings.Reading.outcome.Goals as goal

pub returns-clause-is : goal.returns-clause-is
returns-clause-is c command given reading =
    let is = outcome-is command given c.args.self c.args.texts reading in
    let start = c.from_vec-texts.ensures.items ∙ c.into_vec.ensures in
    let fits : SFits w32 c.args.self.code = search rules in
    rw (
      to_z-of_z w32 c.args.self.code fits,
      c.fill-stdout.ensures.bytes,
      c.fill-stderr.ensures.bytes,
      c.in_ok-files.ensures,
      c.fill-stderr.ensures.rest,
      c.fill-stdout.ensures.rest,
      start,
    ) is

pub returns-clause-proper : goal.returns-clause-proper
returns-clause-proper c command given reading =
    subst (IsProper command) (sym (returns-clause-is c command given reading))
    (outcome-proper command given c.args.texts)

pub returns-clause-limits : goal.returns-clause-limits
returns-clause-limits c command given reading fetched =
    subst IsWithinLimits (sym (returns-clause-is c command given reading))
    (outcome-limits command given c.args.texts fetched)

pub returns-clause-clean : goal.returns-clause-clean
returns-clause-clean c blob tool tree command given reading honest =
    let is = returns-clause-is c command given reading in
    subst (IsClean tool command tree) (sym (rw honest.fetched at is))
    (agrees-clean tool command tree blob given honest.agrees)
