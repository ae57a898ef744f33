use Rattle.std.proofs.Common.{None, arith, refl}
use Rattle.rx_local.proofs.Ends.{ends-unbegun}
use Rattle.rx_local.proofs.HonestRuns.{listed-run, stamped-run, unchanged-run}
use Rattle.rx_local.proofs.local.run_local.Goals as goal

pub returns-in-Some-clause-attempted : goal.returns-in-Some-clause-attempted
returns-in-Some-clause-attempted g c = record {
  made = None;
  returned = refl;
  failed = tt;
  on = ends-unbegun _ _ _ _ _ _;
  later = omega arith;
  counted = tt;
  untouched = λ _ _. record { benches_are = refl; sources_are = refl };
}

pub returns-clause-stamped : goal.returns-clause-stamped
returns-clause-stamped g c = stamped-run _ _ _ _ _ _ _ _ c.run_on-result.ensures.ended

pub returns-clause-listed : goal.returns-clause-listed
returns-clause-listed g c = listed-run _ _ _ _ _ _ _ _ c.run_on-result.ensures.ended

pub returns-clause-unchanged : goal.returns-clause-unchanged
returns-clause-unchanged g c = unchanged-run _ _ _ _ _ _ _ _ c.run_on-result.ensures.ended
