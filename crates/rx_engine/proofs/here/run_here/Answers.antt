use Rattle.rx_engine.proofs.AttemptLemmas.{run-held}
use Rattle.rx_engine.proofs.here.run_here.Goals as goal

pub returns-clause-ran : goal.returns-clause-ran
returns-clause-ran g c =
    let ran = c.run_local-ended.ensures in
    run-held _ _ _ _ c.args.job.now.gathered.now _ _ _ _ _ c.run_local-ended.result c.hold.result
    (rw (c.as_slice.ensures, c.as_slice-2.ensures) at ran.attempted) ran.proper ran.within (rw c.requires at ran.told) (rw c.end_of.ensures at c.hold.ensures)
