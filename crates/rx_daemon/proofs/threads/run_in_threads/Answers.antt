use Rattle.rx_engine.specs.Meanings.{meanings}
use Rattle.rx_daemon.proofs.ServeLemmas.{if-anyway, no-core-below, no-run-below}
use Rattle.rx_daemon.proofs.threads.run_in_threads.Goals as goal

pub returns-in_default-all_rights-clause-sessions : goal.returns-in_default-all_rights-clause-sessions
returns-in_default-all_rights-clause-sessions g c =
    let nothing = c.nothing_done-in_default-all_rights.ensures in
    rw (nothing.front, nothing.place) (no-run-below _ _ _ _ _ _ _ _ _ _ _ nothing.journal c.requires.quiet nothing.served)

pub returns-in_default-all_rights-clause-core : goal.returns-in_default-all_rights-clause-core
returns-in_default-all_rights-clause-core g c = λ files.
    let nothing = c.nothing_done-in_default-all_rights.ensures in no-core-below
    (meanings g.W.World g.F.D.I.Source g.F.D.O.Sink g.F.D.T.Sources g.F.D.L.Sources g.F.D.B.BenchMaker g.F.D.B.B.Bench g.F.D.R.Sources g.F.D.C.Caller)
    _ _ files _ _ nothing.journal nothing.served

pub returns-clause-core : goal.returns-clause-core
returns-clause-core g c = λ files. if-anyway _ (c.serve_front.ensures.core files)
