use Rattle.std.proofs.Common.{◌∙◌, ap}
use Rattle.rx_race.specs.Looking.{Looked}
use Rattle.rx_engine.specs.Attempts.{whole_end}
use Rattle.rx_engine.proofs.FinisherLemmas.{here-offered, here-unstarted}
use Rattle.rx_engine.proofs.finishers.race_here.Goals as goal
use Rattle.rx_engine.proofs.finishers.race_here.Goals.{in-Err, in-Ok}

pub returns : goal.returns
returns g c =
    elim c.match-start.branch [
      | in-Ok w ↦ rw (w.runner-is, w.tree-is, w.ticket-is, w.in-Ok.is)
          (here-offered g.W.World g.B.BenchMaker g.B.B.Bench g.S.Sources g.K.Contest.plan c.args.job.now.gathered.now c.args.near.runner w.run_here-end.new.benches c.args.near.tree w.run_here-end.new.sources
          w.run_here-end.new.stop (whole_end w.run_here-end.result) _ w.offer.result.0
          (w.run_here-end.ensures.attempt ∙ ap (λ (x : Looked). x.attempt) w.new-looking.ensures ∙ (rw w.in-Ok.is at c.requires).1)
          w.run_here-end.ensures.ran w.offer.ensures.end w.offer.ensures.seat w.offer.ensures.fits)
      | in-Err w ↦ rw (w.runner-is, w.tree-is, w.ticket-is, w.in-Err.is)
          (here-unstarted g.W.World g.B.BenchMaker g.B.B.Bench g.S.Sources g.K.Contest.plan c.args.job.now.gathered.now _ c.args.near.runner c.args.near.tree _ (rw w.in-Err.is at c.requires))
    ]
