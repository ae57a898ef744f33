use Rattle.std.proofs.Common.{◌∙◌, ap}
use Rattle.rx_race.specs.Looking.{Looked}
use Rattle.rx_engine.specs.Attempts.{whole_end}
use Rattle.rx_engine.proofs.FinisherLemmas.{there-offered, there-unstarted}
use Rattle.rx_engine.proofs.finishers.race_there.Goals as goal
use Rattle.rx_engine.proofs.finishers.race_there.Goals.{in-Err, in-Ok}

pub returns : goal.returns
returns g c =
    elim c.match-start.branch [
      | in-Ok w ↦ rw (w.runner-is, w.tree-is, w.ticket-is, w.in-Ok.is)
          (there-offered g.W.World g.C.Caller g.S.Sources g.K.Contest.plan c.args.job.now.gathered.now c.args.job.now.accept_cached c.args.far.runner w.run_there-end.new.farm c.args.far.tree w.run_there-end.new.sources
          w.run_there-end.new.stop (whole_end w.run_there-end.result) _ w.offer.result.0
          (w.run_there-end.ensures.attempt ∙ ap (λ (x : Looked). x.attempt) w.new-looking.ensures ∙ (rw w.in-Ok.is at c.requires.start).1)
          w.run_there-end.ensures.ended w.offer.ensures.end w.offer.ensures.seat w.offer.ensures.fits)
      | in-Err w ↦ rw (w.runner-is, w.tree-is, w.ticket-is, w.in-Err.is)
          (there-unstarted g.W.World g.C.Caller g.S.Sources g.K.Contest.plan c.args.job.now.gathered.now c.args.job.now.accept_cached _ c.args.far.runner c.args.far.tree _ (rw w.in-Err.is at c.requires.start))
    ]
