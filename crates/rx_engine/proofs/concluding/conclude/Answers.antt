use Rattle.rx_engine.proofs.ConcludeLemmas.{concluded-attempted, concluded-ended, concluded-lost, concluded-refused}
use Rattle.rx_engine.proofs.concluding.conclude.Goals as goal

pub returns-in-Lost-clause-concluded : goal.returns-in-Lost-clause-concluded
returns-in-Lost-clause-concluded g c =
    concluded-lost _ _ _ _ _ _ _ _ _ g.P.Place c.args.parts.now c.args.number c.args.pending c.lost.result c.args.board.now c.in-Lost.is c.lost.ensures

pub returns-in-ShutDown-clause-concluded : goal.returns-in-ShutDown-clause-concluded
returns-in-ShutDown-clause-concluded g c =
    let ended = c.end_run.ensures in
    concluded-ended _ _ _ _ _ _ _ _ _ g.P.Place c.args.parts.now c.args.number c.args.pending c.end_run.result c.end_run.new.output c.args.board.now
    c.in-ShutDown.frame c.in-ShutDown.is ended.finished ended.written ended.sink ended.later

pub returns-in-Refused-clause-concluded : goal.returns-in-Refused-clause-concluded
returns-in-Refused-clause-concluded g c =
    let done = c.finish.ensures in
    concluded-refused _ _ _ _ _ _ _ _ _ g.P.Place c.args.parts.now c.args.number c.args.pending c.finish.result
    c.finish.new.output c.args.board.now _ c.in-Refused.answered c.in-Refused.is c.none-tally.ensures
    done.finished done.written done.sink done.later

pub returns-in-Attempted-clause-concluded : goal.returns-in-Attempted-clause-concluded
returns-in-Attempted-clause-concluded g c =
    let handled = c.publish_or_fail-handled in
    let done = c.finish-in-Attempted.ensures in
    concluded-attempted _ _ _ _ _ _ _ _ _ g.P.Place c.args.parts.now c.args.number c.args.pending c.finish-in-Attempted.result
    c.finish-in-Attempted.new.output c.args.board.now handled.new.board c.in-Attempted.attempted handled.result.answered c.in-Attempted.is
    handled.ensures.answered (rw handled.ensures.tally at handled.ensures.journal)
    (rw handled.ensures.tally at done.finished) done.written done.sink done.later
