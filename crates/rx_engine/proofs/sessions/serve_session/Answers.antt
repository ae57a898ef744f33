use Rattle.rx_engine.proofs.HonestRuns.{clean-done}
use Rattle.rx_engine.proofs.Quiet.{complete}
use Rattle.rx_engine.proofs.sessions.serve_session.Goals as goal

pub returns-clause-session : goal.returns-clause-session
returns-clause-session g c =
    rw c.unite.ensures (c.conclude-transcript.ensures.concluded.own _ _ c.undertake_alone-pending.ensures)

pub returns-clause-journal : goal.returns-clause-journal
returns-clause-journal g c =
    c.conclude-transcript.ensures.concluded.journal _ _ c.undertake_alone-pending.ensures

pub returns-clause-clean : goal.returns-clause-clean
returns-clause-clean g c bytes asked entries honest =
    clean-done _ _ _ _ _ _ _ _ _ _ bytes asked entries (returns-clause-session g c) (returns-clause-journal g c) honest

pub returns-clause-complete : goal.returns-clause-complete
returns-clause-complete g c bytes asked quiet room =
    complete _ _ _ _ _ _ _ _ _ _ bytes asked (returns-clause-session g c) (returns-clause-journal g c) quiet room
