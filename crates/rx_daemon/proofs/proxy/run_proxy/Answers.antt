use Rattle.rx_daemon.proofs.CoreRuns.{core-in-turn}
use Rattle.rx_daemon.proofs.EachDone.{runs-done}
use Rattle.rx_daemon.proofs.LegalLemmas.{legal-in-turn}
use Rattle.rx_daemon.proofs.proxy.run_proxy.Goals as goal

pub returns-clause-sessions : goal.returns-clause-sessions
returns-clause-sessions g c =
    let runs = rw (c.new-board.ensures, c.requires.quiet) at c.serve_words-status.ensures.runs in
    rw (← c.in-Some.ensures, c.into_parts-place.ensures.journal, c.into_parts-place.ensures.place) (runs-done _ _ _ _ _ _ _ _ _ _ runs)

pub returns-clause-legal : goal.returns-clause-legal
returns-clause-legal g c =
    let runs = rw (c.new-board.ensures, c.requires.quiet) at c.serve_words-status.ensures.runs in
    rw c.into_parts-place.ensures.journal (legal-in-turn _ _ _ _ _ _ _ _ _ _ runs)

pub returns-clause-core : goal.returns-clause-core
returns-clause-core g c =
    let runs = rw (c.new-board.ensures, c.requires.quiet) at c.serve_words-status.ensures.runs in
    rw (← c.in-Some.ensures, c.into_parts-place.ensures.journal) (λ files. core-in-turn _ _ _ _ _ _ _ _ _ _ files runs)
