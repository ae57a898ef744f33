use Rattle.rx_engine.proofs.sessions.serve_session.Given as goal

abbrev pub ghosts-undertake_alone-N-Ledger : goal.ghosts-undertake_alone-N-Ledger
ghosts-undertake_alone-N-Ledger g a = record { name = a.blank.name; parts = a.blank.parts }

abbrev pub ghosts-undertake_alone-N-Places : goal.ghosts-undertake_alone-N-Places
ghosts-undertake_alone-N-Places g a = record { most = 1 }
