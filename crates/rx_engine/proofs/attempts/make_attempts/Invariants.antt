use Rattle.rx_engine.proofs.attempts.make_attempts.Given as goal

abbrev pub ghosts-race-K-Seats : goal.ghosts-race-K-Seats
ghosts-race-K-Seats g a = record { local = a.blanks.local.name; remote = a.blanks.remote.name; cancel = a.blanks.cancel.name }

abbrev pub ghosts-race-K-Contest : goal.ghosts-race-K-Contest
ghosts-race-K-Contest g a = record { plan = a.race.plan }
