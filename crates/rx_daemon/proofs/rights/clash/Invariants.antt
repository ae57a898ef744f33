use Rattle.rx_daemon.proofs.rights.clash.Given as goal

abbrev pub ghosts-clash_of : goal.ghosts-clash_of
ghosts-clash_of g a = record { name = a.one.name; parts = a.one.parts }
