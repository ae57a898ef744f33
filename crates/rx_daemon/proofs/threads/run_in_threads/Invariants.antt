use Rattle.rx_daemon.proofs.threads.run_in_threads.Given as goal

abbrev pub ghosts-serve_front-K-Desks : goal.ghosts-serve_front-K-Desks
ghosts-serve_front-K-Desks g a = record { coming = g.F.Front.coming a.front; gives = g.F.Front.gives }

abbrev pub ghosts-serve_front-K-Run : goal.ghosts-serve_front-K-Run
ghosts-serve_front-K-Run g a = record {
  root = a.service.root.now;
  opening = g.P.Place.opening a.place;
  faults = g.F.Front.faults a.front;
  given = g.F.Front.given a.front;
  taken = a.unbound.blanks.taken.name;
  concluded = a.unbound.blanks.concluded.name;
  admissions = a.unbound.blanks.admissions.name;
  most = a.service.sessions;
  rights = a.unbound.rights.items;
}
