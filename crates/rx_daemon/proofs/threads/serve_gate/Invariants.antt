use Rattle.rx_daemon.proofs.threads.serve_gate.Given as goal

abbrev pub ghosts-share_slots-N-Ledger : goal.ghosts-share_slots-N-Ledger
ghosts-share_slots-N-Ledger g a = record { name = a.blank.name; parts = a.blank.parts }

abbrev pub ghosts-share_slots-N-Places : goal.ghosts-share_slots-N-Places
ghosts-share_slots-N-Places g a = record { most = a.common.now.service.slots }
