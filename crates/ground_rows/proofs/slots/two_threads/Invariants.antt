-- Which slots these are, is picked here: their ledger, and how many there are.
use Rattle.ground_rows.proofs.slots.two_threads.Given as goal

abbrev pub ghosts-share_one-K-Ledger : goal.ghosts-share_one-K-Ledger
ghosts-share_one-K-Ledger g a = record { name = a.blank.name; parts = a.blank.parts }

abbrev pub ghosts-share_one-K-Places : goal.ghosts-share_one-K-Places
ghosts-share_one-K-Places g a = record { most = 1 }
