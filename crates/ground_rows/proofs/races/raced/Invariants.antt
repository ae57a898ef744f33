-- Which race it is, is picked here: the names of its ledgers, and its plan.
use Rattle.rx_world.specs.declared.attempts.Plan.TheVariants.{Both}
use Rattle.ground_rows.proofs.races.raced.Given as goal

abbrev pub ghosts-race_both-K-Seats : goal.ghosts-race_both-K-Seats
ghosts-race_both-K-Seats g a = record {
  local = a.blanks.local.name;
  remote = a.blanks.remote.name;
  cancel = a.blanks.cancel.name;
}

abbrev pub ghosts-race_both-K-Contest : goal.ghosts-race_both-K-Contest
ghosts-race_both-K-Contest g a = record { plan = Both }
