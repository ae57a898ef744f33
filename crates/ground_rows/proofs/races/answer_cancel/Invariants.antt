-- Which race it is, is picked here: the names of its ledgers, and its plan.
use Rattle.rx_world.specs.declared.attempts.Plan.TheVariants.{LocalOnly}
use Rattle.ground_rows.proofs.races.answer_cancel.Given as goal

abbrev pub ghosts-look_twice-K-Seats : goal.ghosts-look_twice-K-Seats
ghosts-look_twice-K-Seats g a = record {
  local = a.blanks.local.name;
  remote = a.blanks.remote.name;
  cancel = a.blanks.cancel.name;
}

abbrev pub ghosts-look_twice-K-Contest : goal.ghosts-look_twice-K-Contest
ghosts-look_twice-K-Contest g a = record { plan = LocalOnly }
