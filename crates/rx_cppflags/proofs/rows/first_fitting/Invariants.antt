use Rattle.std.proofs.Common.{◌≡◌, map, drop}
use Rattle.rx_cppflags.specs.Rows.{first_fitting, row_of}
use Rattle.rx_cppflags.proofs.rows.first_fitting.Given as goal

abbrev pub invariant-loop-row : goal.invariant-loop-row
invariant-loop-row l = first_fitting l.word (map row_of (drop l.row-index l.rows)) ≡ first_fitting l.word (map row_of l.rows)
