use Rattle.std.proofs.Common.{◌≡◌, drop}
use Rattle.std.specs.Prelude.{find}
use Rattle.std.specs.List.{list_any}
use Rattle.rx_base.specs.Paths.{is_below}
use Rattle.rx_scan.specs.Ways.{blocked}
use Rattle.rx_scan.proofs.ways.blocked_path.Given as goal

abbrev pub invariant-loop-output : goal.invariant-loop-output
invariant-loop-output l = blocked l.fn.command l.fn.files ≡ find (λ output. list_any (λ file. is_below output file) l.fn.files) (drop l.output-index l.output-items)
