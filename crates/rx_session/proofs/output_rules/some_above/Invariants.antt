use Rattle.std.proofs.Common.{◌≡◌, take, false}
use Rattle.std.specs.List.{list_any}
use Rattle.rx_base.specs.Paths.{is_below}
use Rattle.rx_session.proofs.output_rules.some_above.Given as goal

abbrev pub invariant-loop-path : goal.invariant-loop-path
invariant-loop-path l = list_any (λ path. list_any (λ output. is_below path output) l.outputs) (take l.path-index l.paths) ≡ false
