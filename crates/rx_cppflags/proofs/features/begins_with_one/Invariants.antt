use Rattle.std.proofs.Common.{◌≡◌, drop, map}
use Rattle.std.specs.Prelude.{nat_eq}
use Rattle.std.specs.List.{list_any, starts_with}
use Rattle.rx_cppflags.proofs.features.begins_with_one.Given as goal

abbrev pub invariant-loop-start : goal.invariant-loop-start
invariant-loop-start l =
    list_any (λ start. starts_with nat_eq l.text start) (map (λ start. start.now) (drop l.start-index l.starts))
    ≡ list_any (λ start. starts_with nat_eq l.text start) (map (λ start. start.now) l.starts)
