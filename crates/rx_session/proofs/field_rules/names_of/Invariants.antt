use Rattle.std.proofs.Common.{◌≡◌, map, take}
use Rattle.rx_session.specs.Rules.{names_of}
use Rattle.rx_session.proofs.field_rules.names_of.Given as goal

abbrev pub invariant-loop-pair : goal.invariant-loop-pair
invariant-loop-pair l = map (λ name. name.now) l.names.items ≡ names_of (take l.pair-index l.pairs)
