use Rattle.std.proofs.Common.{◌≡◌, ℕ, List, ◌++◌, drop, string_bytes}
use Rattle.std.specs.List.{flat_map}
use Rattle.rx_client.proofs.joins.push_behind_each.Given as goal

abbrev pub invariant-loop-text : goal.invariant-loop-text
invariant-loop-text l = string_bytes l.out ++ flat_map (λ (other : List ℕ). l.between ++ other) (drop l.text-index l.texts) ≡ string_bytes l.initial.out ++ flat_map (λ (other : List ℕ). l.between ++ other) l.texts
