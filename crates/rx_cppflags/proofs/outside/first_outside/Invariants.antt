use Rattle.std.proofs.Common.{◌≡◌, drop, not}
use Rattle.std.specs.List.{find}
use Rattle.rx_cppflags.specs.Outside.{is_in_table}
use Rattle.rx_cppflags.proofs.outside.first_outside.Given as goal

abbrev pub invariant-loop-piece : goal.invariant-loop-piece
invariant-loop-piece l =
    find (λ s. not (is_in_table l.all l.outputs s)) (drop l.piece-index l.pieces)
    ≡ find (λ s. not (is_in_table l.all l.outputs s)) l.pieces
