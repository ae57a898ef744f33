use Rattle.std.proofs.Common.{◌≡◌, ◌<◌, ℕ, get_or, length}
use Rattle.rx_world.specs.declared.outcomes.Listed.{Listed}
use Rattle.rx_daemon.proofs.agreeing.is_same_listing.Given as goal

abbrev pub invariant-loop-i : goal.invariant-loop-i
invariant-loop-i l = (k : ℕ) (d : Listed) → k < l.i → get_or l.first k d ≡ get_or l.second k d
