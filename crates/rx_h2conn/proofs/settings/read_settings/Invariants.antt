use Rattle.std.proofs.Common.{◌≡◌, ◌%◌, length}
use Rattle.rx_h2conn.specs.Settings.{settings_of, asked, blank_asked}
use Rattle.rx_h2conn.proofs.settings.read_settings.Given as goal

abbrev pub invariant-loop-left : goal.invariant-loop-left
invariant-loop-left l = record {
  whole : length l.left % 6 ≡ 0;
  same : asked l.all (settings_of l.left) ≡ asked (blank_asked l.fn.initial) (settings_of l.body);
}

abbrev pub decreases-loop-left : goal.decreases-loop-left
decreases-loop-left l = length l.left
