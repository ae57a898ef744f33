use Rattle.std.proofs.Common.{◌≡◌, [], length, drop}
use Rattle.rx_wrap.specs.ConfigFile.{lines, settings_in_lines}
use Rattle.rx_wrap.proofs.config_file.settings_in_file.Given as goal

abbrev pub invariant-loop-line : goal.invariant-loop-line
invariant-loop-line l = settings_in_lines l.settings.items (drop (length l.yielded) (lines l.text)) ≡ settings_in_lines [] (lines l.text)
