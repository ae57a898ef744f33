use Rattle.std.proofs.Common.{◌≡◌, None, drop}
use Rattle.std.specs.Prelude.{option_copied}
use Rattle.rx_wrap.specs.Settings.{last_setting}
use Rattle.rx_wrap.proofs.settings.last_setting.Given as goal

abbrev pub invariant-loop-setting : goal.invariant-loop-setting
invariant-loop-setting l = last_setting l.flag (option_copied l.found) (drop l.setting-index l.settings) ≡ last_setting l.flag None l.settings
