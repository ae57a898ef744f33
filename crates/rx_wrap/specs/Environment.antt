-- Settings of the environment: variables RBE_name.
use Rattle.std.specs.Prelude.{List, Option, codes}
use Rattle.std.specs.List.{filter_map}
use Rattle.std.specs.Option.{option_and_then, option_map}
use Rattle.rx_world.specs.declared.commands.Pair.{Pair}
use Rattle.rx_wrap.specs.Cuts.{stripped}
use Rattle.rx_wrap.specs.Flags.{flag_named}
use Rattle.rx_wrap.specs.Settings.{Setting, setting}

abbrev pub setting_in : Pair → Option Setting
setting_in variable =
    option_map (λ flag. setting flag variable.value variable.name)
    (option_and_then flag_named (stripped (codes "RBE_") variable.name))

abbrev pub settings_in : List Pair → List Setting
settings_in variables = filter_map setting_in variables
