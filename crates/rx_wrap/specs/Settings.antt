-- Settings, and which of several counts.
use Rattle.std.specs.Prelude.{ℕ, List, [], ◌∷◌, Option, Some, None, if◌then◌else◌}
use Rattle.rx_wrap.specs.declared.flags.Flag.{Flag}
use Rattle.rx_wrap.specs.Flags.{is_same}

-- A flag's value, and the word, name or line that gave it.
pub record Setting : Type 0 where
  pub flag : Flag
  pub value : List ℕ
  pub place : List ℕ

pub record Settings : Type 0 where
  pub command_line : List Setting
  pub environment : List Setting
  pub file : List Setting

abbrev pub setting : Flag → List ℕ → List ℕ → Setting
setting flag value place = record { flag = flag; value = value; place = place }

-- the last setting of a flag, or what was found before
abbrev pub last_setting : Flag → Option Setting → List Setting → Option Setting
last_setting flag found [] = found
last_setting flag found (setting ∷ settings) =
    last_setting flag (if is_same setting.flag flag then Some setting else found) settings

abbrev pub or_else : Option Setting → Option Setting → Option Setting
or_else (Some setting) other = Some setting
or_else None other = other

-- the command line's last one, else the environment's, else the file's
abbrev pub setting_of : Flag → Settings → Option Setting
setting_of flag settings =
    or_else (last_setting flag None settings.command_line)
    (or_else (last_setting flag None settings.environment) (last_setting flag None settings.file))
