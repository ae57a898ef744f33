-- What words of the command line gave.
use Rattle.std.specs.Prelude.{ℕ, List, Option}
use Rattle.rx_wrap.specs.Settings.{Setting}

-- the settings in the order of their words, and the command behind the flags
pub record Words : Type 0 where
  pub settings : List Setting
  pub command : List (List ℕ)

-- the settings so far, and a flag whose value is the next word
pub record Reading : Type 0 where
  pub settings : List Setting
  pub waiting : Option Setting
