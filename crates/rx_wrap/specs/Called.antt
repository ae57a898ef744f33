-- How a client was called.
use Rattle.std.specs.Prelude.{ℕ, List, Option}
use Rattle.rx_world.specs.declared.commands.Pair.{Pair}

-- the command, the environment, the working directory, and the root as the system resolves its path
pub record Called : Type 0 where
  pub command : List (List ℕ)
  pub variables : List Pair
  pub directory : List ℕ
  pub root : Option (List ℕ)
