-- How a client was called: its words, the environment and the working directory.
use Rattle.std.specs.Prelude.{ℕ, List}
use Rattle.rx_world.specs.declared.commands.Pair.{Pair}

pub record Invocation : Type 0 where
  pub words : List (List ℕ)
  pub environment : List Pair
  pub directory : List ℕ
