-- The outputs of a compile command that only this machine can run, as far as its words tell them: it has words that aren't understood.
use Rattle.std.specs.Prelude.{ℕ, List, ◌++◌, filter}
use Rattle.rx_base.specs.SortedPaths.{sorted_paths}
use Rattle.rx_world.specs.declared.commands.Command.{Command}
use Rattle.rx_cppflags.specs.Pieces.{Saying}
use Rattle.rx_cppflags.specs.Found.{outputs_of}
use Rattle.rx_cppflags.specs.Outside.{is_apart}

-- those of these paths that are above and below no other, nor an output that the command has
abbrev pub apart_paths : List (List ℕ) → List (List ℕ) → List (List ℕ)
apart_paths outputs paths = filter (is_apart (outputs ++ paths)) paths

-- The outputs of a command whose words say this, in order. What can't be one is left out.
abbrev pub local_outputs : Command → List Saying → List (List ℕ)
local_outputs command said = sorted_paths (apart_paths command.outputs (outputs_of said))
