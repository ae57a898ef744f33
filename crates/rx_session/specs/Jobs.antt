-- What a request asks for, by paths.
use Rattle.std.specs.Prelude.{ℕ, List, ◌++◌}
use Rattle.rx_world.specs.declared.commands.Command.{Command}
use Rattle.rx_base.specs.SortedPaths.{sorted_paths}
use Rattle.rx_session.specs.declared.requests.Request.{Request}
use Rattle.rx_session.specs.Rules.{path_in, paths_in}

-- the command of a request
unfoldable pub command_of : Request → Command
command_of request = record {
  words = request.words;
  environment = request.environment;
  working_directory = path_in request.working_directory;
  outputs = sorted_paths (paths_in request.outputs);
  platform = request.platform;
  timeout_seconds = request.timeout_seconds;
}

-- the inputs that a request declares, those of the toolchain among them
unfoldable pub declared_of : Request → List (List ℕ)
declared_of request = sorted_paths (paths_in request.inputs ++ paths_in request.toolchain_inputs)
