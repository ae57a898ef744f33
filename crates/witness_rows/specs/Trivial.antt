-- A request that nothing can keep from being done: a tool that reads and writes nothing, to be run here.
use Rattle.std.specs.Prelude.{ℕ, false, List, [], ◌∷◌, codes, pos}
use Rattle.rx_session.specs.declared.requests.Request.{Request}
use Rattle.rx_world.specs.declared.commands.Kind.TheVariants.{Tool}
use Rattle.rx_world.specs.declared.commands.Strategy.TheVariants.{Local}
use Rattle.rx_world.specs.declared.outcomes.Outcome.{Outcome}

-- the served root
abbrev pub trivial_root : List ℕ
trivial_root = codes "/r"

-- the command `t`, without inputs and outputs
abbrev pub trivial_request : Request
trivial_request = record {
  root = trivial_root;
  words = codes "t" ∷ [];
  environment = [];
  working_directory = [];
  strategy = Local;
  kind = Tool;
  inputs = [];
  toolchain_inputs = [];
  outputs = [];
  platform = [];
  accept_cached = false;
  watch = false;
  timeout_seconds = 0;
  in_place = false;
}

-- the frame of it
abbrev pub trivial_frame : List ℕ
trivial_frame = 1 ∷ 0 ∷ 0 ∷ 0 ∷ 13 ∷ 8 ∷ 1 ∷ 18 ∷ 2 ∷ 47 ∷ 114 ∷ 26 ∷ 1 ∷ 116 ∷ 48 ∷ 1 ∷ 56 ∷ 1 ∷ []

-- its run: it ends well, says nothing and makes nothing
abbrev pub trivial_outcome : Outcome
trivial_outcome = record { exit = record { code = pos 0; stdout = []; stderr = [] }; files = [] }
