-- A request with one input and one output: a tool that reads `a` and makes `b`, to be run here.
use Rattle.std.specs.Prelude.{ℕ, false, List, [], ◌∷◌, codes, pos}
use Rattle.rx_fakes.specs.Entries.{file_entry, stamp_of}
use Rattle.rx_session.specs.declared.requests.Request.{Request}
use Rattle.rx_world.specs.declared.commands.Kind.TheVariants.{Tool}
use Rattle.rx_world.specs.declared.commands.Strategy.TheVariants.{Local}
use Rattle.rx_world.specs.declared.outcomes.Outcome.{Outcome}
use Rattle.rx_world.specs.declared.sources.SourceEntry.{SourceEntry}

-- what `a` holds
abbrev pub single_text : List ℕ
single_text = codes "abc"

-- the source tree that has it alone
abbrev pub single_tree : List SourceEntry
single_tree = file_entry (codes "a") (stamp_of single_text 0) false single_text ∷ []

-- the command `t`, which reads `a` and makes `b`
abbrev pub single_request : Request
single_request = record {
  root = codes "/r";
  words = codes "t" ∷ [];
  environment = [];
  working_directory = [];
  strategy = Local;
  kind = Tool;
  inputs = codes "a" ∷ [];
  toolchain_inputs = [];
  outputs = codes "b" ∷ [];
  platform = [];
  accept_cached = false;
  watch = false;
  timeout_seconds = 0;
  in_place = false;
}

-- the frame of it
abbrev pub single_frame : List ℕ
single_frame = 1 ∷ 0 ∷ 0 ∷ 0 ∷ 19 ∷ 8 ∷ 1 ∷ 18 ∷ 2 ∷ 47 ∷ 114 ∷ 26 ∷ 1 ∷ 116 ∷ 48 ∷ 1 ∷ 56 ∷ 1 ∷ 66 ∷ 1 ∷ 97 ∷ 82 ∷ 1 ∷ 98 ∷ []

-- its run: it ends well, says nothing and makes `b`, which tells the size and the sum of `a`
abbrev pub single_outcome : Outcome
single_outcome = record {
  exit = record { code = pos 0; stdout = []; stderr = [] };
  files = record { path = codes "b"; bytes = codes "b\na 3 294\n"; executable = false } ∷ [];
}
