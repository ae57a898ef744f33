-- Outcomes of a command: what of them counts, and the short forms that are kept.
use Rattle.std.specs.Prelude.{◌≡◌, ◌≢◌, List, [], map, pos}
use Rattle.rx_base.specs.Digests.{digest_of}
use Rattle.rx_world.specs.declared.commands.Command.{Command}
use Rattle.rx_world.specs.declared.outcomes.FileOut.{FileOut}
use Rattle.rx_world.specs.declared.outcomes.Outcome.{Outcome}
use Rattle.rx_world.specs.declared.outcomes.Listed.{Listed}
use Rattle.rx_world.specs.declared.outcomes.KeptOutcome.{KeptOutcome}
use Rattle.rx_world.specs.declared.trees.Tree.{Tree}
use Rattle.rx_world.specs.Files.{cut_files}

-- a file's path, the digest of its bytes and its mark
abbrev pub listed : FileOut → Listed
listed file = record { path = file.path; digest = digest_of file.bytes; executable = file.executable }

abbrev pub listing : List FileOut → List Listed
listing files = map listed files

-- an outcome by its digests
abbrev pub kept : Outcome → KeptOutcome
kept outcome = record {
  code = outcome.exit.code;
  stdout = digest_of outcome.exit.stdout;
  stderr = digest_of outcome.exit.stderr;
  files = listing outcome.files;
}

-- The outcome has a file for each output of the command, in order, where its code is 0, and else none.
pub record IsProper (command : Command) (outcome : Outcome) : Type 0 where
  pub whole : outcome.exit.code ≡ pos 0 → map (λ file. file.path) outcome.files ≡ command.outputs
  pub none : outcome.exit.code ≢ pos 0 → outcome.files ≡ []

-- The outcome is that of the tool: its exit, and where the code is 0 its files at the command's outputs.
pub record IsClean (tool : Command → Tree → Outcome) (command : Command) (tree : Tree) (outcome : Outcome) : Type 0 where
  pub exit_is : outcome.exit ≡ (tool command tree).exit
  pub files_are : outcome.exit.code ≡ pos 0 → outcome.files ≡ cut_files command.outputs (tool command tree).files
  pub none : outcome.exit.code ≢ pos 0 → outcome.files ≡ []
