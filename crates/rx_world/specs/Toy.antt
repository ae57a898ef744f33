-- A tool that is computed: it copies what it sees of its tree into each output.
use Rattle.std.specs.Prelude.{◌≡◌, ℕ, ◌%◌, ◌^◌, List, [], ◌∷◌, ◌++◌, Option, None, Some, ◌*◌, ◌+◌, ◌-◌, codes, decimal, drop, false, if◌then◌else◌, length, map, nat_eq, nat_lt, pos, sum, take}
use Rattle.std.specs.List.{flat_map, starts_with}
use Rattle.std.proofs.Common.{ap}
use Rattle.rx_base.specs.declared.digests.Digest.{Digest}
use Rattle.rx_world.specs.declared.commands.Command.{Command}
use Rattle.rx_world.specs.declared.outcomes.Exit.{Exit}
use Rattle.rx_world.specs.declared.outcomes.FileOut.{FileOut}
use Rattle.rx_world.specs.declared.outcomes.Outcome.{Outcome}
use Rattle.rx_world.specs.declared.trees.Tree.{Tree}
use Rattle.rx_world.specs.Trees.{files-tree_with_directories, parents_of, with_parents}

-- the first file that begins with `#error`: the least path, since a tree's files are in order
abbrev pub first_error : List FileOut → Option (List ℕ)
first_error [] = None
first_error (file ∷ files) = if starts_with nat_eq file.bytes (codes "#error") then Some file.path else first_error files

-- a file's path, size and the sum of its bytes in 32 bits, on a line
abbrev pub toy_line : FileOut → List ℕ
toy_line file =
    file.path ++ codes " " ++ decimal (length file.bytes) ++ codes " " ++ decimal (sum file.bytes % 2 ^ 32) ++ codes "\n"

-- an output has its own path on a line, and a line for each file of the tree
abbrev pub toy_file : List FileOut → List ℕ → FileOut
toy_file files path = record { path = path; bytes = path ++ codes "\n" ++ flat_map toy_line files; executable = false }

abbrev pub toy_failure : List ℕ → Outcome
toy_failure path = record {
  exit = record { code = pos 1; stdout = []; stderr = codes "error in " ++ path ++ codes "\n" };
  files = [];
}

abbrev pub toy_success : List (List ℕ) → List FileOut → Outcome
toy_success outputs files = record {
  exit = record { code = pos 0; stdout = []; stderr = [] };
  files = map (toy_file files) outputs;
}

abbrev pub toy_outcome : Option (List ℕ) → List (List ℕ) → List FileOut → Outcome
toy_outcome (Some path) outputs files = toy_failure path
toy_outcome None outputs files = toy_success outputs files

-- What the tool makes. The words, the environment and empty directories don't count.
abbrev pub toy_tool : Command → Tree → Outcome
toy_tool command tree = toy_outcome (first_error tree.files) command.outputs tree.files

-- the directories that are made for the outputs don't count
pub toy_tool-with_parents : (command : Command) (tree : Tree) → toy_tool command (with_parents command.outputs tree) ≡ toy_tool command tree
toy_tool-with_parents command tree =
    ap (λ files. toy_outcome (first_error files) command.outputs files) (files-tree_with_directories (parents_of command.outputs) tree)

-- ---- the names of operations

-- the value of a lower-case hexadecimal digit
abbrev pub digit_value : ℕ → ℕ
digit_value digit = if nat_lt digit 97 then digit - 48 else digit - 87

-- the bytes that pairs of hexadecimal digits stand for
abbrev pub bytes_in : List ℕ → List ℕ
bytes_in [] = []
bytes_in (digit ∷ []) = []
bytes_in (high ∷ low ∷ digits) = (digit_value high * 16 + digit_value low) ∷ bytes_in digits

-- the number that decimal digits behind these stand for
abbrev pub number_in : ℕ → List ℕ → ℕ
number_in number [] = number
number_in number (digit ∷ digits) = number_in (number * 10 + (digit - 48)) digits

-- The digest in a name `HASH/SIZE`: 64 hexadecimal digits, a slash, and a decimal number.
abbrev pub toy_operation : List ℕ → Digest
toy_operation name = record { hash = bytes_in (take 64 name); size = number_in 0 (drop 65 name) }
