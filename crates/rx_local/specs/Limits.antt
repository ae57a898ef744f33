-- How much a command may write, and which limit an outcome passes first.
use Rattle.std.specs.Prelude.{◌≤◌, ◌-◌, ◌^◌, ℕ, List, Option, None, Some, All, length, min, nat_lt, sum_by, if◌then◌else◌}
use Rattle.std.specs.List.{find}
use Rattle.std.specs.Option.{option_map, option_or}
use Rattle.rx_local.specs.declared.limits.Passed.{Passed}
use Rattle.rx_world.specs.declared.outcomes.FileOut.{FileOut}
use Rattle.rx_world.specs.declared.outcomes.Outcome.{Outcome}
use Rattle.rx_world.specs.declared.refusals.OutputLimit.{OutputLimit}
use Rattle.rx_world.specs.declared.refusals.OutputLimit.TheVariants.{FileBytes, FilesBytes, TextBytes}

-- the most bytes of the file at an output
abbrev pub most_file_bytes : ℕ
most_file_bytes = 67108864

-- the most bytes of the files at all outputs together
abbrev pub most_files_bytes : ℕ
most_files_bytes = 268435456

-- the most bytes of standard output, and of standard error
abbrev pub most_text_bytes : ℕ
most_text_bytes = 16777216

-- how many bytes these files have together
abbrev pub all_bytes : List FileOut → ℕ
all_bytes files = sum_by (λ (file : FileOut). length file.bytes) files

-- the same as a count is kept: in 64 bits, and it stops at their end
abbrev pub counted_bytes : List FileOut → ℕ
counted_bytes files = min (all_bytes files) (2 ^ 64 - 1)

-- the first of the files that is too large
abbrev pub large_file : List FileOut → Option FileOut
large_file files = find (λ (file : FileOut). nat_lt most_file_bytes (length file.bytes)) files

abbrev pub passed : OutputLimit → ℕ → Passed
passed limit n = record { limit = limit; n = n }

-- the limit, where so many bytes are more than it allows
abbrev pub passed_by : OutputLimit → ℕ → ℕ → Option Passed
passed_by limit most n = if nat_lt most n then Some (passed limit n) else None

-- the limit of one file, where a file passes it: by the first that does
abbrev pub passed_by_file : List FileOut → Option Passed
passed_by_file files = option_map (λ (file : FileOut). passed FileBytes (length file.bytes)) (large_file files)

abbrev pub passed_by_files : List FileOut → Option Passed
passed_by_files files = passed_by FilesBytes most_files_bytes (counted_bytes files)

abbrev pub passed_by_text : List ℕ → Option Passed
passed_by_text text = passed_by TextBytes most_text_bytes (length text)

-- The first limit that an outcome passes: of one file, of all files, of standard output, of standard error.
abbrev pub passed_of : Outcome → Option Passed
passed_of outcome =
    option_or (option_or (option_or (passed_by_file outcome.files) (passed_by_files outcome.files)) (passed_by_text outcome.exit.stdout))
    (passed_by_text outcome.exit.stderr)

-- no file, not all files together, and no text has more bytes than it may have
pub record IsWithinLimits (outcome : Outcome) : Type 0 where
  pub each_file : All (λ (file : FileOut). length file.bytes ≤ most_file_bytes) outcome.files
  pub all_files : all_bytes outcome.files ≤ most_files_bytes
  pub stdout : length outcome.exit.stdout ≤ most_text_bytes
  pub stderr : length outcome.exit.stderr ≤ most_text_bytes
