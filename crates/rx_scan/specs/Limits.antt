-- The limits on the files of a command.
use Rattle.std.specs.Prelude.{◌≡◌, ℕ, ◌+◌, List, Option, None, Some, Result, Ok, Err, All, length, map, nat_lt, sum_by, if◌then◌else◌}
use Rattle.std.specs.List.{find}
use Rattle.rx_base.specs.SortedPaths.{AreSorted}
use Rattle.rx_world.specs.declared.looks.Look.{Look}
use Rattle.rx_scan.specs.declared.gather_fault.GatherFault.{GatherFault}
use Rattle.rx_scan.specs.declared.gather_fault.GatherFault.TheVariants.{TooLarge}
use Rattle.rx_world.specs.declared.refusals.Limit.{Limit}
use Rattle.rx_world.specs.declared.refusals.Limit.TheVariants.{FileBytes, ListBytes, ListFiles, ScanBytes, ScanFiles}
use Rattle.rx_scan.specs.declared.limits.Extent.{Extent}
use Rattle.rx_scan.specs.declared.limits.Extent.TheVariants.{Scan, WholeList}
use Rattle.rx_scan.specs.declared.seen_files.SeenFile.{SeenFile}
use Rattle.rx_scan.specs.Digests.{IsSeen}
use Rattle.rx_reach.specs.Searches.{most_file_bytes}

-- how many files there may be, and how many bytes they may have together
abbrev pub most_files : Extent → ℕ
most_files Scan = 20000
most_files WholeList = 50000

abbrev pub most_bytes : ℕ
most_bytes = 1073741824

abbrev pub files_limit : Extent → Limit
files_limit Scan = ScanFiles
files_limit WholeList = ListFiles

abbrev pub bytes_limit : Extent → Limit
bytes_limit Scan = ScanBytes
bytes_limit WholeList = ListBytes

-- how many bytes the files have together
abbrev pub total_size : List SeenFile → ℕ
total_size files = sum_by (λ file. file.stamp.size) files

-- the first of the files that is too large
abbrev pub large_file : List SeenFile → Option SeenFile
large_file files = find (λ file. nat_lt most_file_bytes file.stamp.size) files

-- The first limit that sorted files pass: of their number, of the bytes of one, of the bytes of all.
abbrev pub total_of : Extent → List SeenFile → Result (Unit {0}) GatherFault
total_of extent files =
    if nat_lt most_bytes (total_size files) then Err (TooLarge (bytes_limit extent) (total_size files) None) else Ok tt

abbrev pub sizes_of : Extent → List SeenFile → Option SeenFile → Result (Unit {0}) GatherFault
sizes_of extent files None = total_of extent files
sizes_of extent files (Some file) = Err (TooLarge FileBytes file.stamp.size (Some file.path))

abbrev pub check_of : Extent → List SeenFile → Result (Unit {0}) GatherFault
check_of extent files =
    if nat_lt (most_files extent) (length files) then Err (TooLarge (files_limit extent) (most_files extent + 1) None)
    else sizes_of extent files (large_file files)

-- files that were seen, in order, pass this limit first
abbrev pub HasPassed : Extent → List (List ℕ × Look) → Limit → ℕ → Option (List ℕ) → Type 0
HasPassed extent view limit n path =
    (all : List SeenFile) × AreSorted (map (λ file. file.path) all) × All (IsSeen view) all × (check_of extent all ≡ Err (TooLarge limit n path))
