use Rattle.std.proofs.Common.{◌≡◌, filter_map, take}
use Rattle.rx_scan.specs.SeenFiles.{file_seen}
use Rattle.rx_scan.proofs.seen_files.files_seen.Given as goal

abbrev pub invariant-loop-path : goal.invariant-loop-path
invariant-loop-path l = l.files ≡ filter_map (file_seen l.sights) (take l.path-index l.paths)
