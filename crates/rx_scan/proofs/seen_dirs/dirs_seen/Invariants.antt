use Rattle.std.proofs.Common.{◌≡◌, filter, take}
use Rattle.rx_scan.specs.SeenDirs.{is_dir_seen}
use Rattle.rx_reach.specs.Sights.{seen_at}
use Rattle.rx_scan.proofs.seen_dirs.dirs_seen.Given as goal

abbrev pub invariant-loop-path : goal.invariant-loop-path
invariant-loop-path l = l.dirs ≡ filter (λ path. is_dir_seen (seen_at l.sights path)) (take l.path-index l.paths)
