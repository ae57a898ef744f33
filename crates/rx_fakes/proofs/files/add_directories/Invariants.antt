use Rattle.std.proofs.Common.{◌≡◌, drop}
use Rattle.rx_world.specs.Files.{all_placed_by}
use Rattle.rx_fakes.proofs.files.add_directories.Given as goal

abbrev pub invariant-loop-path : goal.invariant-loop-path
invariant-loop-path l = all_placed_by (λ path. path) l.paths l.fn.directories ≡ all_placed_by (λ path. path) (drop l.path-index l.paths) l.directories
