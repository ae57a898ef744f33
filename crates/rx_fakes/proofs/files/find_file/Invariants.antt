use Rattle.std.proofs.Common.{◌≡◌, drop}
use Rattle.rx_world.specs.Files.{file_at}
use Rattle.rx_fakes.proofs.files.find_file.Given as goal

abbrev pub invariant-loop-file : goal.invariant-loop-file
invariant-loop-file l = file_at l.path l.files ≡ file_at l.path (drop l.file-index l.files)
