use Rattle.std.proofs.Common.{◌≡◌, map, take}
use Rattle.rx_wrap.specs.RelativePaths.{relative_word}
use Rattle.rx_wrap.proofs.relative_paths.each_word.Given as goal

abbrev pub invariant-loop-word : goal.invariant-loop-word
invariant-loop-word l = l.relative.items ≡ map (relative_word l.root l.directory) (take l.word-index l.words)
