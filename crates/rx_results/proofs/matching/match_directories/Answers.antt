use Rattle.rx_results.proofs.OutputLemmas.{directories_more, no_directories}
use Rattle.rx_results.proofs.matching.match_directories.Goals as goal

pub loop-directory-init : goal.loop-directory-init
loop-directory-init c = (
  no_directories c.args.command.now c.args.outputs.now.items,
  c.requires.outputs,
)

pub loop-directory-preserved : goal.loop-directory-preserved
loop-directory-preserved c = (
  rw (c.in_ok-match_path.ensures.matched, c.loop-directory.invariant.0)
      (rw c.directory-item.is (directories_more c.args.command.now c.args.directories.now
      c.loop-directory.directory-index c.directory-item.result c.args.outputs.now.items
      c.loop-directory-test.true)),
  c.in_ok-match_path.ensures.outputs,
)
