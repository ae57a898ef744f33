use Rattle.rx_results.proofs.OutputLemmas.{files_more, no_files}
use Rattle.rx_results.proofs.matching.match_files.Goals as goal

pub loop-file-init : goal.loop-file-init
loop-file-init c = (no_files c.args.command.now c.args.outputs.now.items, c.requires.outputs)

pub loop-file-preserved : goal.loop-file-preserved
loop-file-preserved c = (
  rw (
    c.in_ok-match_path.ensures.matched,
    c.of-path.ensures.path,
    c.of-path.ensures.file,
    c.loop-file.invariant.0,
  )
      (files_more c.args.command.now c.loop-file.yielded c.in-Some.file c.args.outputs.now.items),
  c.in_ok-match_path.ensures.outputs,
)
