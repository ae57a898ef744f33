use Rattle.rx_scan.specs.SeenFiles.{file_seen}
use Rattle.rx_scan.proofs.SeenSteps.{files-more}
use Rattle.rx_scan.proofs.seen_files.files_seen.Goals as goal

pub loop-path-preserved : goal.loop-path-preserved
loop-path-preserved c = files-more (file_seen c.args.sights.now) c.args.paths.now c.loop-path.path-index c.path-item.result c.in_ok-file.file c.loop-path.files _ c.loop-path-test.true c.path-item.is c.in_ok-file.ensures c.loop-path.invariant c.in_ok-add_file.ensures
