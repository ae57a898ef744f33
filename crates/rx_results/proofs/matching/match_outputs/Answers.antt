use Rattle.std.proofs.Common.{subst, sym}
use Rattle.rx_results.proofs.OutputLemmas.{all_matched, AreOutputsOf-start}
use Rattle.rx_results.specs.ResultOutputs.{AreOutputsOf}
use Rattle.rx_results.proofs.matching.match_outputs.Goals as goal

pub match_files-requires-clause-outputs : goal.match_files-requires-clause-outputs
match_files-requires-clause-outputs c =
    let start = rw c.as_slice.ensures at c.in_ok-outputs.ensures in
    subst (AreOutputsOf c.args.command.now) (sym start) (AreOutputsOf-start c.args.command.now)

pub returns : goal.returns
returns c =
    let start = rw c.as_slice.ensures at c.in_ok-outputs.ensures in
    rw (
      c.in_ok-match_links.ensures,
      c.in_ok-match_directories.ensures.matched,
      c.in_ok-match_files.ensures.matched,
      start,
    )
    (all_matched c.args.command.now c.args.files c.args.directories.now c.args.links.now
    c.args.command.now.outputs)
