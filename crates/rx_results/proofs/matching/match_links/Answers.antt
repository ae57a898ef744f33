use Rattle.rx_results.proofs.OutputLemmas.{links_more, no_links}
use Rattle.rx_results.proofs.matching.match_links.Goals as goal

pub loop-link-init : goal.loop-link-init
loop-link-init c = (no_links c.args.command.now c.args.outputs.now.items, c.requires.outputs)

pub loop-link-preserved : goal.loop-link-preserved
loop-link-preserved c = (
  rw (c.in_ok-match_path.ensures.matched, c.loop-link.invariant.0)
      (rw c.link-item.is (links_more c.args.command.now c.args.links.now c.loop-link.link-index
      c.link-item.result c.args.outputs.now.items c.loop-link-test.true)),
  c.in_ok-match_path.ensures.outputs,
)
