use Rattle.std.proofs.Common.{◌≡◌, map, take}
use Rattle.rx_results.specs.ResultOutputs.{with_links, AreOutputsOf}
use Rattle.rx_results.proofs.matching.match_links.Given as goal

abbrev pub invariant-loop-link : goal.invariant-loop-link
invariant-loop-link l =
    (l.outputs.items ≡ map (with_links l.command (take l.link-index l.links))
    l.initial.outputs.items)
    × AreOutputsOf l.command l.outputs.items
