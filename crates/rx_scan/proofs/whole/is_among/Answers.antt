use Rattle.std.proofs.Common.{ap, ◌∙◌}
use Rattle.std.specs.Option.{is_some}
use Rattle.std.specs.Str.{bytes_eq}
use Rattle.rx_base.proofs.SortedSearch.{found, position_is_any}
use Rattle.rx_scan.proofs.WholeSteps.{ok-some}
use Rattle.rx_scan.proofs.whole.is_among.Goals as goal

pub returns : goal.returns
returns c =
    c.is_ok.ensures.value ∙ ok-some c.binary_search.result
    ∙ ap is_some (found c.args.others.now c.requires c.args.path.now c.binary_search.result c.binary_search.ensures.bound c.binary_search.ensures.position)
    ∙ position_is_any (λ other. bytes_eq c.args.path.now other) c.args.others.now
