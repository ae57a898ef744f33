use Rattle.std.proofs.Common.{◌∙◌, ap}
use Rattle.rx_base.specs.Paths.{parts}
use Rattle.rx_base.proofs.PathAbove.{IsPath-texts}
use Rattle.rx_base.proofs.PathShape.{IsPath-same}
use Rattle.rx_base.proofs.paths.RelPath.parent.Goals as goal

pub path_of_names-requires : goal.path_of_names-requires
path_of_names-requires c =
    IsPath-texts c.args.self.now c.in_ok-names.names.items _ _ (IsPath-same _ _ c.self.view_is c.self.invariant)
    (rw c.as_str.ensures.value at c.in_ok-names.ensures ∙ ap parts c.self.view_is) (c.deref.ensures.value ∙ c.pop.ensures.rest)
