use Rattle.std.proofs.Common.{◌∙◌, ap, arith}
use Rattle.rx_base.specs.Paths.{parts}
use Rattle.rx_base.proofs.PathAbove.{IsPath-texts, next_prefix, all_prefixes}
use Rattle.rx_base.proofs.PathShape.{IsPath-same}
use Rattle.rx_base.proofs.paths.RelPath.prefixes.Goals as goal

pub path_of_names-requires : goal.path_of_names-requires
path_of_names-requires c =
    IsPath-texts c.args.self.now c.in_ok-names.names.items _ c.loop-count.count (IsPath-same _ _ c.self.view_is c.self.invariant)
    (rw c.as_str.ensures.value at c.in_ok-names.ensures ∙ ap parts c.self.view_is) (rw c.deref.ensures.value at c.split_at.ensures.front)

pub loop-count-preserved : goal.loop-count-preserved
loop-count-preserved c =
    next_prefix c.args.self.now c.in_ok-names.names.items _ c.loop-count.count c.loop-count.prefixes _ _
    (rw c.as_str.ensures.value at c.in_ok-names.ensures ∙ ap parts c.self.view_is) (rw c.deref.ensures.value at c.split_at.ensures.front)
    c.loop-count.auto.count (omega arith) c.loop-count.invariant c.in_ok-path_of_names.ensures c.in_ok-push.ensures.ok

pub returns : goal.returns
returns c =
    all_prefixes c.args.self.now c.in_ok-names.names.items c.loop-count.count c.loop-count.prefixes
    (rw c.as_str.ensures.value at c.in_ok-names.ensures ∙ ap parts c.self.view_is) (omega (arith, c.in_ok-names.names.ok)) c.loop-count.auto.count c.loop-count.invariant
