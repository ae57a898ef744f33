use Rattle.std.proofs.Common.{◌≤◌, length, string_bytes, sym, arith}
use Rattle.rx_base.specs.Texts.{texts}
use Rattle.rx_base.proofs.PathParts.{Lacks-from_checked}
use Rattle.rx_base.proofs.PathShape.{IsPath-same, IsPath-join}
use Rattle.rx_base.proofs.paths.RelPath.join.Goals as goal

pub are_names-requires : goal.are_names-requires
are_names-requires c = Lacks-from_checked c.args.text.now c.in_ok-check.ensures

pub invariant_of-result : goal.invariant_of-result
invariant_of-result c =
    let same = sym (rw c.deref.ensures.value at c.in_ok-text.ensures) in
    let first = rw (c.new.ensures.items, c.as_str.ensures.value) at c.in_ok-names.ensures in
    let short : length (string_bytes c.in_ok-text.text) ≤ 4096 = omega arith in
    IsPath-same _ _ same
    (IsPath-join _ c.args.text.now (texts c.in_ok-names.names.items) (texts c.in_ok-names-2.names.items) c.self.invariant first c.in_ok-check.ensures c.in_ok-names-2.ensures (rw same short))
