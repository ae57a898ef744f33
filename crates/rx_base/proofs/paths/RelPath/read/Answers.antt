use Rattle.std.proofs.Common.{sym, arith}
use Rattle.rx_base.specs.Texts.{texts}
use Rattle.rx_base.proofs.PathShape.{IsPath-same, IsPath-read}
use Rattle.rx_base.proofs.paths.RelPath.read.Goals as goal

pub invariant_of-result : goal.invariant_of-result
invariant_of-result c =
    let same = sym (rw c.deref.ensures.value at c.in_ok-text.ensures) in
    let with_text = rw c.new.ensures.items at c.in_ok-names.ensures in
    IsPath-same _ _ same (IsPath-read c.args.text.now (texts c.in_ok-names.names.items) (omega arith) c.in_ok-check.ensures with_text)
