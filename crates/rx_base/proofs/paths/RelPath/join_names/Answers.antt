use Rattle.std.proofs.Common.{arith}
use Rattle.rx_base.proofs.PathNames.{IsPath-behind, joins_long, joins_short}
use Rattle.rx_base.proofs.PathShape.{IsPath-same}
use Rattle.rx_base.proofs.paths.RelPath.join_names.Goals as goal

pub returns-then-len-gt-MAX_PATH_LEN : goal.returns-then-len-gt-MAX_PATH_LEN
returns-then-len-gt-MAX_PATH_LEN c =
    λ _. joins_long c.args.self.now c.args.text.now _ (IsPath-same _ _ c.self.view_is c.self.invariant) c.requires.some c.requires.unrefused c.requires.names
    (rw (c.as_str.ensures.value, c.self.view_is) at c.in_ok-joined.ensures) (omega arith)

pub invariant_of-result : goal.invariant_of-result
invariant_of-result c =
    IsPath-behind c.args.self.now c.args.text.now _ (IsPath-same _ _ c.self.view_is c.self.invariant) c.requires.names
    (rw (c.as_str.ensures.value, c.self.view_is) at c.in_ok-joined.ensures) (omega arith)

pub returns : goal.returns
returns c =
    joins_short c.args.self.now c.args.text.now _ (IsPath-same _ _ c.self.view_is c.self.invariant) c.requires.some c.requires.unrefused c.requires.names
    (rw (c.as_str.ensures.value, c.self.view_is) at c.in_ok-joined.ensures) (omega arith)
