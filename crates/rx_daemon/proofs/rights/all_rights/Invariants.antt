use Rattle.std.proofs.Common.{◌≡◌, length}
use Rattle.std.specs.Prelude.{All}
use Rattle.std.specs.declared.sync.ledger.Blank.{Blank}
use Rattle.rx_daemon.proofs.rights.all_rights.Given as goal

abbrev pub invariant-loop-made : goal.invariant-loop-made
invariant-loop-made l = record {
  one_part : All (λ (right : Blank). right.parts ≡ 1) l.rights.items;
  count : length l.rights.items ≡ l._made;
}
