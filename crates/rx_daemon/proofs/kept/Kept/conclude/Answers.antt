use Rattle.std.proofs.Common.{◌<◌, arith}
use Rattle.rx_daemon.proofs.KeptLemmas.{kept-more}
use Rattle.rx_daemon.proofs.kept.Kept.conclude.Goals as goal

-- one session more, with the parts that it ended with
pub invariant_of-self : goal.invariant_of-self
invariant_of-self g c =
    let was = c.self.invariant in
    let part = c.args.admitted.0.one_part in
    let claim = c.into_parts-number.ensures in
    let pending = c.requires.pending in
    let ended = c.conclude-transcript.ensures in
    let own = ended.concluded.own _ _ pending.is_pending in
    let journal = ended.concluded.journal _ _ pending.is_pending in
    let some : 0 < c.self.inside.out = omega (arith, was.2, part, c.merge.ensures.parts, c.merge.ensures.apart) in
    rw (c.push_reserved.ensures.items, c.either-self-inside.ensures, c.asks_to_end.ensures, c.as_slice.ensures) (
      kept-more _ _ _ _ _ _ _ _ _ _ _ _ _ _ _ _ _ _ was.0
          (record {
            was = pending.was;
            given = rw (ended.number, claim.number) pending.given;
            right = rw ended.number claim.right;
            session = rw c.unite.ensures own;
          })
          (omega (arith, c.len-before.ensures))
          (rw was.0.limit at journal) ended.board.later ended.board.limit ended.board.opening c.conclude.ensures.total some,
      omega (arith, was.1, c.push_reserved.ensures.len, c.push_reserved.ensures.capacity, some),
      omega (arith, was.2, part, c.merge.ensures.parts, some),
      omega (arith, was.3, c.merge.ensures.amount, c.args.admitted.0.nothing),
      was.4,
    )
