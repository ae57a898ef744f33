use Rattle.std.proofs.Common.{rules, ◌≡◌, None}
use Rattle.rx_grpc.specs.Seen.{heard_of}
use Rattle.rx_h2conn.proofs.PieceLemmas.{cut}
use Rattle.rx_grpc.proofs.ReadLemmas.{message_some, reading_goes_on, reading_stopped}
use Rattle.rx_grpc.proofs.reader.Reader.take_piece.Goals as goal

pub returns-then-is_some-clause-read : goal.returns-then-is_some-clause-read
returns-then-is_some-clause-read c =
    reading_stopped (heard_of c.args.self.now) (heard_of c.loop-left.self) c.loop-left.self.lacking c.args.piece.now c.loop-left.left.now c.loop-left.invariant (search rules)

pub loop-left-smaller : goal.loop-left-smaller
loop-left-smaller c =
    let none : c.loop-left.self.end ≡ None = search rules in
    let k = cut c.loop-left.self.lacking c.min-count.result c.loop-left.left.now c.split_at.result.0.now c.split_at.result.1.now (message_some _ _ (c.loop-left.invariant.ready none)) c.loop-left-test.ensures c.min-count.ensures c.split_at.ensures.front c.split_at.ensures.back in
    k.less

pub loop-left-preserved : goal.loop-left-preserved
loop-left-preserved c =
    let none : c.loop-left.self.end ≡ None = search rules in
    let k = cut c.loop-left.self.lacking c.min-count.result c.loop-left.left.now c.split_at.result.0.now c.split_at.result.1.now (message_some _ _ (c.loop-left.invariant.ready none)) c.loop-left-test.ensures c.min-count.ensures c.split_at.ensures.front c.split_at.ensures.back in
    reading_goes_on (heard_of c.args.self.now) (heard_of c.loop-left.self) (heard_of c.take_front.new.self) c.loop-left.self.lacking c.take_front.new.self.lacking c.args.piece.now c.loop-left.left.now c.split_at.result.0.now c.split_at.result.1.now c.loop-left.invariant none k c.in_ok-take_front.ensures.took c.in_ok-take_front.ensures.ready
