use Rattle.std.proofs.lemmas.Result.{err_from_is_err_and}
use Rattle.rx_h2frame.proofs.NextLemmas.{next_some}
use Rattle.rx_h2conn.specs.Reader.{reading_of}
use Rattle.rx_h2conn.proofs.PieceLemmas.{feeding_goes_on, feeding_fails, cut}
use Rattle.rx_h2conn.proofs.reader.Reader.take_piece.Goals as goal

pub take_front-requires-clause-some : goal.take_front-requires-clause-some
take_front-requires-clause-some c =
    let k = cut c.loop-left.self.lacking c.min-count.result c.loop-left.left.now c.split_at.result.0.now c.split_at.result.1.now (next_some 16384 _ _ c.loop-left.invariant.ready.lacks) (c.loop-left-test.ensures) c.min-count.ensures c.split_at.ensures.front c.split_at.ensures.back in
    k.some

pub returns-in_err-take_front-clause-reads : goal.returns-in_err-take_front-clause-reads
returns-in_err-take_front-clause-reads c =
    let k = cut c.loop-left.self.lacking c.min-count.result c.loop-left.left.now c.split_at.result.0.now c.split_at.result.1.now (next_some 16384 _ _ c.loop-left.invariant.ready.lacks) (c.loop-left-test.ensures) c.min-count.ensures c.split_at.ensures.front c.split_at.ensures.back in
    let p = err_from_is_err_and c.from_residual.result c.from_residual.ensures.1 in
    rw (p.1, p.2) (feeding_fails (reading_of c.args.self.now) (reading_of c.loop-left.self) (reading_of c.take_front.new.self) c.loop-left.self.lacking c.args.piece.now c.loop-left.left.now c.split_at.result.0.now c.split_at.result.1.now c.in_err-take_front.field-0.0 c.loop-left.invariant k.whole k.some k.few c.in_err-take_front.ensures.reads)

pub loop-left-smaller : goal.loop-left-smaller
loop-left-smaller c =
    let k = cut c.loop-left.self.lacking c.min-count.result c.loop-left.left.now c.split_at.result.0.now c.split_at.result.1.now (next_some 16384 _ _ c.loop-left.invariant.ready.lacks) (c.loop-left-test.ensures) c.min-count.ensures c.split_at.ensures.front c.split_at.ensures.back in
    k.less

pub loop-left-preserved : goal.loop-left-preserved
loop-left-preserved c =
    let k = cut c.loop-left.self.lacking c.min-count.result c.loop-left.left.now c.split_at.result.0.now c.split_at.result.1.now (next_some 16384 _ _ c.loop-left.invariant.ready.lacks) (c.loop-left-test.ensures) c.min-count.ensures c.split_at.ensures.front c.split_at.ensures.back in
    feeding_goes_on (reading_of c.args.self.now) (reading_of c.loop-left.self) (reading_of c.take_front.new.self) c.loop-left.self.lacking c.take_front.new.self.lacking c.args.piece.now c.loop-left.left.now c.split_at.result.0.now c.split_at.result.1.now c.loop-left.invariant k.whole k.some k.few c.in_ok-take_front.ensures.reads.0 c.in_ok-take_front.ensures.ready
