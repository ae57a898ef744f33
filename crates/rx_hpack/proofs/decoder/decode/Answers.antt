use Rattle.std.proofs.Common.{arith}
use Rattle.std.proofs.lemmas.Result.{err_from_is_err_and}
use Rattle.rx_hpack.specs.Representation.{representation_view}
use Rattle.rx_hpack.proofs.BlockLemmas.{at_the_start, goes_on_at, is_shorter_at, fails_reading_at, fails_applying_at, is_done_at}
use Rattle.rx_hpack.proofs.decoder.decode.Goals as goal

pub loop-left-init : goal.loop-left-init
loop-left-init c = rw c.new-list.ensures (at_the_start c.args.table.now c.args.bytes.now (λ i. omega (arith, c.type_inv.bytes i)))

pub returns-in_err-read : goal.returns-in_err-read
returns-in_err-read c =
    let p = err_from_is_err_and c.from_residual.result c.from_residual.ensures.1 in
    rw (p.1, p.2) (fails_reading_at c.in_err-read.field-0.0 c.args.table.now c.args.bytes.now c.loop-left.list c.loop-left.table c.loop-left.left.now c.loop-left.table c.in-len1-up.len_at_least c.loop-left.invariant c.in_err-read.ensures)

pub returns-in_err-apply : goal.returns-in_err-apply
returns-in_err-apply c =
    let p = err_from_is_err_and c.from_residual-in_err-apply.result c.from_residual-in_err-apply.ensures.1 in
    rw (p.1, p.2) (fails_applying_at c.in_err-apply.field-0.0 c.args.table.now c.args.bytes.now c.loop-left.list c.loop-left.table c.loop-left.left.now (representation_view c.in_ok-read.read) c.in_ok-read.rest.now c.apply.new.list c.apply.new.table c.apply.new.table c.in-len1-up.len_at_least c.loop-left.invariant c.in_ok-read.ensures c.in_err-apply.ensures)

pub loop-left-smaller : goal.loop-left-smaller
loop-left-smaller c = is_shorter_at c.args.table.now c.args.bytes.now c.loop-left.list c.loop-left.table c.loop-left.left.now (representation_view c.in_ok-read.read) c.in_ok-read.rest.now c.in-len1-up.len_at_least c.loop-left.invariant c.in_ok-read.ensures

pub loop-left-preserved : goal.loop-left-preserved
loop-left-preserved c = goes_on_at c.args.table.now c.args.bytes.now c.loop-left.list c.loop-left.table c.loop-left.left.now (representation_view c.in_ok-read.read) c.in_ok-read.rest.now c.apply.new.list c.apply.new.table c.in-len1-up.len_at_least c.loop-left.invariant c.in_ok-read.ensures c.in_ok-apply.ensures

pub returns : goal.returns
returns c = is_done_at c.args.table.now c.args.bytes.now c.loop-left.list _ c.loop-left.table c.loop-left.left.now c.in_default.len_below c.loop-left.invariant c.into_headers.ensures
