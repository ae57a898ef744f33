use Rattle.std.proofs.Common.{sym}
use Rattle.std.proofs.lemmas.Result.{err_from_is_err_and}
use Rattle.rx_codec.proofs.ReadLemmas.{check_starts, check_more, check_ends, check_stops, check_refuses, grows}
use Rattle.rx_session.specs.Packed.{end_field_checked}
use Rattle.rx_session.proofs.packed.check_end.Goals as goal

pub fields-init : goal.fields-init
fields-init c = check_starts end_field_checked c.args.fields.bytes c.args.fields.at

pub returns-in_err-number : goal.returns-in_err-number
returns-in_err-number c =
    let p = err_from_is_err_and c.from_residual.result c.from_residual.ensures.1 in
    let exact = c.in_err-number.ensures.exact in
    rw (p.1, p.2) (check_stops _ _ _ _ _ _ c.fields.invariant exact.0 exact.2)

pub returns-in_err-check_end_field : goal.returns-in_err-check_end_field
returns-in_err-check_end_field c =
    let p = err_from_is_err_and c.from_residual-in_err-check_end_field.result c.from_residual-in_err-check_end_field.ensures.1 in
    let exact = rw c.in-Some.is at c.in_ok-number.ensures.exact in
    let step = c.in_err-check_end_field.ensures in
    rw (p.1, p.2) (check_refuses _ _ _ _ _ _ _ c.fields.invariant exact.0 exact.2 (sym step))

pub fields-preserved : goal.fields-preserved
fields-preserved c =
    let exact = rw c.in-Some.is at c.in_ok-number.ensures.exact in
    let found = rw c.in-Some.is at c.in_ok-number.ensures.found in
    let step = c.in_ok-check_end_field.ensures in
    rw exact.1 (check_more _ _ _ _ _ _ c.fields.invariant exact.0 exact.2 (sym step) (grows _ _ _ _ found))

pub returns : goal.returns
returns c =
    let exact = rw c.in_default.is at c.in_ok-number.ensures.exact in
    check_ends _ _ _ _ _ c.fields.invariant exact.0
