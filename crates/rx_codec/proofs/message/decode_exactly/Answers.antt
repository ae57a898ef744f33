use Rattle.std.proofs.Common.{sym, arith, ◌∙◌}
use Rattle.std.proofs.lemmas.Result.{err_from_is_err_and}
use Rattle.rx_codec.proofs.DecodeLaws.{wire_refused, value_refused, form_refused, is_decoded}
use Rattle.rx_codec.proofs.PartLaws.{parts_stand}
use Rattle.rx_codec.proofs.message.decode_exactly.Goals as goal

pub returns-in_err-check_all : goal.returns-in_err-check_all
returns-in_err-check_all g c =
    let p = err_from_is_err_and c.from_residual.result c.from_residual.ensures.1 in
    rw (p.1, p.2) (λ other. wire_refused g.M.Shape.parts g.M.Message.from g.M.Message.is_canonical c.args.bytes.now _ (sym (rw c.new.ensures.start at c.in_err-check_all.ensures)))

pub read-requires : goal.read-requires
read-requires g c = parts_stand g.M.Shape.parts c.args.bytes.now (λ i. omega (arith, c.type_inv.bytes i)) (sym (rw c.new.ensures.start at c.in_ok-check_all.ensures))

pub returns-in_err-message : goal.returns-in_err-message
returns-in_err-message g c =
    let p = err_from_is_err_and c.from_residual-in_err-message.result c.from_residual-in_err-message.ensures.1 in
    rw (p.1, p.2) (λ other. value_refused g.M.Shape.parts g.M.Message.from g.M.Message.is_canonical c.args.bytes.now _ (sym (rw c.new.ensures.start at c.in_ok-check_all.ensures)) (rw c.in_ok-fields.ensures at (c.in_err-message.ensures other)))

pub returns-then-branch : goal.returns-then-branch
returns-then-branch g c =
    is_decoded g.M.Shape.parts g.M.Message.from g.M.Message.is_canonical c.args.bytes.now c.in_ok-message.message (sym (rw c.new.ensures.start at c.in_ok-check_all.ensures)) (rw c.in_ok-fields.ensures at c.in_ok-message.ensures)
    (sym c.in_ok-has_one_form.ensures ∙ c.if-branch.true)

pub returns : goal.returns
returns g c = λ other.
    form_refused g.M.Shape.parts g.M.Message.from g.M.Message.is_canonical c.args.bytes.now c.in_ok-message.message (sym (rw c.new.ensures.start at c.in_ok-check_all.ensures)) (rw c.in_ok-fields.ensures at c.in_ok-message.ensures)
    (sym c.in_ok-has_one_form.ensures ∙ c.if-branch.false)
