use Rattle.std.proofs.Common.{refl, sym, ◌∙◌, lit<, arith, length}
use Rattle.std.proofs.lemmas.Result.{err_from_is_err_and}
use Rattle.std.proofs.lemmas.List.{length_push, drop_all}
use Rattle.std.proofs.lemmas.Iterator.Consumers.{YieldsList-turn, YieldsList-end}
use Rattle.std.proofs.lemmas.Iterator.Splits.{YieldsList-from_str_split}
use Rattle.rx_base.specs.declared.path_fault.PathFault.TheVariants.{NoMemory}
use Rattle.rx_base.specs.Texts.{texts}
use Rattle.rx_base.specs.Paths.{parts, with_parts, with_text}
use Rattle.rx_base.proofs.PathLemmas.{with_parts-drop}
use Rattle.rx_base.proofs.ResultLemmas.{bind_err}
use Rattle.rx_base.proofs.path_text.walk.Goals as goal

pub loop-part-init : goal.loop-part-init
unfolding with_text
loop-part-init c = refl

pub returns-in_err-names : goal.returns-in_err-names
returns-in_err-names c =
    let t = YieldsList-turn (YieldsList-from_str_split 47 c.args.text.now (lit< tt) (cc) (cc) (cc)) c.loop-part.yielded _ c.loop-part.yielded_by _ _ c.in-Some.part c.in-Some.is c.next.ensures.steps in
    let step = with_parts-drop (parts c.args.text.now) (texts c.loop-part.names.items) (length c.loop-part.yielded) c.in-Some.part.now t in
    let p = err_from_is_err_and c.from_residual.result c.from_residual.ensures.1 in
    rw (p.1, p.2) (λ other. sym (sym step ∙ c.loop-part.invariant) ∙ bind_err NoMemory _ _ _ c.in_err-names.ensures other)

pub loop-part-preserved : goal.loop-part-preserved
loop-part-preserved c =
    let t = YieldsList-turn (YieldsList-from_str_split 47 c.args.text.now (lit< tt) (cc) (cc) (cc)) c.loop-part.yielded _ c.loop-part.yielded_by _ _ c.in-Some.part c.in-Some.is c.next.ensures.steps in
    let step = with_parts-drop (parts c.args.text.now) (texts c.loop-part.names.items) (length c.loop-part.yielded) c.in-Some.part.now t in
    rw length_push (sym (rw c.in_ok-names.ensures at step) ∙ c.loop-part.invariant)

pub returns : goal.returns
unfolding with_parts
returns c =
    let t = YieldsList-end (YieldsList-from_str_split 47 c.args.text.now (lit< tt) (cc) (cc) (cc)) c.loop-part.yielded _ c.loop-part.yielded_by _ _ c.in-None.is c.next.ensures.steps in
    sym c.loop-part.invariant ∙ rw (drop_all (length c.loop-part.yielded) (parts c.args.text.now) (omega (arith, t.1))) refl
