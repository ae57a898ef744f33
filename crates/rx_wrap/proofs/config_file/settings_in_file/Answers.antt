use Rattle.std.proofs.Common.{refl, sym, ◌∙◌, lit<, arith, length}
use Rattle.std.proofs.lemmas.Result.{err_from_is_err_and}
use Rattle.std.proofs.lemmas.List.{length_push, drop_all}
use Rattle.std.proofs.lemmas.Iterator.Consumers.{YieldsList-turn, YieldsList-end}
use Rattle.std.proofs.lemmas.Iterator.Splits.{YieldsList-from_str_split}
use Rattle.rx_base.proofs.ResultLemmas.{bind_err}
use Rattle.rx_wrap.specs.declared.usage_fault.UsageFault.TheVariants.{NoMemory}
use Rattle.rx_wrap.specs.ConfigFile.{lines, settings_in_lines}
use Rattle.rx_wrap.proofs.LineLemmas.{lines-drop}
use Rattle.rx_wrap.proofs.config_file.settings_in_file.Goals as goal

pub returns-in_err-settings : goal.returns-in_err-settings
returns-in_err-settings c =
    let t = YieldsList-turn (YieldsList-from_str_split 10 c.args.text.now (lit< tt) (cc) (cc) (cc)) c.loop-line.yielded _ c.loop-line.yielded_by _ _ c.in-Some.line c.in-Some.is c.next.ensures.steps in
    let step = lines-drop (lines c.args.text.now) c.loop-line.settings.items (length c.loop-line.yielded) c.in-Some.line.now t in
    let p = err_from_is_err_and c.from_residual.result c.from_residual.ensures.1 in
    rw (p.1, p.2) (λ other. sym (sym step ∙ c.loop-line.invariant) ∙ bind_err NoMemory _ _ _ c.in_err-settings.ensures other)

pub loop-line-preserved : goal.loop-line-preserved
loop-line-preserved c =
    let t = YieldsList-turn (YieldsList-from_str_split 10 c.args.text.now (lit< tt) (cc) (cc) (cc)) c.loop-line.yielded _ c.loop-line.yielded_by _ _ c.in-Some.line c.in-Some.is c.next.ensures.steps in
    let step = lines-drop (lines c.args.text.now) c.loop-line.settings.items (length c.loop-line.yielded) c.in-Some.line.now t in
    rw length_push (sym (rw c.in_ok-settings.ensures at step) ∙ c.loop-line.invariant)

pub returns : goal.returns
unfolding settings_in_lines
returns c =
    let t = YieldsList-end (YieldsList-from_str_split 10 c.args.text.now (lit< tt) (cc) (cc) (cc)) c.loop-line.yielded _ c.loop-line.yielded_by _ _ c.in-None.is c.next.ensures.steps in
    sym c.loop-line.invariant ∙ rw (drop_all (length c.loop-line.yielded) (lines c.args.text.now) (omega (arith, t.1))) refl
