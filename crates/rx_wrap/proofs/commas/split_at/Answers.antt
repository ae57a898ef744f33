use Rattle.std.proofs.Common.{◌∙◌, ◌==◌, arith, length}
use Rattle.std.specs.List.{slice_split}
use Rattle.std.proofs.lemmas.List.{length_push}
use Rattle.std.proofs.lemmas.Iterator.Consumers.{YieldsList-turn, YieldsList-end}
use Rattle.std.proofs.lemmas.Iterator.Splits.{YieldsList-from_str_split}
use Rattle.rx_base.proofs.PathAbove.{texts-more, texts-all}
use Rattle.rx_wrap.proofs.commas.split_at.Goals as goal

pub loop-part-preserved : goal.loop-part-preserved
loop-part-preserved c =
    let t = YieldsList-turn (YieldsList-from_str_split c.args.separator c.args.text.now c.requires (cc) (cc) (cc)) c.loop-part.yielded _ c.loop-part.yielded_by _ _ c.in-Some.part c.in-Some.is c.next.ensures.steps in
    rw length_push (texts-more c.loop-part.found.items c.in-Some.part (slice_split (λ b. b == c.args.separator) c.args.text.now) (length c.loop-part.yielded) c.loop-part.invariant t _ c.in_ok-push.ensures.items)

pub returns : goal.returns
returns c =
    let t = YieldsList-end (YieldsList-from_str_split c.args.separator c.args.text.now c.requires (cc) (cc) (cc)) c.loop-part.yielded _ c.loop-part.yielded_by _ _ c.in-None.is c.next.ensures.steps in
    c.loop-part.invariant ∙ texts-all (slice_split (λ b. b == c.args.separator) c.args.text.now) (length c.loop-part.yielded) (omega (arith, t.1))
