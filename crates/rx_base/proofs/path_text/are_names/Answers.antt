use Rattle.std.proofs.Common.{lit<, arith, length}
use Rattle.std.proofs.lemmas.List.{length_push}
use Rattle.std.proofs.lemmas.Iterator.Consumers.{YieldsList-turn, YieldsList-end}
use Rattle.std.proofs.lemmas.Iterator.Splits.{YieldsList-from_str_split}
use Rattle.rx_base.specs.Paths.{parts}
use Rattle.rx_base.proofs.PathAbove.{texts-all}
use Rattle.rx_base.proofs.PathNames.{names-more, part-lacks}
use Rattle.rx_base.proofs.PathParts.{parts-lack, parts-no_slash}
use Rattle.rx_base.proofs.path_text.are_names.Goals as goal

pub is_name-requires-clause-no_slash : goal.is_name-requires-clause-no_slash
is_name-requires-clause-no_slash c =
    let t = YieldsList-turn (YieldsList-from_str_split 47 c.args.text.now (lit< tt) (cc) (cc) (cc)) c.loop-part.yielded _ c.loop-part.yielded_by _ _ c.in-Some.part c.in-Some.is c.next.ensures.steps in
    part-lacks 47 (parts c.args.text.now) (length c.loop-part.yielded) c.in-Some.part.now t (parts-no_slash c.args.text.now)

pub is_name-requires-clause-no_zero : goal.is_name-requires-clause-no_zero
is_name-requires-clause-no_zero c =
    let t = YieldsList-turn (YieldsList-from_str_split 47 c.args.text.now (lit< tt) (cc) (cc) (cc)) c.loop-part.yielded _ c.loop-part.yielded_by _ _ c.in-Some.part c.in-Some.is c.next.ensures.steps in
    part-lacks 0 (parts c.args.text.now) (length c.loop-part.yielded) c.in-Some.part.now t (parts-lack 0 c.args.text.now c.requires)

pub loop-part-preserved : goal.loop-part-preserved
loop-part-preserved c =
    let t = YieldsList-turn (YieldsList-from_str_split 47 c.args.text.now (lit< tt) (cc) (cc) (cc)) c.loop-part.yielded _ c.loop-part.yielded_by _ _ c.in-Some.part c.in-Some.is c.next.ensures.steps in
    rw length_push (names-more (parts c.args.text.now) (length c.loop-part.yielded) c.in-Some.part.now t c.loop-part.invariant (c.is_name.ensures c.if-not-is_name.false))

pub returns : goal.returns
returns c =
    let t = YieldsList-end (YieldsList-from_str_split 47 c.args.text.now (lit< tt) (cc) (cc) (cc)) c.loop-part.yielded _ c.loop-part.yielded_by _ _ c.in-None.is c.next.ensures.steps in
    λ _. rw (texts-all (parts c.args.text.now) (length c.loop-part.yielded) (omega (arith, t.1))) at c.loop-part.invariant
