use Rattle.std.proofs.Common.{◌∙◌, lit<, arith, length}
use Rattle.std.proofs.lemmas.List.{length_push}
use Rattle.std.proofs.lemmas.Iterator.Consumers.{YieldsList-turn, YieldsList-end}
use Rattle.std.proofs.lemmas.Iterator.Splits.{YieldsList-from_str_split}
use Rattle.rx_base.specs.Paths.{parts}
use Rattle.rx_base.proofs.PathAbove.{texts-more, texts-all}
use Rattle.rx_tree.proofs.NamesLemmas.{names_of-some}
use Rattle.rx_tree.proofs.entries.split_path.Goals as goal

pub loop-name-preserved : goal.loop-name-preserved
loop-name-preserved c =
    let t = YieldsList-turn (YieldsList-from_str_split 47 c.args.path.now (lit< tt) (cc) (cc) (cc)) c.loop-name.yielded _ c.loop-name.yielded_by _ _ c.in-Some.name c.in-Some.is c.next.ensures.steps in
    rw length_push (texts-more c.loop-name.names.items c.in-Some.name (parts c.args.path.now) (length c.loop-name.yielded) c.loop-name.invariant t _ c.in_ok-push.ensures.items)

pub returns-clause-names : goal.returns-clause-names
returns-clause-names c =
    let t = YieldsList-end (YieldsList-from_str_split 47 c.args.path.now (lit< tt) (cc) (cc) (cc)) c.loop-name.yielded _ c.loop-name.yielded_by _ _ c.in-None.is c.next.ensures.steps in
    c.loop-name.invariant ∙ texts-all (parts c.args.path.now) (length c.loop-name.yielded) (omega (arith, t.1)) ∙ names_of-some c.args.path.now c.is_root.result c.is_root.ensures c.if-is_root.false
