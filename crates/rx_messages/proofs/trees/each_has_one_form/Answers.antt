use Rattle.std.proofs.Common.{ap, sym, ◌∙◌, arith}
use Rattle.std.proofs.lemmas.Bool.{ltb-false}
use Rattle.rx_messages.specs.Directories.{directory_has_one_form}
use Rattle.rx_messages.proofs.TreeLaws.{each_more, each_stops, directories_end}
use Rattle.rx_messages.proofs.trees.each_has_one_form.Goals as goal

pub returns-in_default : goal.returns-in_default
returns-in_default c =
    sym (directories_end c.args.pieces.now c.args.directories.now c.loop-i.i _ (ltb-false _ _ (sym c.in_default.ensures.lookup.0)) c.loop-i.invariant)

pub returns-then-not-branch : goal.returns-then-not-branch
returns-then-not-branch c =
    let found = c.in-Some.ensures.lookup.3 in
    sym (
    each_stops c.args.pieces.now c.args.directories.now c.loop-i.i _ c.in-Some.directory.now _ (omega arith) found.0 c.loop-i.invariant
    (ap (directory_has_one_form _) (sym (found.1 c.in-Some.directory.now)) ∙ sym c.in_ok-has_one_form.ensures ∙ c.if-not-branch.true)
    )

pub loop-i-preserved : goal.loop-i-preserved
loop-i-preserved c =
    let found = c.in-Some.ensures.lookup.3 in
    each_more c.args.pieces.now c.args.directories.now c.loop-i.i _ c.in-Some.directory.now _ (omega arith) found.0 c.loop-i.invariant
    (ap (directory_has_one_form _) (sym (found.1 c.in-Some.directory.now)) ∙ sym c.in_ok-has_one_form.ensures ∙ c.if-not-branch.false)
