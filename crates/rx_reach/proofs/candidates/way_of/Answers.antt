use Rattle.std.proofs.Common.{sym, ap, ◌∙◌, ◌++◌, List, [], subst}
use Rattle.rx_base.specs.Paths.{parts}
use Rattle.rx_reach.specs.declared.candidates.Step.{Step}
use Rattle.rx_reach.specs.Candidates.{AreShort, names_of, steps}
use Rattle.rx_reach.proofs.PassLemmas.{joins, name-leads, path-lacks, path-leads, short-right, way-front, way-is}
use Rattle.rx_reach.proofs.candidates.way_of.Goals as goal

pub pass-requires-clause-no_zero : goal.pass-requires-clause-no_zero
pass-requires-clause-no_zero c = rw c.as_str.ensures.text (path-lacks c.args.dir.now c.as_str.ensures.path)

pub pass-requires-clause-leads : goal.pass-requires-clause-leads
pass-requires-clause-leads c = rw (c.as_str.ensures.text, c.root.ensures) (path-leads c.args.dir.now c.as_str.ensures.path)

pub pass-requires-in-Some-clause-no_zero : goal.pass-requires-in-Some-clause-no_zero
pass-requires-in-Some-clause-no_zero c = (joins c.args.dir.now c.args.name.now c.requires.0 c.requires.1).no_zero

pub pass-requires-in-Some-clause-leads : goal.pass-requires-in-Some-clause-leads
pass-requires-in-Some-clause-leads c =
    let n = rw (c.as_str.ensures.text, c.root.ensures) at (rw c.in-Some.is at c.in_ok-there.ensures.names) in
    name-leads c.args.dir.now c.args.name.now c.requires.0 c.in-Some.there.at c.requires.1 n.1

pub returns-in-Some-2-clause-steps : goal.returns-in-Some-2-clause-steps
returns-in-Some-2-clause-steps c =
    let n = rw (c.as_str.ensures.text, c.root.ensures) at (rw c.in-Some.is at c.in_ok-there.ensures.names) in
    let first = rw (c.as_str.ensures.text, c.root.ensures, c.new.ensures.items) at (rw c.in-Some.is at c.in_ok-there.ensures.steps) in
    let second = rw c.in-Some-2.is at c.in_ok-whole-in-Some.ensures.steps in
    second ∙ ap (λ (front : List Step). front ++ steps (names_of c.in-Some.there.at) (parts c.args.name.now)) first ∙ sym (way-is c.args.dir.now c.args.name.now c.in-Some.there.at n.1)

pub returns-in-None-2-clause-long : goal.returns-in-None-2-clause-long
returns-in-None-2-clause-long c = λ _ h.
    let n = rw (c.as_str.ensures.text, c.root.ensures) at (rw c.in-Some.is at c.in_ok-there.ensures.names) in
    c.in_ok-whole-in-Some.ensures.long c.in-None-2.is
    (short-right (steps [] (parts c.args.dir.now)) _ (subst AreShort (way-is c.args.dir.now c.args.name.now c.in-Some.there.at n.1) h))

pub returns-in-None-clause-long : goal.returns-in-None-clause-long
returns-in-None-clause-long c = λ _ h.
    let long = rw (c.as_str.ensures.text, c.root.ensures) at (c.in_ok-there.ensures.long c.in-None.is) in
    long (way-front c.args.dir.now c.args.name.now c.as_str.ensures.path h)
