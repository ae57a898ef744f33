use Rattle.std.proofs.Common.{◌∙◌, [], sym, ap}
use Rattle.std.proofs.Common.{true≢false}
use Rattle.rx_base.specs.Paths.{is_below}
use Rattle.rx_base.proofs.SortedSearch.{below_found, below_none}
use Rattle.rx_base.proofs.sorted_paths.first_below.Goals as goal

pub returns-in-Some : goal.returns-in-Some
returns-in-Some c =
    let some = sym c.is_root.ensures ∙ c.if-is_root.false in
    let at = c.in-Some.ensures.lookup.3 in
    sym (below_found c.args.paths.now c.requires c.args.path.now c.first_not_before-at.result some c.first_not_before-at.ensures at.0
    (ap (λ other. is_below other c.args.path.now) (sym (at.1 [])) ∙ sym c.is_below.ensures ∙ c.if-is_below.true))

pub returns-in_default : goal.returns-in_default
returns-in_default c =
    let some = sym c.is_root.ensures ∙ c.if-is_root.false in
    let at = c.in-Some.ensures.lookup.3 in
    sym (below_none c.args.paths.now c.requires c.args.path.now c.first_not_before-at.result some c.first_not_before-at.ensures
    (λ lt. ap (λ other. is_below other c.args.path.now) (sym (at.1 [])) ∙ sym c.is_below.ensures ∙ c.if-is_below.false))

pub returns-in_default-2 : goal.returns-in_default-2
returns-in_default-2 c =
    let some = sym c.is_root.ensures ∙ c.if-is_root.false in
    sym (below_none c.args.paths.now c.requires c.args.path.now c.first_not_before-at.result some c.first_not_before-at.ensures (λ lt. absurd (true≢false (sym (rw c.in_default.is at (c.get.ensures.lookup.2 lt))))))
