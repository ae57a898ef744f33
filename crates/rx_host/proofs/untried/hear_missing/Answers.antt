use Rattle.std.proofs.Common.{refl}
use Rattle.rx_host.proofs.untried.hear_missing.Goals as goal

pub returns-then-is_made_again-clause-stays : goal.returns-then-is_made_again-clause-stays
returns-then-is_made_again-clause-stays g c =
    let first = c.hear_missing-answer.ensures.stays in
    let second = c.hear_missing.ensures.stays in
    λ blob operation dialect. record {
      triples = λ digest command outcome vouched. (second blob operation dialect).triples digest command outcome ((first blob operation dialect).triples digest command outcome vouched);
      still_genuine = λ genuine. (second blob operation dialect).still_genuine ((first blob operation dialect).still_genuine genuine);
      same_dialect = refl;
    }
