use Rattle.std.proofs.Common.{refl}
use Rattle.rx_world.specs.declared.versions.Dialect.TheVariants.{New}
use Rattle.rx_grpc.proofs.EachAnswer.{each-ok, each-some}
use Rattle.rx_host.proofs.untried.hear_result.Goals as goal

pub returns-then-is_made_again-clause-agrees : goal.returns-then-is_made_again-clause-agrees
returns-then-is_made_again-clause-agrees g c =
    let first = c.hear_result-answer.ensures.stays in
    each-ok _ _ c.hear_result.result (λ found h. each-some _ _ found (λ r honest blob operation command outcome vouched. honest blob operation command outcome ((first blob operation New).triples _ command outcome vouched)) h) c.hear_result.ensures.agrees

pub returns-then-is_made_again-clause-stays : goal.returns-then-is_made_again-clause-stays
returns-then-is_made_again-clause-stays g c =
    let first = c.hear_result-answer.ensures.stays in
    let second = c.hear_result.ensures.stays in
    λ blob operation dialect. record {
      triples = λ digest command outcome vouched. (second blob operation dialect).triples digest command outcome ((first blob operation dialect).triples digest command outcome vouched);
      still_genuine = λ genuine. (second blob operation dialect).still_genuine ((first blob operation dialect).still_genuine genuine);
      same_dialect = refl;
    }
