use Rattle.std.proofs.Common.{◌∙◌, ap, set, subst, sym}
use Rattle.std.specs.Result.{result_ok}
use Rattle.rx_base.proofs.SortedSearch.{found}
use Rattle.rx_results.proofs.MatchLemmas.{matched-at, matched-nowhere, matched-refused, AreOutputsOf-matched}
use Rattle.rx_results.specs.ResultOutputs.{with_one_more, AreOutputsOf}
use Rattle.rx_results.proofs.matching.match_path.Goals as goal

pub returns-in_default-clause-matched : goal.returns-in_default-clause-matched
returns-in_default-clause-matched c =
    matched-refused c.args.command.now c.args.path.now c.args.file c.args.outputs.now.items
    (sym c.in_ok-path.ensures ∙ c.in_default.is)

pub returns-in-Ok-clause-matched : goal.returns-in-Ok-clause-matched
returns-in-Ok-clause-matched c =
    let at = rw c.as_slice.ensures at (found c.as_slice.result.now
    (rw c.as_slice.ensures c.requires.sorted) c.in-Some.path c.binary_search.result
    c.binary_search.ensures.bound c.binary_search.ensures.position) in
    let changed = c.add.ensures ∙ ap (with_one_more c.args.file) c.index_mut.ensures.value in
    ap (set c.args.outputs.now.items c.in-Ok.at) changed
    ∙ matched-at c.args.command.now c.args.path.now c.in-Some.path c.args.file
    c.args.outputs.now.items c.in-Ok.at c.index_mut.result.now c.requires.outputs
    c.requires.sorted (sym c.in_ok-path.ensures ∙ c.in-Some.is) (sym at ∙ ap result_ok c.in-Ok.is)

pub returns-in-Ok-clause-outputs : goal.returns-in-Ok-clause-outputs
returns-in-Ok-clause-outputs c =
    subst (AreOutputsOf c.args.command.now) (sym (returns-in-Ok-clause-matched c))
    (AreOutputsOf-matched c.args.command.now c.args.path.now c.args.file
    c.args.outputs.now.items c.requires.outputs)

pub returns-in_default-binary_search-clause-matched :
    goal.returns-in_default-binary_search-clause-matched
returns-in_default-binary_search-clause-matched c =
    let at = rw c.as_slice.ensures at (found c.as_slice.result.now
    (rw c.as_slice.ensures c.requires.sorted) c.in-Some.path c.binary_search.result
    c.binary_search.ensures.bound c.binary_search.ensures.position) in
    matched-nowhere c.args.command.now c.args.path.now c.in-Some.path c.args.file
    c.args.outputs.now.items c.requires.outputs
    (sym c.in_ok-path.ensures ∙ c.in-Some.is) (sym at ∙ ap result_ok c.in_default-binary_search.is)
