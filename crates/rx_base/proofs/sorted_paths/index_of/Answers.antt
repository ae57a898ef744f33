use Rattle.std.proofs.Common.{◌∙◌, rules}
use Rattle.std.specs.Ordering.{nat_cmp}
use Rattle.std.specs.Cmp.Lexicographic.{slice_cmp}
use Rattle.std.proofs.lemmas.Fn.{always_returns_same}
use Rattle.rx_base.proofs.SortedSearch.{found}
use Rattle.rx_base.proofs.sorted_paths.index_of.Goals as goal

pub returns : goal.returns
returns c =
    c.ok.ensures.value
    ∙ found c.args.paths.now c.requires c.args.text.now c.binary_search_by.result c.binary_search_by.ensures.bound
    (c.binary_search_by.ensures.position (λ path. slice_cmp nat_cmp path c.args.text.now) (always_returns_same _ _ _ (λ a r f k. search rules)))
