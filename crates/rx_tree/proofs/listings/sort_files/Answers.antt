use Rattle.std.proofs.Common.{◌≡◌, rules}
use Rattle.std.specs.Ordering.{is_lt}
use Rattle.std.proofs.lemmas.Cmp.{nat_list_cmp_total}
use Rattle.std.proofs.lemmas.List.Sorted.{answers_always, ranks_by}
use Rattle.rx_tree.specs.declared.listings.TreeFile.{TreeFile}
use Rattle.rx_tree.specs.Lists.{by_path}
use Rattle.rx_tree.proofs.listings.sort_files.Goals as goal

pub returns-clause-sorted : goal.returns-clause-sorted
returns-clause-sorted c =
    rw c.from_vec.ensures
    (c.in_ok-sort_by.ensures.sorted (λ (x y : TreeFile). is_lt (by_path x y)) (ranks_by nat_list_cmp_total (λ (file : TreeFile). file.path))
    (answers_always _ (λ a r. is_lt r ≡ is_lt (by_path a.0.now a.1.0.now)) _ (λ f a r f' called. search rules)))
