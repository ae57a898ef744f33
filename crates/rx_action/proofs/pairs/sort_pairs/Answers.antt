use Rattle.std.proofs.Common.{◌≡◌, rules}
use Rattle.std.specs.Ordering.{is_lt}
use Rattle.std.proofs.lemmas.List.Sorted.{answers_always, ranks_by}
use Rattle.rx_world.specs.declared.commands.Pair.{Pair}
use Rattle.rx_action.specs.Pairs.{by_name}
use Rattle.rx_action.proofs.InOrder.{by_name_same, by_name_total, is_in_order}
use Rattle.rx_action.proofs.pairs.sort_pairs.Goals as goal

pub returns : goal.returns
returns c =
    rw (← c.in_ok-copies.ensures) rw (← c.into_vec-sorted.ensures) (is_in_order by_name_total by_name_same _ _ c.in_ok-sort_by.ensures.permutation
    (c.in_ok-sort_by.ensures.sorted (λ (x y : Pair). is_lt (by_name x y)) (ranks_by by_name_total (λ (pair : Pair). pair))
    (answers_always _ (λ a r. is_lt r ≡ is_lt (by_name a.0.now a.1.0.now)) _ (λ f a r f' called. search rules))))
