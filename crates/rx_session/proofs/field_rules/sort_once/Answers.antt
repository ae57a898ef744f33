use Rattle.rx_session.proofs.NameLemmas.{seen_once}
use Rattle.rx_session.proofs.field_rules.sort_once.Goals as goal

pub returns : goal.returns
returns c = seen_once (λ text. text.now) _ _ _ c.in_ok-sort.ensures.permutation c.in_ok-sort.ensures.sorted c.dedup.ensures.filtered
