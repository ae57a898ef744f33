use Rattle.rx_session.proofs.DistinctLemmas.{distinct_seen}
use Rattle.rx_session.proofs.field_rules.are_distinct.Goals as goal

pub returns : goal.returns
returns c = rw (c.as_slice.ensures.value, c.as_slice-count.ensures.value) (distinct_seen (λ text. text.now) _ _ c.in_ok-once.ensures)
