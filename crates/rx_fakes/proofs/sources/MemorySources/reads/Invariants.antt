use Rattle.std.proofs.Common.{◌≡◌, ◌≤◌, filter, is_some, length, take}
use Rattle.rx_fakes.proofs.sources.MemorySources.reads.Given as goal

abbrev pub invariant-loop-answer : goal.invariant-loop-answer
invariant-loop-answer g l =
    (l.count ≤ l.answer-index) × (l.count ≡ length (filter (λ answer. is_some answer.bytes) (take l.answer-index l.self.given)))
