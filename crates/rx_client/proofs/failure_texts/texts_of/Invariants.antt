use Rattle.std.proofs.Common.{◌≡◌, map, take}
use Rattle.rx_client.specs.FailureTexts.{failure_text}
use Rattle.rx_client.proofs.failure_texts.texts_of.Given as goal

abbrev pub invariant-loop-failure : goal.invariant-loop-failure
invariant-loop-failure l = l.texts.items ≡ map failure_text (take l.failure-index l.failures)
