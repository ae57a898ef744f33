use Rattle.std.proofs.Common.{◌≡◌}
use Rattle.rx_exec_messages.specs.Scripts.{texts_of}
use Rattle.rx_exec_messages.proofs.script_answers.texts_of.Given as goal

abbrev pub invariant-loop-blob : goal.invariant-loop-blob
invariant-loop-blob l = l.texts ≡ texts_of l.yielded
