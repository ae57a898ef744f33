use Rattle.std.proofs.Common.{◌≡◌, take, string_bytes}
use Rattle.rx_base.specs.Texts.{texts}
use Rattle.rx_base.specs.Paths.{joined}
use Rattle.rx_base.proofs.path_text.join_names.Given as goal

abbrev pub invariant-loop-i : goal.invariant-loop-i
invariant-loop-i l = string_bytes l.text ≡ joined (texts (take l.i l.names))
