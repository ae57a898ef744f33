use Rattle.std.proofs.Common.{◌≡◌, length, drop}
use Rattle.rx_base.specs.Texts.{texts}
use Rattle.rx_base.specs.Paths.{parts, with_parts, with_text}
use Rattle.rx_base.proofs.path_text.walk.Given as goal

abbrev pub invariant-loop-part : goal.invariant-loop-part
invariant-loop-part l = with_parts (texts l.names.items) (drop (length l.yielded) (parts l.text)) ≡ with_text (texts l.fn.names.items) l.text
