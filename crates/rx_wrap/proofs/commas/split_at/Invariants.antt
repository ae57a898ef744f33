use Rattle.std.proofs.Common.{◌≡◌, ◌==◌, length, take}
use Rattle.std.specs.List.{slice_split}
use Rattle.rx_base.specs.Texts.{texts}
use Rattle.rx_wrap.proofs.commas.split_at.Given as goal

abbrev pub invariant-loop-part : goal.invariant-loop-part
invariant-loop-part l = texts l.found.items ≡ take (length l.yielded) (slice_split (λ b. b == l.fn.separator) l.text)
