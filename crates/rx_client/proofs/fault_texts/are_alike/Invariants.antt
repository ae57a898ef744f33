use Rattle.std.proofs.Common.{◌≡◌, drop}
use Rattle.std.specs.List.{list_all}
use Rattle.std.specs.Str.{bytes_eq}
use Rattle.rx_client.proofs.fault_texts.are_alike.Given as goal

abbrev pub invariant-loop-other : goal.invariant-loop-other
invariant-loop-other l = list_all (bytes_eq l.text) (drop l.other-index l.others) ≡ list_all (bytes_eq l.text) l.others
