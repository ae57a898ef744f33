use Rattle.std.proofs.Common.{◌≡◌, take}
use Rattle.rx_local.specs.Limits.{counted_bytes}
use Rattle.rx_local.proofs.limits.count_bytes.Given as goal

-- the files up to this one are counted
abbrev pub invariant-loop-file : goal.invariant-loop-file
invariant-loop-file l = record { total_is : l.total ≡ counted_bytes (take l.file-index l.files) }
