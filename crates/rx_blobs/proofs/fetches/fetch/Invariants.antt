use Rattle.std.proofs.Common.{◌+◌, ◌*◌, Bool, true, false, ℕ, length}
use Rattle.rx_blobs.specs.Fetches.{IsFetching}
use Rattle.rx_blobs.proofs.fetches.fetch.Given as goal

-- a farm without batches is asked for a batch once
abbrev left_by : Bool → ℕ
left_by true = 0
left_by false = 1

abbrev pub invariant-loop-first : goal.invariant-loop-first
invariant-loop-first g l = IsFetching g.W.World g.C.Caller l.fn.caller l.caller l.fn.digests l.rest l.all.items

abbrev pub decreases-loop-first : goal.decreases-loop-first
decreases-loop-first g l = 2 * length l.rest + left_by l.by_stream
