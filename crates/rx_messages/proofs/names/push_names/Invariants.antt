use Rattle.std.proofs.Common.{◌≡◌, ◌++◌, take, map}
use Rattle.rx_messages.proofs.names.push_names.Given as goal

abbrev pub invariant-loop-entry : goal.invariant-loop-entry
invariant-loop-entry g l = l.names.items ≡ l.fn.names.items ++ map g.T.Entry.name (take l.entry-index l.entries)
