use Rattle.std.proofs.Common.{◌≡◌, drop}
use Rattle.std.specs.List.{list_all}
use Rattle.rx_messages.specs.Names.{entry_holds}
use Rattle.rx_messages.proofs.names.each_holds.Given as goal

abbrev pub invariant-loop-entry : goal.invariant-loop-entry
invariant-loop-entry g l =
    list_all (λ entry. entry_holds g.T.Entry.name g.T.Entry.is_whole entry) l.entries
    ≡ list_all (λ entry. entry_holds g.T.Entry.name g.T.Entry.is_whole entry) (drop l.entry-index l.entries)
