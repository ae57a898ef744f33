use Rattle.std.proofs.Common.{◌≡◌, ◌++◌, drop, filter, map}
use Rattle.rx_cppflags.specs.Made.{object_of}
use Rattle.rx_cppflags.specs.Meanings.{names_source}
use Rattle.rx_cppflags.proofs.made.objects_of.Given as goal

abbrev pub invariant-loop-piece : goal.invariant-loop-piece
invariant-loop-piece l =
    l.texts ++ map object_of (filter (λ s. names_source s.meaning) (drop l.piece-index l.pieces))
    ≡ map object_of (filter (λ s. names_source s.meaning) l.pieces)
