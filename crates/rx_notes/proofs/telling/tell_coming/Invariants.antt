use Rattle.std.proofs.Common.{◌≡◌, [], List, true, false}
use Rattle.crossbeam_queue.specs.Passes.{IsPassOf, view}
use Rattle.rx_report.specs.Told.{AreTold}
use Rattle.rx_report.specs.declared.notes.Note.{Note}
use Rattle.rx_notes.specs.Relay.{part}
use Rattle.rx_notes.proofs.telling.tell_coming.Given as goal

abbrev pub invariant-loop : goal.invariant-loop
invariant-loop g l =
    IsPassOf l.line.queue l.pass × (told : List Note) × (view l.pass ≡ part false true [] told) × AreTold g.T.Reporter.seen told l.fn.list.items l.list.items
