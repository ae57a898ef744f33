use Rattle.std.proofs.Common.{◌≡◌, List}
use Rattle.crossbeam_queue.specs.Passes.{IsPassOf, view}
use Rattle.rx_report.specs.Told.{AreTold}
use Rattle.rx_report.specs.declared.notes.Note.{Note}
use Rattle.rx_notes.specs.Relay.{with_more}
use Rattle.rx_notes.proofs.telling.tell_rest.Given as goal

abbrev pub invariant-loop : goal.invariant-loop
invariant-loop g l =
    IsPassOf l.line.queue l.pass × (more : List Note) × (view l.pass ≡ with_more (view l.fn.pass) more) × AreTold g.T.Reporter.seen more l.fn.list.items l.list.items
