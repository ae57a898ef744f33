use Rattle.std.proofs.Common.{List, subst, sym}
use Rattle.std.proofs.lemmas.List.{take_more}
use Rattle.rx_report.specs.Told.{AreTold}
use Rattle.rx_report.specs.declared.notes.Note.{Note}
use Rattle.rx_report.proofs.Tellings.{nothing-told, told-then}
use Rattle.rx_report.proofs.reporters.tell_all.Goals as goal

pub loop-note-init : goal.loop-note-init
loop-note-init g c = nothing-told _ _

pub loop-note-preserved : goal.loop-note-preserved
loop-note-preserved g c =
    subst (λ (l : List Note). AreTold g.T.Reporter.seen l c.args.list.now.items c.tell.new.list.items) (sym (take_more c.args.told.now c.loop-note.note-index _ c.loop-note-test.true))
    (told-then g.T.Reporter.seen _ _ _ _ _ c.loop-note.invariant c.tell.ensures)
