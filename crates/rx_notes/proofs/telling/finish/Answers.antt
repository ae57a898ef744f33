use Rattle.std.proofs.Common.{ap, List, ◌++◌, ◌∙◌, subst}
use Rattle.rx_report.specs.declared.notes.Note.{Note}
use Rattle.rx_report.specs.Told.{AreTold}
use Rattle.rx_report.proofs.Tellings.{told-then}
use Rattle.rx_notes.specs.Relay.{Sending}
use Rattle.rx_notes.proofs.Steps.{all-sent, merges}
use Rattle.rx_notes.proofs.telling.finish.Goals as goal

pub absorb-requires-clause-rule : goal.absorb-requires-clause-rule
absorb-requires-clause-rule g c =
    let j = c.join-reader.ensures in merges _ _ _ _ (ap (λ v. v.takes) j.2) (ap (λ v. v.sends) j.2)

pub returns : goal.returns
returns g c =
    let j = c.join-reader.ensures in
    let k = c.tell_rest.ensures.told in
    let all = all-sent _ _ _ _ j.1 k.0 (c.mark_end-pass.ensures.same ∙ c.sender.invariant.1) j.2 c.absorb.ensures.rule k.2 in
    subst (λ (l : List Note). AreTold g.T.Reporter.seen l c.args.telling.work.list.value.items c.tell_rest.result.items) (all ∙ ap (λ (s : Sending). s.sent) c.sender.view_is)
    (told-then _ _ _ _ _ _ j.3 k.1)
