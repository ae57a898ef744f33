use Rattle.std.proofs.Common.{refl, sym, ap, Some, ◌∙◌}
use Rattle.rx_reach.specs.Sights.{answer_of}
use Rattle.rx_reach.proofs.SightLemmas.{changed-at, notes-again}
use Rattle.rx_reach.proofs.sights.Sights.note.Goals as goal

pub returns-then-not-is_same-clause-changed : goal.returns-then-not-is_same-clause-changed
returns-then-not-is_same-clause-changed c = λ bytes before now. rw (c.from.ensures, c.from-then-not-is_same.ensures)
    (changed-at c.args.self.now c.args.path.now c.in_ok-try_clone.field-0 c.in-Some.first.now c.args.look bytes before now c.in_ok-try_clone.ensures
    (rw (sym c.self.view_is) c.in-Some.ensures.value) (λ same. absurd (cc (c.if-not-is_same.ensures.1 same))))

pub returns-in-Some-clause-noted : goal.returns-in-Some-clause-noted
returns-in-Some-clause-noted c = λ bytes.
    notes-again _ (answer_of c.args.path.now c.args.look bytes)
    (rw (sym c.self.view_is) (sym c.in-Some.ensures.value ∙ ap (λ look. Some look) (c.if-not-is_same.ensures.0 refl)))
