use Rattle.std.proofs.Common.{rules, false, refl, inr, ap, sym, ◌∙◌}
use Rattle.rx_grpc.specs.Answer.{unary, after_answer}
use Rattle.rx_grpc.proofs.ItemLemmas.{unary_look}
use Rattle.rx_grpc.proofs.TalkLemmas.{carries_done, carries_trans, talking_starts, talking_judged, talking_fills, judged_breaks, judged_concludes, judged_over}
use Rattle.rx_grpc.proofs.TextLemmas.{answer_leaves, on_done, text_heard}
use Rattle.rx_grpc.proofs.talk.answer_of.Goals as goal

pub loop-opened-init : goal.loop-opened-init
loop-opened-init g c = talking_starts unary _ (g.L.Link.rule c.args.link.now) _ _ c.args.opened.now _ (g.B.Body.messages c.args.body.now) c.requires.opened c.requires.piece (ap (unary false) c.requires.new)

pub returns-in-Some-clause-fault : goal.returns-in-Some-clause-fault
returns-in-Some-clause-fault g c =
    judged_breaks unary unary 0 _ _ _ (g.L.Link.rule c.take_turn.new.link) _ _ c.take_turn.new.opened c.unary-shown.result c.in-Some.done _ unary_look c.in_ok-take_turn.ensures.opened (c.in_ok-take_turn.ensures.place ∙ (c.loop-opened.invariant.place_is ∙ c.requires.place)) (c.in_ok-take_turn.ensures.id ∙ c.loop-opened.invariant.same) (c.unary-shown.ensures.answer ∙ ap (λ b. unary b c.take_turn.new.opened.call.answers) c.is_end.ensures) (sym c.answer_or_fault.ensures ∙ c.in-Some.is)

pub returns-in-Some-clause-over : goal.returns-in-Some-clause-over
returns-in-Some-clause-over g c =
    judged_over unary unary 0 _ (g.L.Link.rule c.take_turn.new.link) _ _ c.take_turn.new.opened c.unary-shown.result c.in-Some.done _ unary_look c.in_ok-take_turn.ensures.opened (c.in_ok-take_turn.ensures.place ∙ (c.loop-opened.invariant.place_is ∙ c.requires.place)) (c.in_ok-take_turn.ensures.id ∙ c.loop-opened.invariant.same) (c.unary-shown.ensures.answer ∙ ap (λ b. unary b c.take_turn.new.opened.call.answers) c.is_end.ensures) (sym c.answer_or_fault.ensures ∙ c.in-Some.is)

pub loop-opened-preserved : goal.loop-opened-preserved
loop-opened-preserved g c =
    talking_judged unary unary 0 _ _ _ (g.L.Link.rule c.args.link.now) (g.L.Link.rule c.loop-opened.link) (g.L.Link.rule c.take_turn.new.link) _ _ _ _ _ c.args.opened.now c.loop-opened.opened c.take_turn.new.opened _ c.unary-shown.result _ _ _ _ _ (g.B.Body.messages c.take_turn.new.body) unary_look c.loop-opened.invariant c.in_ok-take_turn.ensures.opened (c.unary-shown.ensures.answer ∙ ap (λ b. unary b c.take_turn.new.opened.call.answers) c.is_end.ensures) (sym c.answer_or_fault.ensures ∙ c.in_default.is) (λ none. record { id = refl; answers = c.unary-shown.ensures.after ∙ ap (λ x. after_answer x c.take_turn.new.opened.call.answers) none; place = refl; away = refl; request = refl; room = refl; came = refl }) c.in_ok-take_turn.ensures.carries c.in_ok-take_turn.ensures.id c.in_ok-take_turn.ensures.place c.in_ok-take_turn.ensures.rule c.in_ok-take_turn.ensures.cause.later c.in_ok-take_turn.ensures.asks

pub returns-clause-fault : goal.returns-clause-fault
returns-clause-fault g c = inr (refl, talking_fills unary unary 0 _ _ (g.L.Link.rule c.args.link.now) (g.L.Link.rule c.loop-opened.link) _ _ _ c.args.opened.now c.loop-opened.opened _ _ _ _ unary_look c.requires.place c.loop-opened.invariant (search rules))

pub returns-in-Some-clause-carries : goal.returns-in-Some-clause-carries
returns-in-Some-clause-carries g c =
    carries_done _ _ _ _ _ _ c.in-Some.done (carries_trans _ _ _ _ _ _ _ _ _ c.loop-opened.invariant.carries c.in_ok-take_turn.ensures.carries)

pub returns-in-Some-clause-asked : goal.returns-in-Some-clause-asked
returns-in-Some-clause-asked g c =
    judged_concludes unary unary 0 (g.L.Link.wire c.args.link.now) _ (g.L.Link.rule c.args.link.now) (g.L.Link.rule c.take_turn.new.link) _ _ _ c.args.opened.now c.take_turn.new.opened c.unary-shown.result c.in-Some.done (g.B.Body.messages c.args.body.now) (g.B.Body.messages c.take_turn.new.body) unary_look c.in_ok-take_turn.ensures.opened (c.in_ok-take_turn.ensures.place ∙ (c.loop-opened.invariant.place_is ∙ c.requires.place)) (c.in_ok-take_turn.ensures.id ∙ c.loop-opened.invariant.same) (c.unary-shown.ensures.answer ∙ ap (λ b. unary b c.take_turn.new.opened.call.answers) c.is_end.ensures) (sym c.answer_or_fault.ensures ∙ c.in-Some.is) (λ fields messages given a. c.in_ok-take_turn.ensures.asks fields messages given (c.loop-opened.invariant.asks fields messages given a))

pub returns-in-Some-clause-text : goal.returns-in-Some-clause-text
returns-in-Some-clause-text g c =
    let left = answer_leaves c.unary-shown.result c.take_turn.new.opened.call.answers in
    on_done c.in-Some.done (text_heard _ (g.L.Link.rule c.take_turn.new.link) _ _ c.take_turn.new.opened _ _ _ c.in_ok-take_turn.ensures.opened refl (ap (λ h. h.status_text) c.unary-shown.ensures.after ∙ left.0) (ap (λ h. h.details) c.unary-shown.ensures.after ∙ left.1))
