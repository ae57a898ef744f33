use Rattle.std.proofs.Common.{rules, [], refl, inr, ap, sym, ◌∙◌}
use Rattle.rx_grpc.specs.Item.{item, item_behind, after_item, place_after}
use Rattle.rx_grpc.proofs.ItemLemmas.{item_look}
use Rattle.rx_grpc.proofs.TalkLemmas.{carries_trans, talking_starts, talking_judged, talking_fills, judged_breaks, judged_concludes}
use Rattle.rx_grpc.proofs.HandLemmas.{hands_asks, hands_item}
use Rattle.rx_grpc.proofs.TextLemmas.{item_leaves, on_done, text_heard}
use Rattle.rx_grpc.proofs.talk.item_behind_turns.Goals as goal

pub loop-opened-init : goal.loop-opened-init
loop-opened-init g c = talking_starts item _ (g.L.Link.rule c.args.link.now) _ _ c.args.opened.now _ [] c.requires.opened c.requires.piece c.requires.none

pub returns-in-Some-clause-fault : goal.returns-in-Some-clause-fault
returns-in-Some-clause-fault g c =
    judged_breaks (item_behind c.args.opened.now.call.place) item c.args.opened.now.call.place _ _ _ (g.L.Link.rule c.take_turn.new.link) _ _ c.take_turn.new.opened c.next_item-shown.result c.in-Some.done _ (item_look c.args.opened.now.call.place) c.in_ok-take_turn.ensures.opened (c.in_ok-take_turn.ensures.place ∙ c.loop-opened.invariant.place_is) (c.in_ok-take_turn.ensures.id ∙ c.loop-opened.invariant.same) (c.next_item-shown.ensures.item ∙ ap (λ b. item b c.take_turn.new.opened.call.answers) c.is_end.ensures) (sym c.answer_or_fault.ensures ∙ c.in-Some.is)

pub returns-in-Some-clause-next : goal.returns-in-Some-clause-next
returns-in-Some-clause-next g c =
    hands_item (g.L.Link.wire c.args.link.now) _ (g.L.Link.rule c.take_turn.new.link) _ _ _ c.args.opened.now c.take_turn.new.opened _ c.next_item-shown.result c.in-Some.done c.in_ok-take_turn.ensures.opened (c.in_ok-take_turn.ensures.place ∙ c.loop-opened.invariant.place_is) (c.in_ok-take_turn.ensures.id ∙ c.loop-opened.invariant.same) (carries_trans _ _ _ _ _ _ _ _ _ c.loop-opened.invariant.carries c.in_ok-take_turn.ensures.carries) (c.next_item-shown.ensures.item ∙ ap (λ b. item b c.take_turn.new.opened.call.answers) c.is_end.ensures) (sym c.answer_or_fault.ensures ∙ c.in-Some.is) (record { id = c.next_item-shown.ensures.id; answers = c.next_item-shown.ensures.answers; place = c.next_item-shown.ensures.place; away = c.next_item-shown.ensures.away; request = refl; room = refl; came = refl })

pub loop-opened-preserved : goal.loop-opened-preserved
loop-opened-preserved g c =
    talking_judged (item_behind c.args.opened.now.call.place) item c.args.opened.now.call.place _ _ _ (g.L.Link.rule c.args.link.now) (g.L.Link.rule c.loop-opened.link) (g.L.Link.rule c.take_turn.new.link) _ _ _ _ _ c.args.opened.now c.loop-opened.opened c.take_turn.new.opened _ c.next_item-shown.result _ _ _ [] [] [] (item_look c.args.opened.now.call.place) c.loop-opened.invariant c.in_ok-take_turn.ensures.opened (c.next_item-shown.ensures.item ∙ ap (λ b. item b c.take_turn.new.opened.call.answers) c.is_end.ensures) (sym c.answer_or_fault.ensures ∙ c.in_default.is) (λ none. record { id = c.next_item-shown.ensures.id; answers = c.next_item-shown.ensures.answers ∙ ap (λ x. after_item x c.take_turn.new.opened.call.answers) none; place = c.next_item-shown.ensures.place ∙ ap (λ x. place_after x c.take_turn.new.opened.call.place) none; away = c.next_item-shown.ensures.away; request = refl; room = refl; came = refl }) c.in_ok-take_turn.ensures.carries c.in_ok-take_turn.ensures.id c.in_ok-take_turn.ensures.place c.in_ok-take_turn.ensures.rule c.in_ok-take_turn.ensures.cause.later c.in_ok-take_turn.ensures.asks

pub returns-clause-fault : goal.returns-clause-fault
returns-clause-fault g c = inr (refl, talking_fills (item_behind c.args.opened.now.call.place) item c.args.opened.now.call.place _ _ (g.L.Link.rule c.args.link.now) (g.L.Link.rule c.loop-opened.link) _ _ _ c.args.opened.now c.loop-opened.opened _ _ [] [] (item_look c.args.opened.now.call.place) refl c.loop-opened.invariant (search rules))

pub returns-in-Some-clause-asked : goal.returns-in-Some-clause-asked
returns-in-Some-clause-asked g c =
    judged_concludes (item_behind c.args.opened.now.call.place) item c.args.opened.now.call.place (g.L.Link.wire c.args.link.now) _ (g.L.Link.rule c.args.link.now) (g.L.Link.rule c.take_turn.new.link) _ _ _ c.args.opened.now c.take_turn.new.opened c.next_item-shown.result c.in-Some.done [] [] (item_look c.args.opened.now.call.place) c.in_ok-take_turn.ensures.opened (c.in_ok-take_turn.ensures.place ∙ c.loop-opened.invariant.place_is) (c.in_ok-take_turn.ensures.id ∙ c.loop-opened.invariant.same) (c.next_item-shown.ensures.item ∙ ap (λ b. item b c.take_turn.new.opened.call.answers) c.is_end.ensures) (sym c.answer_or_fault.ensures ∙ c.in-Some.is) (λ fields messages given a. c.in_ok-take_turn.ensures.asks fields messages given (c.loop-opened.invariant.asks fields messages given a))

pub returns-in-Some-clause-asks : goal.returns-in-Some-clause-asks
returns-in-Some-clause-asks g c =
    hands_asks (g.L.Link.wire c.args.link.now) _ (g.L.Link.rule c.args.link.now) (g.L.Link.rule c.take_turn.new.link) _ _ c.args.opened.now c.take_turn.new.opened _ c.next_item-shown.result c.in-Some.done (c.next_item-shown.ensures.item ∙ ap (λ b. item b c.take_turn.new.opened.call.answers) c.is_end.ensures) (sym c.answer_or_fault.ensures ∙ c.in-Some.is) (record { id = c.next_item-shown.ensures.id; answers = c.next_item-shown.ensures.answers; place = c.next_item-shown.ensures.place; away = c.next_item-shown.ensures.away; request = refl; room = refl; came = refl }) (λ fields messages given a. c.in_ok-take_turn.ensures.asks fields messages given (c.loop-opened.invariant.asks fields messages given a))

pub returns-in-Some-clause-text : goal.returns-in-Some-clause-text
returns-in-Some-clause-text g c =
    let left = item_leaves c.next_item-shown.result c.take_turn.new.opened.call.answers in
    on_done c.in-Some.done (text_heard _ (g.L.Link.rule c.take_turn.new.link) _ _ c.take_turn.new.opened _ _ _ c.in_ok-take_turn.ensures.opened c.next_item-shown.ensures.id (ap (λ h. h.status_text) c.next_item-shown.ensures.answers ∙ left.0) (ap (λ h. h.details) c.next_item-shown.ensures.answers ∙ left.1))
