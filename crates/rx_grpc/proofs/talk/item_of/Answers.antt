use Rattle.std.proofs.Common.{[], refl, ap, sym, ◌∙◌}
use Rattle.rx_grpc.specs.Item.{item, item_behind}
use Rattle.rx_grpc.proofs.ItemLemmas.{item_look}
use Rattle.rx_grpc.proofs.TurnLemmas.{open_like}
use Rattle.rx_grpc.proofs.AskingLemmas.{asking_none, concludes_like, handing_like}
use Rattle.rx_grpc.proofs.TalkLemmas.{carries_none, judged_breaks, judged_concludes, judged_none}
use Rattle.rx_grpc.proofs.HandLemmas.{hands_asks, hands_item, next_faults, none_handed}
use Rattle.rx_grpc.proofs.TextLemmas.{item_leaves, on_done, text_heard}
use Rattle.rx_grpc.proofs.talk.item_of.Goals as goal

pub returns-in-Some-clause-next : goal.returns-in-Some-clause-next
returns-in-Some-clause-next g c =
    hands_item _ _ (g.L.Link.rule c.args.link.now) _ _ _ c.args.opened.now c.args.opened.now _ c.next_item-shown.result c.in-Some.done c.requires refl refl (carries_none _ _ _) (c.next_item-shown.ensures.item ∙ ap (λ b. item b c.args.opened.now.call.answers) c.is_end.ensures) (sym c.answer_or_fault.ensures ∙ c.in-Some.is) (record { id = c.next_item-shown.ensures.id; answers = c.next_item-shown.ensures.answers; place = c.next_item-shown.ensures.place; away = c.next_item-shown.ensures.away; request = refl; room = refl; came = refl })

pub returns-in-Some-clause-fault : goal.returns-in-Some-clause-fault
returns-in-Some-clause-fault g c =
    next_faults c.args.opened.now c.in-Some.done _ _ (g.L.Link.rule c.args.link.now) _ (judged_breaks (item_behind c.args.opened.now.call.place) item c.args.opened.now.call.place c.args.opened.now.room _ _ (g.L.Link.rule c.args.link.now) _ _ c.args.opened.now c.next_item-shown.result c.in-Some.done _ (item_look c.args.opened.now.call.place) c.requires refl refl (c.next_item-shown.ensures.item ∙ ap (λ b. item b c.args.opened.now.call.answers) c.is_end.ensures) (sym c.answer_or_fault.ensures ∙ c.in-Some.is))

pub item_behind_turns-requires-clause-opened : goal.item_behind_turns-requires-clause-opened
item_behind_turns-requires-clause-opened g c =
    open_like _ (g.L.Link.rule c.args.link.now) _ _ c.args.opened.now _ c.requires (none_handed c.args.opened.now _ c.next_item-shown.result (record { id = c.next_item-shown.ensures.id; answers = c.next_item-shown.ensures.answers; place = c.next_item-shown.ensures.place; away = c.next_item-shown.ensures.away; request = refl; room = refl; came = refl }) (judged_none c.next_item-shown.result c.args.opened.now.came (sym c.answer_or_fault.ensures ∙ c.in_default.is)))

pub returns-in-Some-clause-asked : goal.returns-in-Some-clause-asked
returns-in-Some-clause-asked g c =
    judged_concludes (item_behind c.args.opened.now.call.place) item c.args.opened.now.call.place (g.L.Link.wire c.args.link.now) _ (g.L.Link.rule c.args.link.now) (g.L.Link.rule c.args.link.now) _ _ _ c.args.opened.now c.args.opened.now c.next_item-shown.result c.in-Some.done [] [] (item_look c.args.opened.now.call.place) c.requires refl refl (c.next_item-shown.ensures.item ∙ ap (λ b. item b c.args.opened.now.call.answers) c.is_end.ensures) (sym c.answer_or_fault.ensures ∙ c.in-Some.is) (asking_none _ (g.L.Link.rule c.args.link.now) _ c.args.opened.now [])

pub returns-in-Some-clause-asks : goal.returns-in-Some-clause-asks
returns-in-Some-clause-asks g c =
    hands_asks (g.L.Link.wire c.args.link.now) _ (g.L.Link.rule c.args.link.now) (g.L.Link.rule c.args.link.now) _ _ c.args.opened.now c.args.opened.now _ c.next_item-shown.result c.in-Some.done (c.next_item-shown.ensures.item ∙ ap (λ b. item b c.args.opened.now.call.answers) c.is_end.ensures) (sym c.answer_or_fault.ensures ∙ c.in-Some.is) (record { id = c.next_item-shown.ensures.id; answers = c.next_item-shown.ensures.answers; place = c.next_item-shown.ensures.place; away = c.next_item-shown.ensures.away; request = refl; room = refl; came = refl }) (asking_none _ (g.L.Link.rule c.args.link.now) _ c.args.opened.now [])

pub returns-clause-asked : goal.returns-clause-asked
returns-clause-asked g c =
    concludes_like _ _ (g.L.Link.rule c.args.link.now) (g.L.Link.rule c.item_behind_turns.new.link) _ _ _ c.args.opened.now _ [] item_behind c.item_behind_turns.result (none_handed c.args.opened.now _ c.next_item-shown.result (record { id = c.next_item-shown.ensures.id; answers = c.next_item-shown.ensures.answers; place = c.next_item-shown.ensures.place; away = c.next_item-shown.ensures.away; request = refl; room = refl; came = refl }) (judged_none c.next_item-shown.result c.args.opened.now.came (sym c.answer_or_fault.ensures ∙ c.in_default.is))) c.item_behind_turns.ensures.asked

pub returns-clause-asks : goal.returns-clause-asks
returns-clause-asks g c =
    handing_like _ _ (g.L.Link.rule c.args.link.now) (g.L.Link.rule c.item_behind_turns.new.link) _ _ c.args.opened.now _ c.item_behind_turns.new.opened c.item_behind_turns.result (none_handed c.args.opened.now _ c.next_item-shown.result (record { id = c.next_item-shown.ensures.id; answers = c.next_item-shown.ensures.answers; place = c.next_item-shown.ensures.place; away = c.next_item-shown.ensures.away; request = refl; room = refl; came = refl }) (judged_none c.next_item-shown.result c.args.opened.now.came (sym c.answer_or_fault.ensures ∙ c.in_default.is))) c.item_behind_turns.ensures.asks

pub returns-in-Some-clause-text : goal.returns-in-Some-clause-text
returns-in-Some-clause-text g c =
    let left = item_leaves c.next_item-shown.result c.args.opened.now.call.answers in
    on_done c.in-Some.done (text_heard _ (g.L.Link.rule c.args.link.now) _ _ c.args.opened.now _ _ _ c.requires c.next_item-shown.ensures.id (ap (λ h. h.status_text) c.next_item-shown.ensures.answers ∙ left.0) (ap (λ h. h.details) c.next_item-shown.ensures.answers ∙ left.1))
