use Rattle.std.proofs.Common.{◌≡◌, None, Some, true, false, refl, sym, ap, ◌∙◌}
use Rattle.rx_grpc.proofs.SendLemmas.{next_asks}
use Rattle.rx_grpc.specs.Item.{item_behind}
use Rattle.rx_grpc.specs.Transport.{opened_of}
use Rattle.rx_grpc.proofs.StreamLemmas.{left_at, none_open, ready_over}
use Rattle.rx_grpc.proofs.TextLemmas.{text_next}
use Rattle.rx_grpc.proofs.transport.Transport.next.Goals as goal
use Rattle.rx_grpc.proofs.transport.Transport.next.Goals.{then-is_message, else-is_message}

pub invariant_of-self-then-is_message : goal.invariant_of-self-then-is_message
invariant_of-self-then-is_message g c = (
  λ lives. ready_over (item_behind c.in-Some.opened.call.place) _ (g.L.Link.rule c.item_of.new.link) _ _ c.in-Some.opened.call.id _ _ c.in_ok-item.item _ c.in_ok-item.ensures.next.over c.is_alive-self-inside.ensures lives (left_at _ _ _ c.stream_left-self-inside.ensures c.in_ok-item.ensures.next.id),
  c.in_ok-item.ensures.next.open_still,
)

pub invariant_of-self-else-is_message : goal.invariant_of-self-else-is_message
invariant_of-self-else-is_message g c = (
  λ lives. ready_over (item_behind c.in-Some.opened.call.place) _ (g.L.Link.rule c.item_of.new.link) _ _ c.in-Some.opened.call.id _ _ c.in_ok-item.item _ c.in_ok-item.ensures.next.over c.is_alive-self-inside.ensures lives (left_at _ _ _ c.stream_left-self-inside.ensures c.in_ok-item.ensures.next.id),
  none_open _ (g.L.Link.rule c.item_of.new.link) _ _ c.take.new.self (ap opened_of c.take.ensures.after),
)

pub returns-clause-asks : goal.returns-clause-asks
returns-clause-asks g c =
    elim c.if-is_message.branch [
      | then-is_message w ↦ rw (w.self-is, ← c.self.view_is) (next_asks g.L.Link.wire g.L.Link.rule g.L.Link.ended (record { link = c.self.inside.link; conn = c.self.inside.conn; alive = true; opened = None; call = c.self.inside.opened; text = c.self.inside.text.items; details = c.self.inside.details }) (record { link = c.item_of.new.link; conn = c.item_of.new.conn; alive = true; opened = None; call = Some c.item_of.new.opened; text = c.in_ok-text.text.items; details = c.in_ok-details.details }) c.in-Some.opened c.item_of.new.opened c.in_ok-item.item (sym c.take.ensures.value ∙ c.in-Some.is) c.in_ok-item.ensures.asked c.in_ok-item.ensures.asks c.in_ok-item.ensures.next.id (λ _. refl))
      | else-is_message w ↦ rw (w.self-is, ← c.self.view_is) (next_asks g.L.Link.wire g.L.Link.rule g.L.Link.ended (record { link = c.self.inside.link; conn = c.self.inside.conn; alive = true; opened = None; call = c.self.inside.opened; text = c.self.inside.text.items; details = c.self.inside.details }) (record { link = c.item_of.new.link; conn = c.item_of.new.conn; alive = true; opened = None; call = c.take.new.self; text = c.in_ok-text.text.items; details = c.in_ok-details.details }) c.in-Some.opened c.item_of.new.opened c.in_ok-item.item (sym c.take.ensures.value ∙ c.in-Some.is) c.in_ok-item.ensures.asked c.in_ok-item.ensures.asks c.in_ok-item.ensures.next.id (λ message. let bad : true ≡ false = sym message ∙ (sym c.is_message.ensures ∙ w.if-is_message.false) in cc))
    ]

pub returns-clause-text : goal.returns-clause-text
returns-clause-text g c =
    let was = ap opened_of (sym c.take.ensures.value ∙ c.in-Some.is) in
    elim c.if-is_message.branch [
      | then-is_message w ↦ rw (w.self-is, ← c.self.view_is) (text_next g.L.Link.wire g.L.Link.rule _ _ c.in-Some.opened c.item_of.new.opened was c.in_ok-item.ensures.text c.in_ok-item.ensures.next.id c.in_ok-text.ensures c.in_ok-details.ensures)
      | else-is_message w ↦ rw (w.self-is, ← c.self.view_is) (text_next g.L.Link.wire g.L.Link.rule _ _ c.in-Some.opened c.item_of.new.opened was c.in_ok-item.ensures.text c.in_ok-item.ensures.next.id c.in_ok-text.ensures c.in_ok-details.ensures)
    ]
