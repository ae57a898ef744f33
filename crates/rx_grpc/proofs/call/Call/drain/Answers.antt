use Rattle.std.proofs.Common.{ℕ, [], ◌∷◌, ◌∙◌, ap, filter}
use Rattle.rx_h2conn.specs.Event.{event_view}
use Rattle.rx_grpc.specs.Heard.{Heard, heard}
use Rattle.rx_grpc.specs.Moves.{is_for}
use Rattle.rx_grpc.proofs.DrainLemmas.{drains_next, drains_none, drained_less}
use Rattle.rx_grpc.proofs.call.Call.drain.Goals as goal

pub loop-event-smaller : goal.loop-event-smaller
loop-event-smaller c = drained_less c.loop-event.conn c.next_event.new.self (event_view c.in-Some.event) c.in-Some.ensures.event c.in-Some.ensures.after

pub loop-event-preserved : goal.loop-event-preserved
loop-event-preserved c =
    drains_next c.args.conn.now c.loop-event.conn c.next_event.new.self c.args.self.now c.loop-event.self _ (event_view c.in-Some.event) c.loop-event.invariant c.in-Some.ensures.event c.in-Some.ensures.after c.in-Some.ensures.held c.mark.ensures.id c.mark.ensures.place (c.in_ok-hear.ensures ∙ (ap (λ (x : Heard). heard x (filter (is_for c.mark.new.self.id) (event_view c.in-Some.event ∷ []))) c.mark.ensures.answers ∙ ap (λ (i : ℕ). heard c.loop-event.self.answers (filter (is_for i) (event_view c.in-Some.event ∷ []))) c.mark.ensures.id)) (c.mark.ensures.away ∙ c.is_away_by-self.ensures)

pub loop-event-init : goal.loop-event-init
loop-event-init c = drains_none c.args.conn.now c.args.self.now
