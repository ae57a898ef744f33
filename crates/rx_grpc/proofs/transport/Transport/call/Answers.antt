use Rattle.std.proofs.Common.{ap, ◌∙◌}
use Rattle.rx_grpc.specs.Answer.{unary}
use Rattle.rx_grpc.proofs.SendLemmas.{asked_in, concludes_new}
use Rattle.rx_grpc.proofs.StreamLemmas.{left_at, none_open, ready_over, started_in, waits}
use Rattle.rx_grpc.proofs.TextLemmas.{text_read}
use Rattle.rx_grpc.proofs.transport.Transport.call.Goals as goal

pub answer_of-requires-clause-opened : goal.answer_of-requires-clause-opened
answer_of-requires-clause-opened g c =
    let started = started_in g.L.Link.wire g.L.Link.rule g.L.Link.ended _ c.args.self.now c.args.id c.self.view_is c.requires.started in
    waits _ (g.L.Link.rule c.self.inside.link) _ _ c.new-opened.result c.args.id started c.new-opened.ensures.id c.new-opened.ensures.answers c.new-opened.ensures.place c.new-opened.ensures.away (ap (λ r. r.done) c.new-opened.ensures.request ∙ c.requires.unsent) c.new-opened.ensures.came

pub invariant_of-self-2 : goal.invariant_of-self-2
invariant_of-self-2 g c = (
  λ lives. ready_over unary _ (g.L.Link.rule c.answer_of.new.link) _ _ c.new-opened.result.call.id _ _ c.in_ok-answer.answer _ c.in_ok-answer.ensures.over c.is_alive-self-inside.ensures lives (left_at _ _ _ c.stream_left-self-inside.ensures c.in_ok-answer.ensures.id),
  none_open _ (g.L.Link.rule c.answer_of.new.link) _ _ c.self.inside.opened (ap (λ t. t.opened) c.self.view_is ∙ c.requires.closed),
)

pub returns-clause-asked : goal.returns-clause-asked
returns-clause-asked g c = λ fields messages asked send.
    concludes_new unary _ _ (g.L.Link.rule c.self.inside.link) (g.L.Link.rule c.answer_of.new.link) _ _ _ c.new-opened.result c.args.id c.args.request _ c.in_ok-answer.answer fields messages c.in_ok-answer.ensures.asked (asked_in g.L.Link.wire g.L.Link.rule _ c.args.self.now c.args.id fields c.self.view_is asked) send c.new-opened.ensures.id c.new-opened.ensures.answers c.new-opened.ensures.place c.new-opened.ensures.away c.new-opened.ensures.request

pub returns-clause-text : goal.returns-clause-text
returns-clause-text g c =
    text_read _ (g.L.Link.rule c.answer_of.new.link) _ _ c.args.id _ _ _ _ c.in_ok-answer.ensures.text (c.in_ok-answer.ensures.id ∙ c.new-opened.ensures.id) c.in_ok-text.ensures c.in_ok-details.ensures
