use Rattle.std.proofs.Common.{ap, sym, ◌∙◌}
use Rattle.rx_hpack.specs.Header.{views}
use Rattle.rx_grpc.specs.Answer.{unary}
use Rattle.rx_grpc.specs.Request.{request_fields}
use Rattle.rx_grpc.proofs.SendLemmas.{answers_call}
use Rattle.rx_grpc.proofs.TextLemmas.{text_of_call}
use Rattle.rx_grpc.proofs.channel.Channel.upload.Goals as goal

pub returns-clause-asks : goal.returns-clause-asks
returns-clause-asks g c =
    let fields = ap views c.deref-2.ensures.value ∙ (c.in_ok-headers.ensures.fields ∙ ap (request_fields c.args.path.now) (c.deref.ensures.value ∙ ap (λ x. x.authority) c.self.view_is)) in
    let now = ap (λ x. x.transport) (sym c.self-2.view_is) ∙ c.in-Some.is in
    answers_call unary g.D.L.Link.wire g.D.L.Link.rule g.D.L.Link.ended g.D.L.Link.faults c.args.self.now.transport c.open_stream.new.self.transport c.in-Some.transport c.call.new.self c.in_ok-id.id (views c.deref-2.result.now) (request_fields c.args.path.now c.args.self.now.authority) c.in_ok-request.request _ (g.B.Body.messages c.args.body.now) c.call.result now fields c.in_ok-id.ensures.opens c.in_ok-id.ensures.asked c.in_ok-request.ensures.sends c.call.ensures.asked

pub returns-clause-text : goal.returns-clause-text
returns-clause-text g c =
    text_of_call g.D.L.Link.wire g.D.L.Link.rule g.D.L.Link.ended g.D.L.Link.faults c.args.self.now.transport c.open_stream.new.self.transport c.call.new.self c.in_ok-id.id c.call.result c.in_ok-id.ensures.opens c.call.ensures.text
