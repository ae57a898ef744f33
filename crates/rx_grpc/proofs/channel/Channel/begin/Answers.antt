use Rattle.std.proofs.Common.{[], ◌∷◌, ap, sym, ◌∙◌}
use Rattle.rx_hpack.specs.Header.{views}
use Rattle.rx_grpc.specs.Request.{request_fields}
use Rattle.rx_grpc.proofs.SendLemmas.{begins_call, sends_one}
use Rattle.rx_grpc.proofs.channel.Channel.begin.Goals as goal

pub returns-clause-asks : goal.returns-clause-asks
returns-clause-asks g c =
    let fields = ap views c.deref-2.ensures.value ∙ (c.in_ok-headers.ensures.fields ∙ ap (request_fields c.args.path.now) (c.deref.ensures.value ∙ ap (λ x. x.authority) c.self.view_is)) in
    let now = ap (λ x. x.transport) (sym c.self-2.view_is) ∙ c.in-Some.is in
    (begins_call g.D.L.Link.wire g.D.L.Link.rule g.D.L.Link.ended g.D.L.Link.faults c.args.self.now.transport c.open_stream.new.self.transport c.in-Some.transport c.begin.new.self c.in_ok-id.id (views c.deref-2.result.now) (request_fields c.args.path.now c.args.self.now.authority) c.new.result (c.args.message.now ∷ []) now fields c.in_ok-id.ensures.opens c.in_ok-id.ensures.asked (sends_one c.new.result c.args.message.now (c.new.ensures.left ∙ c.in_ok-body.ensures)) c.begin.ensures.link c.begin.ensures.conn c.begin.ensures.asks).0

pub returns-clause-open : goal.returns-clause-open
returns-clause-open g c =
    let fields = ap views c.deref-2.ensures.value ∙ (c.in_ok-headers.ensures.fields ∙ ap (request_fields c.args.path.now) (c.deref.ensures.value ∙ ap (λ x. x.authority) c.self.view_is)) in
    let now = ap (λ x. x.transport) (sym c.self-2.view_is) ∙ c.in-Some.is in
    (begins_call g.D.L.Link.wire g.D.L.Link.rule g.D.L.Link.ended g.D.L.Link.faults c.args.self.now.transport c.open_stream.new.self.transport c.in-Some.transport c.begin.new.self c.in_ok-id.id (views c.deref-2.result.now) (request_fields c.args.path.now c.args.self.now.authority) c.new.result (c.args.message.now ∷ []) now fields c.in_ok-id.ensures.opens c.in_ok-id.ensures.asked (sends_one c.new.result c.args.message.now (c.new.ensures.left ∙ c.in_ok-body.ensures)) c.begin.ensures.link c.begin.ensures.conn c.begin.ensures.asks).1
