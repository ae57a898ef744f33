use Rattle.std.proofs.Common.{[], ap, ◌∙◌}
use Rattle.rx_grpc.proofs.SendLemmas.{asked_in, asking_new}
use Rattle.rx_grpc.proofs.StreamLemmas.{ready_started, started_in, waits}
use Rattle.rx_grpc.proofs.transport.Transport.begin.Goals as goal

pub invariant_of-self : goal.invariant_of-self
invariant_of-self g c =
    let started = started_in g.L.Link.wire g.L.Link.rule g.L.Link.ended _ c.args.self.now c.args.id c.self.view_is c.requires.started in (
      λ _. ready_started _ (g.L.Link.rule c.self.inside.link) _ _ _ started,
      waits _ (g.L.Link.rule c.self.inside.link) _ _ c.new.result c.args.id started c.new.ensures.id c.new.ensures.answers c.new.ensures.place c.new.ensures.away (ap (λ r. r.done) c.new.ensures.request ∙ c.requires.unsent) c.new.ensures.came,
    )

pub returns-clause-asks : goal.returns-clause-asks
returns-clause-asks g c = λ fields messages asked send. (
  c.new.ensures.id,
  asking_new _ (g.L.Link.rule c.self.inside.link) _ c.new.result c.args.id c.args.request [] fields messages (asked_in g.L.Link.wire g.L.Link.rule _ c.args.self.now c.args.id fields c.self.view_is asked) send c.new.ensures.id c.new.ensures.answers c.new.ensures.place c.new.ensures.away c.new.ensures.request,
)
