use Rattle.std.proofs.Common.{rules, drop, refl, sym, ap, ◌∙◌}
use Rattle.std.proofs.lemmas.List.{drop-drop}
use Rattle.rx_grpc.proofs.AskingLemmas.{pushes_none, pushes_sent}
use Rattle.rx_grpc.proofs.TurnLemmas.{sent_moves}
use Rattle.rx_grpc.proofs.request.Request.push.Goals as goal

pub returns-clause-pushes : goal.returns-clause-pushes
returns-clause-pushes c = pushes_sent c.args.conn.now c.send.new.self c.args.id c.split_at.result.1.now _ c.in-Ok.count c.args.self.now _ c.requires.fault c.in-Ok.ensures.answers c.in-Ok.ensures.rest (search rules) (search rules) (search rules) (sym (drop-drop c.in-Ok.count c.if-self-2.self-inside.taken c.if-self-2.self-inside.bytes.items) ∙ ap (drop c.in-Ok.count) (search rules)) (search rules)

pub returns-clause-fault : goal.returns-clause-fault
returns-clause-fault c = (sent_moves c.args.conn.now.state.fault c.args.conn.now c.send.new.self c.args.id c.split_at.result.1.now _ _ c.in-Ok.count refl c.requires.fault c.in-Ok.ensures.answers c.in-Ok.ensures.rest (λ _. search rules)).fault

pub returns-clause-events : goal.returns-clause-events
returns-clause-events c = (sent_moves c.args.conn.now.state.fault c.args.conn.now c.send.new.self c.args.id c.split_at.result.1.now _ _ c.in-Ok.count refl c.requires.fault c.in-Ok.ensures.answers c.in-Ok.ensures.rest (λ _. search rules)).events

pub returns-then-self-clause-pushes : goal.returns-then-self-clause-pushes
returns-then-self-clause-pushes c = rw (← c.self.view_is) (pushes_none c.args.conn.now c.args.id _)
