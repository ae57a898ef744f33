use Rattle.std.proofs.Common.{refl, sym}
use Rattle.rx_engine.proofs.AnswerLemmas.{answered-refused, answered-run}
use Rattle.rx_engine.proofs.AttemptLemmas.{later-none, later-same}
use Rattle.rx_engine.proofs.answers.answer.Goals as goal

pub returns-in-Ok-clause-answered : goal.returns-in-Ok-clause-answered
returns-in-Ok-clause-answered g c =
    let made = c.in-Ok.ensures in
    answered-run _ _ _ _ _ _ _ _ _ c.args.parts c.prepare.new.parts c.run-attempted.result.1 c.args.request.now c.in-Ok.prepared.gathered c.in-Ok.prepared.accept_cached c.run-attempted.result.0
    (record { here = record { tree_local = made.tree_local; benches = made.benches }; there = record { tree_remote = made.tree_remote; farm = made.farm } })
    c.run-attempted.ensures.tree made.accepts (rw made.watches at c.run-attempted.ensures.heard) made.ok c.run-attempted.ensures.made

pub returns-in-Err-clause-answered : goal.returns-in-Err-clause-answered
returns-in-Err-clause-answered g c =
    let made = c.in-Err.ensures in
    answered-refused _ _ _ _ _ _ _ _ _ c.args.parts c.prepare.new.parts c.args.request.now c.in-Err.fault c.client_runs.result c.refuse_gathering-refused.result c.or_give_up-answered.result
    (record { here = record { tree_local = made.tree_local; benches = made.benches }; there = record { tree_remote = made.tree_remote; farm = made.farm } })
    made.err (sym c.client_runs.ensures) c.refuse_gathering-refused.ensures c.or_give_up-answered.ensures

pub returns-in-Ok-clause-later : goal.returns-in-Ok-clause-later
returns-in-Ok-clause-later g c =
    let made = c.in-Ok.ensures in
    later-same _ _ _ _ _ _ _ _ _ c.args.parts c.prepare.new.parts c.run-attempted.result.1
    (record { here = record { tree_local = made.tree_local; benches = made.benches }; there = record { tree_remote = made.tree_remote; farm = made.farm } })
    c.run-attempted.ensures.later

pub returns-in-Err-clause-later : goal.returns-in-Err-clause-later
returns-in-Err-clause-later g c =
    let made = c.in-Err.ensures in
    later-same _ _ _ _ _ _ _ _ _ c.args.parts c.prepare.new.parts c.prepare.new.parts
    (record { here = record { tree_local = made.tree_local; benches = made.benches }; there = record { tree_remote = made.tree_remote; farm = made.farm } })
    (later-none _ _ _ _ _ _ _ _ _ c.prepare.new.parts)

pub returns-in-Ok-clause-heard : goal.returns-in-Ok-clause-heard
returns-in-Ok-clause-heard g c =
    let made = c.in-Ok.ensures in
    rw (made.watches, made.input) at c.run-attempted.ensures.heard

pub returns-in-Err-clause-heard : goal.returns-in-Err-clause-heard
returns-in-Err-clause-heard g c =
    let made = c.in-Err.ensures in
    rw made.input (refl, refl)
