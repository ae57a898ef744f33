use Rattle.std.proofs.lemmas.Result.{err_from_is_err_and}
use Rattle.rx_reach.specs.Candidates.{Follows, IsTried, Try}
use Rattle.rx_reach.specs.Scenes.{Always}
use Rattle.rx_reach.proofs.FollowLemmas.{tried-follows, tried-long, tried-refused}
use Rattle.rx_reach.proofs.ScanLemmas.{ends-at-once, ok-sees, scans-none}
use Rattle.rx_reach.proofs.candidates.seek.Goals as goal

pub returns-in_err-passed-in-Ok-clause-err : goal.returns-in_err-passed-in-Ok-clause-err
returns-in_err-passed-in-Ok-clause-err g c =
    let p = err_from_is_err_and c.from_residual.result c.from_residual.ensures.1 in
    rw (p.1, p.2) (ends-at-once _ _ _ _)

pub returns-in_err-candidate-in-Err-clause-err : goal.returns-in_err-candidate-in-Err-clause-err
returns-in_err-candidate-in-Err-clause-err g c =
    let p = err_from_is_err_and c.from_residual-in_err-candidate-in-Err.result c.from_residual-in_err-candidate-in-Err.ensures.1 in
    rw (p.1, p.2) (ends-at-once _ _ _ _)

pub returns-in-Some-clause-right : goal.returns-in-Some-clause-right
returns-in-Some-clause-right g c =
    let t : Try = record { dir = c.args.dir.now; name = c.args.name.now } in
    let steps = rw c.in-Some.is at c.in_ok-passed-in-Ok.ensures.steps in
    let short = rw c.in-Some.is at c.in_ok-passed-in-Ok.ensures.short in
    ok-sees c.follow.new.sights c.follow.result (λ tried scene. Follows scene c.in-Some.passed.items c.in-Ok.path tried) (λ tried scene. IsTried scene t tried)
    (λ tried scene f. tried-follows scene t c.in-Ok.path c.in-Some.passed.items tried c.utf8.name c.in-Ok.ensures steps short f)
    (rw c.deref.ensures.value at c.follow.ensures.right)

pub returns-in-None-clause-ok : goal.returns-in-None-clause-ok
returns-in-None-clause-ok g c = scans-none _ _ _ _ Always (λ scene _. tt)

pub returns-in-None-clause-right : goal.returns-in-None-clause-right
returns-in-None-clause-right g c = λ scene _.
    let t : Try = record { dir = c.args.dir.now; name = c.args.name.now } in
    rw c.new-left.ensures (tried-long scene t c.in-Ok.path c.in-Ok.ensures (c.in_ok-passed-in-Ok.ensures.long c.in-None.is))

pub returns-in_ok-candidate-in-Err-clause-ok : goal.returns-in_ok-candidate-in-Err-clause-ok
returns-in_ok-candidate-in-Err-clause-ok g c = scans-none _ _ _ _ Always (λ scene _. tt)

pub returns-in_ok-candidate-in-Err-clause-right : goal.returns-in_ok-candidate-in-Err-clause-right
returns-in_ok-candidate-in-Err-clause-right g c = λ scene _.
    let t : Try = record { dir = c.args.dir.now; name = c.args.name.now } in
    let found = c.in_ok-candidate-in-Err.ensures.ok in
    rw c.new-left.ensures (tried-refused scene t c.in-Err.fault c.in_ok-candidate-in-Err.candidate c.utf8.name (c.in-Err.ensures found.0) found.1)
