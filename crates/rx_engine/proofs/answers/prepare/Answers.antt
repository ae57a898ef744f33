use Rattle.std.proofs.Common.{refl}
use Rattle.std.proofs.lemmas.Result.{err_from_is_err_and}
use Rattle.rx_engine.specs.Answers.{asked_of}
use Rattle.rx_engine.proofs.AnswerLemmas.{gathered-for, gathered-starved, not-gathered}
use Rattle.rx_engine.proofs.AttemptLemmas.{fits-farm}
use Rattle.rx_engine.proofs.answers.prepare.Goals as goal

pub returns-in_err-gathered-clause-err : goal.returns-in_err-gathered-clause-err
returns-in_err-gathered-clause-err g c =
    let p = err_from_is_err_and c.from_residual.result c.from_residual.ensures.1 in
    rw (p.1, p.2) (not-gathered _ _ _ _ _ _ _ _ _ c.args.parts.now c.gather_for.new.sources _ c.args.request.now c.in_err-gathered.field-0.0 refl c.in_err-gathered.ensures.gathered)

pub returns-in_err-room-clause-err : goal.returns-in_err-room-clause-err
returns-in_err-room-clause-err g c =
    let p = err_from_is_err_and c.from_residual-in_err-room.result c.from_residual-in_err-room.ensures.1 in
    rw (p.1, p.2) (gathered-starved _ _ _ _ _ _ _ _ _ c.args.parts.now c.gather_for.new.sources (asked_of c.args.request.now)
    c.args.request.now c.in_ok-gathered.gathered c.in_ok-gathered.ensures.gathered)

pub returns-clause-ok : goal.returns-clause-ok
returns-clause-ok g c =
    gathered-for _ _ _ _ _ _ _ _ _ c.args.parts.now c.gather_for.new.sources _ c.args.request.now c.in_ok-gathered.gathered refl
    c.in_ok-gathered.ensures.gathered c.in_ok-gathered.ensures.orderly c.in_ok-gathered.ensures.digests c.in_ok-gathered.ensures.listed

pub returns-clause-fits : goal.returns-clause-fits
returns-clause-fits g c = fits-farm c.args.request.now c.in_ok-gathered.gathered c.in_ok-gathered.ensures.orderly c.requires
