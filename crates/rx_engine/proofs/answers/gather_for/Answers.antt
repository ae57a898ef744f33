use Rattle.std.proofs.Common.{◌∙◌}
use Rattle.std.proofs.lemmas.Result.{err_from_is_err_and}
use Rattle.rx_engine.specs.Answers.{asked_of}
use Rattle.rx_engine.proofs.AnswerLemmas.{asked-is, gathers-none}
use Rattle.rx_engine.proofs.answers.gather_for.Goals as goal

pub returns-in_err-command-clause-gathered : goal.returns-in_err-command-clause-gathered
returns-in_err-command-clause-gathered g c =
    let p = err_from_is_err_and c.from_residual.result c.from_residual.ensures.1 in
    rw (p.1, p.2) (gathers-none _ _ c.args.sources.now (asked_of c.args.request.now))

pub returns-in_err-inputs-clause-gathered : goal.returns-in_err-inputs-clause-gathered
returns-in_err-inputs-clause-gathered g c =
    let p = err_from_is_err_and c.from_residual-in_err-inputs.result c.from_residual-in_err-inputs.ensures.1 in
    rw (p.1, p.2) (gathers-none _ _ c.args.sources.now (asked_of c.args.request.now))

pub returns-clause-gathered : goal.returns-clause-gathered
returns-clause-gathered g c =
    let asked = asked-is c.in_ok-command.command c.as_slice.result.now c.choice_of.result c.args.request.now c.in_ok-command.ensures (c.as_slice.ensures ∙ c.in_ok-inputs.ensures)
    c.choice_of.ensures in
    rw asked at c.gather.ensures.gathered

pub returns-clause-orderly : goal.returns-clause-orderly
returns-clause-orderly g c =
    let asked = asked-is c.in_ok-command.command c.as_slice.result.now c.choice_of.result c.args.request.now c.in_ok-command.ensures (c.as_slice.ensures ∙ c.in_ok-inputs.ensures)
    c.choice_of.ensures in
    rw asked at c.gather.ensures.orderly
