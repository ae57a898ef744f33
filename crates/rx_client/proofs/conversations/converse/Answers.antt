use Rattle.std.proofs.lemmas.Result.{err_from_is_err_and}
use Rattle.rx_client.specs.Connections.{connections}
use Rattle.rx_client.proofs.ConnectionLemmas.{converses_once, converses_touched, no_frame}
use Rattle.rx_client.proofs.conversations.converse.Goals as goal

pub returns-in_err-frame-clause-converses : goal.returns-in_err-frame-clause-converses
returns-in_err-frame-clause-converses g c =
    let p = err_from_is_err_and c.from_residual.result c.from_residual.ensures.1 in
    rw (p.1, p.2) (no_frame _ _ (connections g.C.Connect c.args.connect.now) c.args.asked.now)

pub returns-clause-converses : goal.returns-clause-converses
returns-clause-converses g c =
    let once = rw c.in-ShutDown.is at c.in_ok-heard.ensures.converses in
    converses_touched _ _ _ _ _ _ once c.touch.ensures.touched

pub returns-in_err-heard-clause-converses : goal.returns-in_err-heard-clause-converses
returns-in_err-heard-clause-converses g c =
    let p = err_from_is_err_and c.from_residual-in_err-heard.result c.from_residual-in_err-heard.ensures.1 in
    rw (p.1, p.2) (converses_once _ _ _ _ _ _ (λ e. absurd (cc e)) c.in_err-heard.ensures.converses)

pub returns-in-Reply-clause-converses : goal.returns-in-Reply-clause-converses
returns-in-Reply-clause-converses g c =
    let once = rw c.in-Reply.is at c.in_ok-heard.ensures.converses in
    converses_once _ _ _ _ _ _ (λ e. absurd (cc e)) once

pub returns-in-InPlace-clause-converses : goal.returns-in-InPlace-clause-converses
returns-in-InPlace-clause-converses g c =
    let once = rw c.in-InPlace.is at c.in_ok-heard.ensures.converses in
    converses_once _ _ _ _ _ _ (λ e. absurd (cc e)) once
