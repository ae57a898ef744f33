use Rattle.std.proofs.lemmas.Result.{err_from_is_err_and}
use Rattle.rx_client.specs.Connections.{connections}
use Rattle.rx_client.proofs.ConnectionLemmas.{once_connected, once_unconnected}
use Rattle.rx_client.proofs.conversations.converse_once.Goals as goal

pub returns-in_err-input-clause-converses : goal.returns-in_err-input-clause-converses
returns-in_err-input-clause-converses g c =
    let a = c.in_err-input.ensures in
    let p = err_from_is_err_and c.from_residual.result c.from_residual.ensures.1 in
    rw (p.1, p.2) (once_unconnected _ _ _ _ _ a.kept a.back a.called)

pub returns-clause-converses : goal.returns-clause-converses
returns-clause-converses g c =
    let a = c.in_ok-input.ensures in
    let b = c.done.ensures in
    once_connected _ _ _ (connections g.C.Connect c.connect.new.self) _ _ _ _ _ a.first a.back a.called b.coming b.back b.called c.talk-heard.ensures.talks
