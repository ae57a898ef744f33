use Rattle.rx_client.specs.Connections.{connections}
use Rattle.rx_client.proofs.ConnectionLemmas.{touch_connected, touch_unconnected}
use Rattle.rx_client.proofs.conversations.touch.Goals as goal

pub returns-in-Ok-clause-touched : goal.returns-in-Ok-clause-touched
returns-in-Ok-clause-touched g c =
    let a = c.in-Ok.ensures in
    let b = c.done.ensures in
    touch_connected _ (connections g.C.Connect c.connect.new.self) _ _ _ a.first a.back a.called b.coming b.back b.called

pub returns-in_default-clause-touched : goal.returns-in_default-clause-touched
returns-in_default-clause-touched g c =
    let a = c.in_default.ensures in
    touch_unconnected _ _ _ a.kept a.back a.called
