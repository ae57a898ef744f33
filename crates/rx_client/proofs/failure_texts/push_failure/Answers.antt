use Rattle.rx_client.proofs.failure_texts.push_failure.Goals as goal

pub returns-in-NonZero : goal.returns-in-NonZero
returns-in-NonZero c = rw c.in-NonZero.is c.push_exit.ensures
