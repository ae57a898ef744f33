use Rattle.rx_cppflags.proofs.SafeOutputs.{told_safe}
use Rattle.rx_cppflags.proofs.readings.read_command.Goals as goal

pub returns-clause-safe : goal.returns-clause-safe
returns-clause-safe c = told_safe _ _ c.read.result c.read.ensures
