use Rattle.rx_scan.proofs.WordSteps.{safe-meaning}
use Rattle.rx_scan.proofs.words.read_compile.Goals as goal

pub returns-clause-safe : goal.returns-clause-safe
returns-clause-safe c = safe-meaning c.args.command.now c.args.inputs.now c.in_ok-reading.reading c.in_ok-meaning.meaning c.in_ok-meaning.ensures c.in_ok-reading.ensures.safe
