use Rattle.std.proofs.Common.{[]}
use Rattle.rx_remote.specs.Ends.{stop_heard}
use Rattle.rx_remote.proofs.StopTold.{quiet-never, tells-same}
use Rattle.rx_remote.proofs.begins.first_heard.Goals as goal

pub returns-clause-own : goal.returns-clause-own
returns-clause-own g c = c.ask_capabilities.ensures.quiet [] [] 0 0 (g.T.Stop.told c.seen.new.self)

pub returns-clause-stop : goal.returns-clause-stop
returns-clause-stop g c =
    tells-same (g.T.Stop.told c.args.stop.now) (g.T.Stop.told c.seen.new.self) (stop_heard c.ask_capabilities.result)
    (quiet-never c.ask_capabilities.result c.ask_capabilities.ensures.quiet) c.in_default.ensures.none
