use Rattle.std.proofs.Common.{None}
use Rattle.rx_remote.specs.declared.asks.Heard.TheVariants.{Stopped}
use Rattle.rx_remote.specs.Reading.{HeardGives, IsOwnCause}
use Rattle.rx_remote.specs.Ends.{stop_heard}
use Rattle.rx_remote.proofs.ReadLemmas.{read-none}
use Rattle.rx_remote.proofs.StopTold.{never-stop, tells-same}
use Rattle.rx_remote.proofs.turns.listen.Goals as goal

pub returns-in-Some-clause-reads : goal.returns-in-Some-clause-reads
returns-in-Some-clause-reads g c =
    let files = c.args.action.now.job.files.now in
    let count = g.S.Sources.faults c.args.sources.now in
    let told = g.T.Stop.told c.seen.new.self in
    read-none g.W.World g.S.Sources files c.args.sources.now (λ answers. HeardGives (IsOwnCause files answers count count told) (Stopped c.in-Some.decision))
    c.in-Some.ensures.some

pub returns-clause-reads : goal.returns-clause-reads
returns-clause-reads g c = c.hear.ensures.reads (g.T.Stop.told c.seen.new.self)

pub returns-clause-told : goal.returns-clause-told
returns-clause-told g c =
    let read = c.hear.ensures.reads None in
    tells-same (g.T.Stop.told c.args.stop.now) (g.T.Stop.told c.seen.new.self) (stop_heard c.hear.result)
    (never-stop c.args.action.now.job.files.now read.answers (g.S.Sources.faults c.args.sources.now) (g.S.Sources.faults c.hear.new.sources) c.hear.result read.is_such)
    c.in_default.ensures.none
