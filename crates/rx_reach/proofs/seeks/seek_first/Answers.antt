use Rattle.std.specs.Option.{option_copied, option_to_list}
use Rattle.rx_reach.specs.Progress.{Seeks}
use Rattle.rx_reach.specs.Searches.{tries_under}
use Rattle.rx_reach.proofs.ScanLemmas.{scans-none}
use Rattle.rx_reach.proofs.SeekLemmas.{seeks-none, stays-same}
use Rattle.rx_reach.proofs.seeks.seek_first.Goals as goal

pub returns-in-None-clause-ok : goal.returns-in-None-clause-ok
returns-in-None-clause-ok g c =
    scans-none _ _ _ _ (λ scene. Seeks scene c.args.blamed.now (tries_under (option_to_list (option_copied c.args.first)) c.args.name.now) c.args.progress.now c.args.progress.now)
    (λ scene _. rw c.in-None.is (seeks-none scene c.args.blamed.now c.args.progress.now))

pub returns-in-None-clause-stays : goal.returns-in-None-clause-stays
returns-in-None-clause-stays g c = stays-same c.args.progress.now

pub returns-in-None-clause-known : goal.returns-in-None-clause-known
returns-in-None-clause-known g c = λ _ all. all
