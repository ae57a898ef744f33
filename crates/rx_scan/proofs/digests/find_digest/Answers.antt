use Rattle.rx_reach.proofs.ScanLemmas.{scans-none}
use Rattle.rx_scan.proofs.digests.find_digest.Goals as goal

pub returns-in-Some-clause-ok : goal.returns-in-Some-clause-ok
returns-in-Some-clause-ok g c = scans-none _ _ _ _ _ (λ scene right. tt)

pub returns-in-Some-find-clause-ok : goal.returns-in-Some-find-clause-ok
returns-in-Some-find-clause-ok g c = scans-none _ _ _ _ _ (λ scene right. tt)
