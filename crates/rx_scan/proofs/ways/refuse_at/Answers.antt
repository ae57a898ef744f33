use Rattle.rx_scan.proofs.BlockedLemmas.{is-upper, place-within}
use Rattle.rx_scan.proofs.ways.refuse_at.Goals as goal

pub returns-in_ok-changed_above-in-Some-clause-err : goal.returns-in_ok-changed_above-in-Some-clause-err
returns-in_ok-changed_above-in-Some-clause-err c = λ _. is-upper c.args.files.now c.args.place c.in-Some.at c.index-files-at.result _ (place-within _ _ _ c.in-Some.is c.requires) c.index-files-at.is c.in-Some.is c.in_ok-changed_above-in-Some.ensures
