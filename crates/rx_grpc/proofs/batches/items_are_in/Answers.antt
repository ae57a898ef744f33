use Rattle.std.proofs.Common.{ap, sym, ◌∙◌}
use Rattle.std.specs.BTreeSet.{contains}
use Rattle.std.proofs.lemmas.List.Folds.{list_all-map}
use Rattle.rx_base.specs.Digests.{by_digest}
use Rattle.rx_base.specs.declared.digests.Digest.{Digest}
use Rattle.rx_grpc.specs.declared.blob_items.Given.{Given}
use Rattle.rx_grpc.proofs.BatchLemmas.{none-fails}
use Rattle.rx_grpc.proofs.batches.items_are_in.Goals as goal

pub returns-then-not-contains : goal.returns-then-not-contains
returns-then-not-contains c =
    let test = λ (item : Digest × Given). contains by_digest c.args.set.now item.0 in
    none-fails test c.args.items.now c.loop-item.item-index c.item-item.result c.loop-item-test.true (ap test (sym c.item-item.is) ∙ sym c.contains.ensures ∙ c.if-not-contains.true)
    ∙ sym (list_all-map (contains by_digest c.args.set.now) (λ (item : Digest × Given). item.0) c.args.items.now)
