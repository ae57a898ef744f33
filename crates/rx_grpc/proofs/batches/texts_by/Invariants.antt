use Rattle.std.proofs.Common.{◌≡◌, drop}
use Rattle.std.specs.BTreeMap.{get}
use Rattle.rx_base.specs.Digests.{by_digest}
use Rattle.rx_base.specs.declared.digests.Digest.{Digest}
use Rattle.rx_grpc.specs.Batches.{text_by}
use Rattle.rx_grpc.specs.Each.{each}
use Rattle.rx_grpc.proofs.EachLemmas.{onto}
use Rattle.rx_grpc.proofs.batches.texts_by.Given as goal

abbrev pub invariant-loop-digest : goal.invariant-loop-digest
invariant-loop-digest l =
    let f = λ (digest : Digest). text_by digest (get by_digest l.firsts digest) in
    each f l.digests ≡ onto l.texts.items (each f (drop l.digest-index l.digests))
