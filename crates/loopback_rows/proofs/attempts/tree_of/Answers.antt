use Rattle.std.proofs.Common.{◌≡◌, refl, subst}
use Rattle.rx_base.specs.Digests.{digest_of}
use Rattle.rx_base.proofs.Members.{Contains-from_map}
use Rattle.rx_tree.specs.declared.blobs.Blob.{Blob}
use Rattle.rx_tree.specs.Blobs.{blob_of}
use Rattle.loopback_rows.proofs.attempts.tree_of.Goals as goal

pub returns-in-Ok : goal.returns-in-Ok
returns-in-Ok c = λ directory there.
    let from = Contains-from_map blob_of _ directory ((c.in-Ok.ensures.blobs directory).1 there) in
    subst (λ (blob : Blob). digest_of blob.bytes ≡ blob.digest) from.2 refl
