-- Digests that tie are the same.
use Rattle.std.proofs.Common.{◌≡◌, ◌∙◌, ℕ, List, ap}
use Rattle.std.specs.Ordering.{nat_cmp}
use Rattle.std.specs.Cmp.Lexicographic.{slice_cmp}
use Rattle.std.specs.FinMap.{IsAntisymmetric, nat_cmp-IsAntisymmetric, slice_cmp-IsAntisymmetric}
use Rattle.rx_base.specs.Digests.{by_digest}
use Rattle.rx_base.specs.declared.digests.Digest.{Digest}
use Rattle.rx_base.proofs.Orderings.{then-Equal}

pub by_digest-same : IsAntisymmetric by_digest
by_digest-same x y e =
    let parts = then-Equal (slice_cmp nat_cmp x.hash y.hash) (nat_cmp x.size y.size) e in
    ap (λ (hash : List ℕ). let d : Digest = record { hash = hash; size = x.size } in d) (slice_cmp-IsAntisymmetric nat_cmp-IsAntisymmetric x.hash y.hash parts.0)
    ∙ ap (λ (size : ℕ). let d : Digest = record { hash = y.hash; size = size } in d) (nat_cmp-IsAntisymmetric x.size y.size parts.1)
