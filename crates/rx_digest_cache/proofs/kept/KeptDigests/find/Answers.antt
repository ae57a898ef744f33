use Rattle.std.proofs.Common.{◌≡◌, subst, sym}
use Rattle.std.specs.Prelude.{Some}
use Rattle.rx_base.specs.Digests.{digest_of}
use Rattle.rx_digest_cache.proofs.KeptLemmas.{same-stamp}
use Rattle.rx_digest_cache.proofs.kept.KeptDigests.find.Goals as goal

pub returns-clause-tied : goal.returns-clause-tied
returns-clause-tied g c = λ honest.
    let entry = c.in_ok-entry.entry.now in
    subst (λ stamp. entry.digest ≡ digest_of (g.W.World.content c.args.path.now stamp))
    (same-stamp entry.stamp c.args.stamp c.ne.result c.ne.ensures c.if-ne.false)
    (c.self.invariant.1 honest c.args.path.now entry (sym {a = Some entry} c.in_ok-entry.ensures.value))
