use Rattle.std.proofs.Common.{◌≡◌, ◌∙◌, ap, cond, sym, true, false, Some}
use Rattle.std.specs.Prelude.{is_some}
use Rattle.std.specs.Ordering.{eq_by_cmp}
use Rattle.rx_base.specs.Digests.{by_digest}
use Rattle.rx_grpc.specs.Batches.{first_for}
use Rattle.rx_grpc.proofs.BatchLemmas.{first-comes, first-stays}
use Rattle.rx_grpc.proofs.batches.firsts_of.Goals as goal

pub loop-digest-preserved-in_ok-insert-2 : goal.loop-digest-preserved-in_ok-insert-2
loop-digest-preserved-in_ok-insert-2 c =
    let none : is_some (first_for c.loop-digest.yielded c.in-Some.digest) ≡ false =
    sym (ap is_some (c.loop-digest.invariant c.in-Some.digest)) ∙ sym c.contains_key.ensures ∙ c.if-not-contains_key.true in
    λ q. c.in_ok-insert.ensures.updates.0 q ∙ ap (λ x. cond (eq_by_cmp by_digest c.in-Some.digest q) (Some c.in-Some.given) x) (c.loop-digest.invariant q)
    ∙ sym (first-comes c.loop-digest.yielded c.in-Some.digest c.in-Some.given q none)

pub loop-digest-preserved : goal.loop-digest-preserved
loop-digest-preserved c =
    let there : is_some (first_for c.loop-digest.yielded c.in-Some.digest) ≡ true =
    sym (ap is_some (c.loop-digest.invariant c.in-Some.digest)) ∙ sym c.contains_key.ensures ∙ c.if-not-contains_key.false in
    λ q. c.loop-digest.invariant q ∙ sym (first-stays c.loop-digest.yielded c.in-Some.digest c.in-Some.given q there)
