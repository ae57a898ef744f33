use Rattle.std.proofs.Common.{◌∙◌, ap, arith, sym}
use Rattle.rx_daemon.specs.Gates.{Claimed}
use Rattle.rx_daemon.proofs.GateLemmas.{gate-more, is-given, not-lost}
use Rattle.rx_daemon.proofs.RightLemmas.{longer, next-right}
use Rattle.rx_daemon.proofs.gate.Gate.next.Goals as goal

pub returns-in-Ok-Some-clause-desk : goal.returns-in-Ok-Some-clause-desk
returns-in-Ok-Some-clause-desk g c =
    let h = c.self.invariant.0 in
    let next = rw c.in-Ok-Some.field-0-is at c.in-Ok-Some.ensures.next in
    let counted = rw c.in-Ok-Some.field-0-is at c.in-Ok-Some.ensures.counted in
    let kind = rw (c.in-Ok-Some.field-0-is, counted) at c.in-Ok-Some.ensures.gives in
    let asked_for = sym c.is_some.ensures ∙ c.if-is_some.false in
    rw (ap (λ (s : Claimed). s.number) c.new-claim.ensures, c.self.invariant.1)
    (is-given _ _ _ g.K.Desks.gives _ _ _ h.desks c.in-Ok-Some.desk h.gave next h.count (h.each (not-lost _ asked_for)) (h.kinds _ _ kind))

pub new-claim-requires : goal.new-claim-requires
new-claim-requires g c =
    let h = c.self.invariant.0 in
    record { right = rw c.self.invariant.1 (next-right _ _ _ _ _ h.rights_are c.in-Some.ensures.items h.numbers) }

pub overflow_add-self : goal.overflow_add-self
overflow_add-self g c =
    let h = c.self.invariant.0 in
    omega (arith, c.self.invariant.1, h.numbers, h.most, longer _ _ _ c.in-Some.ensures.items)

pub invariant_of-self-in-Ok-Some : goal.invariant_of-self-in-Ok-Some
invariant_of-self-in-Ok-Some g c =
    let h = c.self.invariant.0 in
    let next = rw c.in-Ok-Some.field-0-is at c.in-Ok-Some.ensures.next in
    let counted = rw c.in-Ok-Some.field-0-is at c.in-Ok-Some.ensures.counted in
    let asked_for = sym c.is_some.ensures ∙ c.if-is_some.false in
    let later = rw c.in-Ok-Some.field-0-is at c.in-Ok-Some.ensures.cause in (
      gate-more _ _ _ _ g.F.Front.gives _ g.K.Desks.gives _ _ _ _ _ _ _ _ _ _ _ c.in-Ok-Some.desk h asked_for next counted later.later c.take.ensures.total c.in-Some.ensures.items,
      omega (arith, c.self.invariant.1, c.take.ensures.total),
    )
