use Rattle.std.proofs.Common.{◌∙◌, ◌<◌, ap, arith, length, sym}
use Rattle.std.specs.Ordering.{is_eq}
use Rattle.rx_tree.proofs.ShelfLemmas.{at_found, at_other, past_all}
use Rattle.rx_tree.proofs.shelves.Shelf.get.Goals as goal

pub returns-then-at-len : goal.returns-then-at-len
returns-then-at-len c =
    let point = rw c.deref.ensures.value at c.first_at-at.ensures in
    rw (← c.self.view_is) (past_all c.self.inside.blobs.now c.self.inside.sorted.items c.self.invariant c.args.digest.now c.first_at-at.result point (omega (arith, c.len.ensures, c.if-at-len.true, c.self.inside.sorted.ok.0)))

pub returns-then-is_eq : goal.returns-then-is_eq
returns-then-is_eq c =
    let point = rw c.deref.ensures.value at c.first_at-at.ensures in
    let lt : c.first_at-at.result < length c.self.inside.sorted.items = omega (arith, c.len.ensures, c.if-at-len.false, c.self.inside.sorted.ok.0) in
    rw (← c.self.view_is, c.as_slice.ensures)
    (at_found c.self.inside.blobs.now c.self.inside.sorted.items c.self.invariant c.args.digest.now c.first_at-at.result point c.index-blob.result.now lt c.index-blob.ensures
    (ap is_eq (sym c.cmp.ensures) ∙ sym c.is_eq.ensures ∙ c.if-is_eq.true))

pub returns-else-is_eq : goal.returns-else-is_eq
returns-else-is_eq c =
    let point = rw c.deref.ensures.value at c.first_at-at.ensures in
    let lt : c.first_at-at.result < length c.self.inside.sorted.items = omega (arith, c.len.ensures, c.if-at-len.false, c.self.inside.sorted.ok.0) in
    rw (← c.self.view_is)
    (at_other c.self.inside.blobs.now c.self.inside.sorted.items c.self.invariant c.args.digest.now c.first_at-at.result point c.index-blob.result.now lt c.index-blob.ensures
    (ap is_eq (sym c.cmp.ensures) ∙ sym c.is_eq.ensures ∙ c.if-is_eq.false))
