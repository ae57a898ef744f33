use Rattle.std.proofs.Common.{◌∙◌, refl}
use Rattle.rx_tree.proofs.NameOrder.{by_names-texts, no_content}
use Rattle.rx_tree.proofs.entries.EntryOrd.cmp.Goals as goal

pub returns : goal.returns
returns c =
    let names = c.cmp-names.ensures ∙ by_names-texts c.self.inside.names.items c.other.inside.names.items in
    let first = no_content c.self.inside.file c.is_none.result c.is_none.ensures in
    let second = no_content c.other.inside.file c.is_none-2.result c.is_none-2.ensures in
    rw (← c.self.view_is, ← c.other.view_is, first, second, ← c.self.invariant, ← c.other.invariant, ← names) (c.then.ensures ∙ rw c.cmp.ensures refl)
