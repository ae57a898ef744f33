use Rattle.std.proofs.Common.{◌<◌, ℕ, List, length, arith}
use Rattle.std.proofs.lemmas.List.{length-map}
use Rattle.std.specs.Borrow.{Bor}
use Rattle.rx_base.specs.Texts.{texts}
use Rattle.rx_tree.proofs.EntryLemmas.{file_later}
use Rattle.rx_tree.proofs.entries.Entry.file_after.Goals as goal

pub returns-else-len-depth : goal.returns-else-len-depth
returns-else-len-depth c =
    let len = length-map c.self.inside.names.items (λ (name : Bor (List ℕ)). name.now) in
    let lt : c.args.depth < length (texts c.self.inside.names.items) = omega (arith, c.if-len-depth.false, c.len.ensures, c.self.inside.names.ok.0) in
    rw (← c.self.view_is, ← c.self.invariant) (file_later (texts c.self.inside.names.items) c.args.depth _ lt)
