use Rattle.std.proofs.Common.{◌∙◌, sym, refl}
use Rattle.rx_base.proofs.PathBelow.{starts_with-more}
use Rattle.rx_base.proofs.paths.starts_with_directory.Goals as goal

pub returns-then-not-starts_with : goal.returns-then-not-starts_with
returns-then-not-starts_with c =
    sym (starts_with-more c.args.bytes.now c.args.directory.now 47 ∙ rw (sym c.starts_with.ensures.value ∙ c.if-not-starts_with.true) refl)

pub returns : goal.returns
returns c =
    c.starts_with-2.ensures.value
    ∙ sym (starts_with-more c.args.bytes.now c.args.directory.now 47 ∙ rw (sym c.starts_with.ensures.value ∙ c.if-not-starts_with.false, ← c.split_at.ensures.back) refl)
