use Rattle.std.proofs.Common.{◌∙◌, ap, drop}
use Rattle.rx_cppflags.proofs.ReadingSteps.{told_reading}
use Rattle.rx_cppflags.proofs.readings.read_sorted.Goals as goal

pub returns : goal.returns
returns c =
    told_reading c.args.command.now c.args.inputs.now _ _ _ _ _ _ _ _ c.read_pieces.result c.new-named.ensures.items (c.arguments-words.ensures ∙ ap (drop 1) c.as_slice.ensures) c.in_ok-cut.ensures c.deref.ensures.value
    c.in_ok-made.ensures c.as_slice-2.ensures c.in_ok-add_made.ensures c.deref-2.ensures.value c.read_pieces.ensures
