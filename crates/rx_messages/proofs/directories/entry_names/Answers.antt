use Rattle.std.proofs.Common.{refl}
use Rattle.rx_messages.proofs.directories.entry_names.Goals as goal

pub returns : goal.returns
returns c =
    rw (c.in_ok-push_names-3.ensures, c.in_ok-push_names-2.ensures, c.in_ok-push_names.ensures, c.new-names.ensures.items, c.as_slice.ensures, c.as_slice-2.ensures, c.as_slice-3.ensures) refl
