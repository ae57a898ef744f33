use Rattle.rx_cppflags.proofs.SameInputs.{told_apart}
use Rattle.rx_cppflags.proofs.local_outputs.apart_paths.Goals as goal

pub returns : goal.returns
returns c =
    told_apart c.args.outputs.now c.args.paths _ _ c.apart_from.result (rw (c.in_ok-try_clone.ensures, c.as_slice.ensures) at c.in_ok-with_copies.ensures) c.in_ok-others.ensures.members
    (rw (c.as_slice-2.ensures, c.as_slice-3.ensures) at c.apart_from.ensures)
