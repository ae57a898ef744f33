use Rattle.rx_cppflags.proofs.SameInputs.{read_again}
use Rattle.rx_cppflags.proofs.readings.read.Goals as goal

pub returns : goal.returns
returns c = read_again c.args.command.now c.args.inputs.now _ _ _ c.read_sorted-2.result c.in_ok-copy_paths.ensures c.in_ok-inputs.ensures.members c.as_slice.ensures c.read_sorted-2.ensures
