use Rattle.rx_h2frame.proofs.SeenLemmas.{seen_sound, seen_for_good, seen_waits}
use Rattle.rx_h2frame.proofs.frame.next_frame.Goals as goal

pub returns-clause-sound : goal.returns-clause-sound
returns-clause-sound c = seen_sound c.args.largest c.args.bytes.now c.first_frame.result c.first_frame.ensures

pub returns-clause-for_good : goal.returns-clause-for_good
returns-clause-for_good c = seen_for_good c.args.largest c.args.bytes.now c.first_frame.result c.first_frame.ensures

pub returns-clause-waits : goal.returns-clause-waits
returns-clause-waits c = seen_waits c.args.largest c.args.bytes.now c.first_frame.result c.first_frame.ensures
