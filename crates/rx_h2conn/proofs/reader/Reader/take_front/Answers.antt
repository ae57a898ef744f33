use Rattle.rx_h2frame.specs.Seen.{frame_view}
use Rattle.rx_h2conn.specs.State.{state_of}
use Rattle.rx_h2conn.specs.Steps.{took}
use Rattle.rx_h2conn.proofs.SoundLemmas.{sound_took}
use Rattle.rx_h2conn.proofs.PieceLemmas.{ready_after}
use Rattle.rx_h2conn.proofs.reader.Reader.take_front.Goals as goal

pub returns-in-Ok-Frame-clause-ready : goal.returns-in-Ok-Frame-clause-ready
returns-in-Ok-Frame-clause-ready c =
    ready_after (state_of c.args.self.now.machine) (state_of c.take_frame-done.new.self) (took (state_of c.args.self.now.machine) (frame_view c.in-Ok-Frame.f)) c.clear.new.self.items c.take_frame-done.result c.take_frame-done.ensures (sound_took (state_of c.args.self.now.machine) (frame_view c.in-Ok-Frame.f) c.requires.ready.sound) c.clear.ensures.items
