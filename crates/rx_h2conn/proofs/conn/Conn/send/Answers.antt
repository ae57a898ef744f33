use Rattle.std.proofs.Common.{◌≡◌, length, ◌&&◌, nat_eq, sym, subst, None, false}
use Rattle.rx_h2conn.specs.Session.{Reading}
use Rattle.rx_h2conn.specs.State.{state_of}
use Rattle.rx_h2conn.specs.Streams.{IsHeld}
use Rattle.rx_h2conn.specs.Output.{sent, allowed}
use Rattle.rx_h2conn.proofs.HeldLemmas.{held_sent, held_answered}
use Rattle.rx_h2conn.proofs.conn.Conn.send.Goals as goal

pub returns-clause-held : goal.returns-clause-held
returns-clause-held c =
    let s = state_of c.self.inside.reader.machine in
    let id = c.args.stream in
    let piece = c.args.piece.now in
    let last = c.args.last in
    let held : s.fault ≡ None → IsHeld s id false = subst (λ (r : Reading). r.state.fault ≡ None → IsHeld r.state id false) (sym c.self.view_is) c.requires in
    held_answered s.fault s (sent s id piece last) (state_of c.send.new.self.machine) (allowed s id (length piece)) c.send.result (λ _. id) (λ n. last && nat_eq n (length piece)) c.send.ensures.answers (λ none. held_sent s id piece last (held none))
