use Rattle.std.proofs.Common.{length}
use Rattle.rx_h2conn.specs.State.{state_of}
use Rattle.rx_h2conn.specs.Output.{sent, allowed}
use Rattle.rx_h2conn.proofs.ConnLemmas.{conn_answered, sound_sent, sent-fault, small_id}
use Rattle.rx_h2conn.proofs.reader.Reader.send.Goals as goal

pub send-requires-clause-id : goal.send-requires-clause-id
send-requires-clause-id c = λ none. small_id (state_of c.args.self.now.machine) c.args.id (c.requires.opened none) c.requires.conn.within.count

pub returns-clause-conn : goal.returns-clause-conn
returns-clause-conn c =
    let s = state_of c.args.self.now.machine in
    let piece = c.args.piece.now in
    conn_answered s.fault s (sent s c.args.id piece c.args.last) (state_of c.send.new.self) (allowed s c.args.id (length piece)) c.send.result c.args.self.now.rest.items c.args.self.now.lacking c.send.ensures (λ none. none) (λ none. sound_sent s c.args.id piece c.args.last (c.requires.opened none)) (sent-fault s c.args.id piece c.args.last) c.requires.conn
