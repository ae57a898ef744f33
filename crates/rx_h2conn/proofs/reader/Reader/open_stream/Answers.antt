use Rattle.rx_hpack.specs.Header.{views}
use Rattle.rx_h2conn.specs.State.{state_of}
use Rattle.rx_h2conn.specs.Open.{refusal, opened, next_id}
use Rattle.rx_h2conn.proofs.ConnLemmas.{conn_answered, refusal_none, sound_opened, opened-fault}
use Rattle.rx_h2conn.proofs.reader.Reader.open_stream.Goals as goal

pub returns-clause-conn : goal.returns-clause-conn
returns-clause-conn c =
    let s = state_of c.args.self.now.machine in
    let fields = views c.args.headers.now in
    conn_answered (refusal s) s (opened s fields c.args.last) (state_of c.open_stream.new.self) (next_id s) c.open_stream.result c.args.self.now.rest.items c.args.self.now.lacking c.open_stream.ensures (λ none. (refusal_none s none).0) (λ none. sound_opened s fields c.args.last (refusal_none s none).1) (opened-fault s fields c.args.last) c.requires.conn
