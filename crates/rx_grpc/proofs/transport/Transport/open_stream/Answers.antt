use Rattle.std.proofs.Common.{rules}
use Rattle.rx_hpack.specs.Header.{views}
use Rattle.rx_grpc.proofs.AskLemmas.{asked_by}
use Rattle.rx_grpc.proofs.StreamLemmas.{started_by}
use Rattle.rx_grpc.proofs.transport.Transport.open_stream.Goals as goal

pub returns-clause-started : goal.returns-clause-started
returns-clause-started g c = started_by _ (g.L.Link.rule c.self.inside.link) _ c.self.inside.conn c.next_stream.new.conn (views c.args.headers.now) c.next_stream.result (c.self.invariant.0 (search rules)).kept c.next_stream.ensures.opened

pub returns-clause-asked : goal.returns-clause-asked
returns-clause-asked g c = asked_by _ (g.L.Link.rule c.self.inside.link) _ c.self.inside.conn c.next_stream.new.conn (views c.args.headers.now) c.next_stream.result (c.self.invariant.0 (search rules)).kept c.next_stream.ensures.opened
