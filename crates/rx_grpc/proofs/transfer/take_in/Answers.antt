use Rattle.std.proofs.Common.{rules}
use Rattle.rx_grpc.proofs.MoveLemmas.{exchange_none, exchange_fed, feeds_ok, feeds_broken}
use Rattle.rx_grpc.proofs.transfer.take_in.Goals as goal

pub returns-then-count-eq0-clause-exchange : goal.returns-then-count-eq0-clause-exchange
returns-then-count-eq0-clause-exchange g c =
    exchange_none _ _ _ _ c.in_ok-count.count _ (search rules) c.in_ok-count.ensures.wire

pub returns-in-Ok-clause-exchange : goal.returns-in-Ok-clause-exchange
returns-in-Ok-clause-exchange g c =
    let is = feeds_ok c.args.conn.now.state.fault c.args.conn.now c.feed.new.self c.split_at.result.0.now _ c.in-Ok.ensures.feeds in
    exchange_fed _ _ c.args.conn.now c.feed.new.self c.split_at.result.0.now _ c.in_ok-count.count c.args.room.now _ c.in_ok-count.ensures.wire c.split_at.ensures.front (search rules) (search rules) c.requires.drained is

pub returns-in-Err-Protocol-clause-exchange : goal.returns-in-Err-Protocol-clause-exchange
returns-in-Err-Protocol-clause-exchange g c =
    let is = feeds_broken c.args.conn.now.state.fault c.args.conn.now c.feed.new.self c.split_at.result.0.now _ c.in-Err-Protocol.code (search rules) c.requires.fault c.in-Err-Protocol.ensures.feeds in
    exchange_fed _ _ c.args.conn.now c.feed.new.self c.split_at.result.0.now _ c.in_ok-count.count c.args.room.now _ c.in_ok-count.ensures.wire c.split_at.ensures.front (search rules) (search rules) c.requires.drained is
