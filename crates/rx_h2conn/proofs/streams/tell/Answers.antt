use Rattle.std.proofs.Common.{false, arith}
use Rattle.rx_h2conn.specs.declared.stream.Stream.{Stream}
use Rattle.rx_h2conn.proofs.DueLemmas.{telling_goes_on, telling_rest, telling_ends}
use Rattle.rx_h2conn.proofs.streams.tell.Goals as goal

abbrev blank : Stream
blank = record { send = record { ahead = 0; behind = 0 }; receive = 0; owed = 0; client_done = false; client_reset = false; server_done = false; server_reset = false }

pub told-requires : goal.told-requires
told-requires c =
    let at = c.loop-at.at in
    let same = telling_rest c.args.streams.now c.loop-at.streams at blank c.loop-at.invariant in
    rw same (c.requires.small at blank (omega (arith, c.loop-at-test.true, c.loop-at.auto.streams)))

pub loop-at-preserved : goal.loop-at-preserved
loop-at-preserved c =
    telling_goes_on c.args.streams.now c.loop-at.streams c.loop-at.at c.told.result blank c.loop-at.invariant (omega (arith, c.loop-at-test.true, c.loop-at.auto.streams)) c.told.ensures

pub returns-clause-told : goal.returns-clause-told
returns-clause-told c = (telling_ends c.args.streams.now c.loop-at.streams c.loop-at.at c.loop-at.invariant (omega (arith, c.loop-at-test.false, c.loop-at.auto.streams))).0

pub returns-clause-due : goal.returns-clause-due
returns-clause-due c = (telling_ends c.args.streams.now c.loop-at.streams c.loop-at.at c.loop-at.invariant (omega (arith, c.loop-at-test.false, c.loop-at.auto.streams))).1
