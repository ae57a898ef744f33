use Rattle.std.proofs.Common.{◌+◌, ◌∷◌, ◌≡◌, [], ap, arith, length, length-append, rules}
use Rattle.rx_daemon.proofs.EndedLemmas.{unasked-more}
use Rattle.rx_daemon.proofs.RunLemmas.{runs-more, stop-ended}
use Rattle.rx_daemon.proofs.proxy.serve_all.Goals as goal

pub loop-served-preserved : goal.loop-served-preserved
loop-served-preserved g c =
    let desks = rw (c.unwrap-in-Ok-Some.ensures, c.reserve-in-loop-served.ensures.items) at c.push-in-Ok-Some.ensures.items in
    let transcripts = rw (c.unwrap.ensures, c.reserve.ensures.items) at c.push.ensures.items in
    let next = rw c.in-Ok-Some.field-0-is at c.in-Ok-Some.ensures.next in
    let session = c.serve_session-transcript.ensures in
    let number : c.loop-served.served + 1 ≡ 1 + length c.loop-served.transcripts.items = omega (arith, c.loop-served.invariant.served_is) in
    rw (desks, transcripts) (record {
      runs = runs-more _ _ _ _ _ _ _ _ _ _ _ _ _ _ _ (c.loop-served.served + 1) c.loop-served.invariant.runs next number (record {
        own = rw c.loop-served.invariant.root at session.session;
        number_is = session.number;
        journal = rw c.loop-served.invariant.limit at session.journal;
        later = session.board.later;
        clean = rw c.loop-served.invariant.root at session.clean;
      });
      unasked = unasked-more c.loop-served.transcripts.items c.serve_session-transcript.result.0 c.loop-served.invariant.unasked (search rules);
      served_is = omega (arith, c.loop-served.invariant.served_is, length-append c.loop-served.transcripts.items (c.serve_session-transcript.result.0 ∷ []));
      later = search rules;
      root = search rules;
      limit = search rules;
      opening = search rules;
    })

pub returns-in-Ok-None-clause-stop : goal.returns-in-Ok-None-clause-stop
returns-in-Ok-None-clause-stop g c =
    let next = rw c.in-Ok-None.field-0-is at c.in-Ok-None.ensures.next in
    let same = ap length c.reserve.ensures.items in (
      stop-ended _ _ _ c.loop-served.invariant.runs.left c.loop-served.invariant.runs.given next,
      omega (arith, c.loop-served-test.true, c.loop-served.invariant.served_is, same),
    )

pub returns-then-is_last-clause-runs : goal.returns-then-is_last-clause-runs
returns-then-is_last-clause-runs g c =
    let desks = rw (c.unwrap-in-Ok-Some.ensures, c.reserve-in-loop-served.ensures.items) at c.push-in-Ok-Some.ensures.items in
    let transcripts = rw (c.unwrap.ensures, c.reserve.ensures.items) at c.push.ensures.items in
    let next = rw c.in-Ok-Some.field-0-is at c.in-Ok-Some.ensures.next in
    let session = c.serve_session-transcript.ensures in
    let number : c.loop-served.served + 1 ≡ 1 + length c.loop-served.transcripts.items = omega (arith, c.loop-served.invariant.served_is) in
    rw (desks, transcripts)
    (runs-more _ _ _ _ _ _ _ _ _ _ _ _ _ _ _ (c.loop-served.served + 1) c.loop-served.invariant.runs next number (record {
      own = rw c.loop-served.invariant.root at session.session;
      number_is = session.number;
      journal = rw c.loop-served.invariant.limit at session.journal;
      later = session.board.later;
      clean = rw c.loop-served.invariant.root at session.clean;
    }))
