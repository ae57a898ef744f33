use Rattle.std.proofs.Common.{refl}
use Rattle.rx_engine.proofs.Entries.{published-enters, unpublished-enters}
use Rattle.rx_engine.proofs.Unpublished.{failed}
use Rattle.rx_engine.proofs.concluding.publish_or_fail.Goals as goal
use Rattle.rx_engine.proofs.concluding.publish_or_fail.Goals.{in-None, in-Some}

pub returns-clause-journal : goal.returns-clause-journal
returns-clause-journal g c = λ first.
    elim c.match-won.branch [
      | in-Some w ↦ rw w.board-is
          (published-enters g.P.Place c.args.board.now w.publish-answered.new.board c.args.session c.args.attempted.tally.ends _ w.publish-answered.result c.or_give_up.result
          (rw w.in-Some.is at first)
          w.publish-answered.ensures.journal w.publish-answered.ensures.err (rw w.answered-is at c.or_give_up.ensures))
      | in-None w ↦ rw w.board-is
          (unpublished-enters g.P.Place c.args.board.now c.args.board.now c.args.session c.args.attempted.tally.ends c.or_give_up.result refl
          (failed c.args.attempted.heard.cancelled c.args.attempted.tally.ends w.answer_unpublished-answered.result c.or_give_up.result
          (rw w.as_slice.ensures at w.answer_unpublished-answered.ensures) (rw w.answered-is at c.or_give_up.ensures)))
    ]
