use Rattle.rx_lex.proofs.AngledLemmas.{searched_more, searched_none}
use Rattle.rx_lex.proofs.angled.angled_end.Goals as goal

pub loop-at-init : goal.loop-at-init
loop-at-init c = record { searched = searched_none c.args.text.now c.args.from; within = c.requires.room }

pub loop-at-preserved : goal.loop-at-preserved
loop-at-preserved c =
    let text = c.args.text.now in
    record {
      searched = searched_more text c.args.from c.loop-at.at c.step_over-at.result c.loop-at.invariant.searched c.loop-at-test.true
          c.if-byte-eq10.false c.if-byte-eq62.false c.step_over-at.ensures.value;
      within = c.step_over-at.ensures.within;
    }
