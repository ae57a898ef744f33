use Rattle.std.proofs.Common.{sym, ◌∙◌}
use Rattle.rx_lex.specs.Letters.{letters_at, letter_before}
use Rattle.rx_lex.proofs.RawLemmas.{split_more}
use Rattle.rx_lex.proofs.raw.is_split_within.Goals as goal

pub loop-left-preserved : goal.loop-left-preserved
loop-left-preserved c =
    let text = c.args.text.now in
    let passed = c.in-Some.ensures in
    record {
      same = c.loop-left.invariant.same ∙ split_more c.loop-left.left (letter_before text _ c.in-Some.next) (letters_at text c.loop-left.at)
          (letters_at text c.in-Some.next) c.loop-left-test.true passed.is (sym c.if-is_split.ensures);
      within = passed.within;
    }
