use Rattle.std.proofs.Common.{◌≡◌, ◌<◌, ◌+◌, ◌∙◌, ap, sym, arith}
use Rattle.rx_lex.specs.Letters.{letters_at}
use Rattle.rx_lex.proofs.LetterLemmas.{letters_splice}
use Rattle.rx_lex.proofs.letters.slow_letter.Goals as goal

pub loop-at-preserved : goal.loop-at-preserved
loop-at-preserved c =
    let more : 0 < c.splice_len-skip.result = omega arith in
    let place : c.loop-at.at + 1 + c.splice_len-skip.result ≡ c.loop-at.at + (1 + c.splice_len-skip.result) = omega arith in
    record {
      same = c.loop-at.invariant.same
          ∙ letters_splice c.args.text.now c.loop-at.at c.splice_len-skip.result c.loop-at-test.true c.if-byte-ne92.false
          (sym c.splice_len-skip.ensures.value) more
          ∙ ap (letters_at c.args.text.now) place;
      on = omega arith;
      within = omega (arith, c.splice_len-skip.ensures.within);
    }
