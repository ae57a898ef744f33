use Rattle.std.proofs.Common.{◌∙◌, arith}
use Rattle.rx_lex.specs.Letters.{letters_at, letter_before}
use Rattle.rx_lex.proofs.LetterLemmas.{begins_next, begins_not, rest_next}
use Rattle.rx_lex.proofs.letters.begins.Goals as goal

pub returns-in_default : goal.returns-in_default
returns-in_default c = c.loop-byte.invariant.same
    ∙ begins_not c.args.wanted.now c.loop-byte.byte-index (letters_at c.args.text.now c.loop-byte.at) (omega arith) c.in_default.ensures

pub loop-byte-preserved : goal.loop-byte-preserved
loop-byte-preserved c =
    let n = c.in-Some.ensures in
    record {
      same = c.loop-byte.invariant.same
          ∙ begins_next c.args.wanted.now c.loop-byte.byte-index (letters_at c.args.text.now c.loop-byte.at)
          (letter_before c.args.text.now c.in-Some.found c.in-Some.next) (letters_at c.args.text.now c.in-Some.next) (omega arith) n.is c.if-found-byte.false;
      rest = rest_next (letters_at c.args.text.now c.args.from) (letters_at c.args.text.now c.loop-byte.at) c.loop-byte.byte-index
          (letter_before c.args.text.now c.in-Some.found c.in-Some.next) (letters_at c.args.text.now c.in-Some.next) c.loop-byte.invariant.rest n.is;
      on = omega (arith, n.on);
      within = n.within;
    }
