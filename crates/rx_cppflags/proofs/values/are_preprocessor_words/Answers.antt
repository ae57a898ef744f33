use Rattle.std.proofs.Common.{lit<, arith, length}
use Rattle.std.proofs.lemmas.List.{length_push}
use Rattle.std.proofs.lemmas.Iterator.Consumers.{YieldsList-turn, YieldsList-end}
use Rattle.std.proofs.lemmas.Iterator.Splits.{YieldsList-from_str_split}
use Rattle.rx_cppflags.specs.Values.{is_preprocessor_word, listed}
use Rattle.rx_cppflags.proofs.ListedWords.{ends, fails, passes}
use Rattle.rx_cppflags.proofs.values.are_preprocessor_words.Goals as goal

pub loop-word-preserved : goal.loop-word-preserved
loop-word-preserved c =
    let t = YieldsList-turn (YieldsList-from_str_split 44 c.args.text.now (lit< tt) (cc) (cc) (cc)) c.loop-word.yielded _ c.loop-word.yielded_by _ _ c.in-Some.word c.in-Some.is c.next.ensures.steps in
    rw length_push (passes is_preprocessor_word (listed c.args.text.now) (length c.loop-word.yielded) c.in-Some.word.now t c.loop-word.invariant (cc))

pub returns-then-not-is_preprocessor_word : goal.returns-then-not-is_preprocessor_word
returns-then-not-is_preprocessor_word c =
    let t = YieldsList-turn (YieldsList-from_str_split 44 c.args.text.now (lit< tt) (cc) (cc) (cc)) c.loop-word.yielded _ c.loop-word.yielded_by _ _ c.in-Some.word c.in-Some.is c.next.ensures.steps in
    fails is_preprocessor_word (listed c.args.text.now) (length c.loop-word.yielded) c.in-Some.word.now t c.loop-word.invariant (cc)

pub returns : goal.returns
returns c =
    let t = YieldsList-end (YieldsList-from_str_split 44 c.args.text.now (lit< tt) (cc) (cc) (cc)) c.loop-word.yielded _ c.loop-word.yielded_by _ _ c.in-None.is c.next.ensures.steps in
    ends is_preprocessor_word (listed c.args.text.now) (length c.loop-word.yielded) (omega (arith, t.1)) c.loop-word.invariant
