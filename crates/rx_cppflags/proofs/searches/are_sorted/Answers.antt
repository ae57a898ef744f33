use Rattle.std.proofs.Common.{◌∙◌, sym, arith}
use Rattle.rx_cppflags.proofs.SearchLemmas.{ascends_more, ascending}
use Rattle.rx_cppflags.proofs.searches.are_sorted.Goals as goal

pub loop-i-preserved : goal.loop-i-preserved
loop-i-preserved c =
    ascends_more c.args.paths.now c.loop-i.i _ _ _ c.loop-i.invariant (omega arith) c.loop-i-test.true c.index-paths-i.is c.index-paths-i-in-loop-i.is (sym c.cmp.ensures ∙ c.in-Less.is)

pub returns : goal.returns
returns c = λ _. ascending c.args.paths.now c.loop-i.i c.loop-i-test.false c.loop-i.invariant
