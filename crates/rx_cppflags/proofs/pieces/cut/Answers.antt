use Rattle.rx_cppflags.proofs.WordSteps.{passes_over, goes_on, ends}
use Rattle.rx_cppflags.proofs.pieces.cut.Goals as goal

pub loop-word-preserved-then-is_value : goal.loop-word-preserved-then-is_value
loop-word-preserved-then-is_value c =
    passes_over _ _ _ _ c.in-Some.word.now _ _ _ c.loop-word.invariant c.if-is_value.true (c.in-Some.ensures.cases.0)

pub loop-word-preserved : goal.loop-word-preserved
loop-word-preserved c =
    goes_on _ _ _ _ c.in-Some.word.now _ _ _ _ _ _ c.loop-word.invariant c.if-is_value.false (c.in-Some.ensures.cases.0) (cc) c.in_ok-say.ensures c.uses_next-is_value.ensures

pub returns : goal.returns
returns c = ends _ _ _ _ _ _ c.loop-word.invariant c.in_default.ensures.cases
