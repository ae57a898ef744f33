use Rattle.std.proofs.Common.{◌∙◌, [], ◌∷◌}
use Rattle.std.proofs.lemmas.Bool.Decides.{Decides-eqb}
use Rattle.std.proofs.lemmas.Slice.Eq.{strip_prefix_is}
use Rattle.rx_base.proofs.FrontOrder.{before_front, before_other, is_lt-partial}
use Rattle.rx_base.proofs.sorted_paths.is_before.Goals as goal

pub returns-in-Some : goal.returns-in-Some
returns-in-Some c =
    let whole = rw c.in-Some.is at (strip_prefix_is Decides-eqb c.args.text.now c.args.other.now c.strip_prefix.result c.strip_prefix.ensures.cases) in
    rw c.as_slice.ensures at c.lt.ensures ∙ is_lt-partial c.in-Some.rest.now (47 ∷ []) ∙ before_front c.args.text.now c.args.other.now c.in-Some.rest.now whole

pub returns-in-None : goal.returns-in-None
returns-in-None c =
    let none = rw c.in-None.is at (strip_prefix_is Decides-eqb c.args.text.now c.args.other.now c.strip_prefix.result c.strip_prefix.ensures.cases) in
    c.lt-in-None.ensures ∙ is_lt-partial c.args.text.now c.args.other.now ∙ before_other c.args.text.now c.args.other.now none
