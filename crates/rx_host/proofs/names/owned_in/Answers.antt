use Rattle.std.proofs.Common.{sym, ◌∙◌}
use Rattle.std.proofs.lemmas.Bool.Decides.{Decides-eqb}
use Rattle.std.proofs.lemmas.Slice.Eq.{slice_eq-Decides}
use Rattle.rx_host.proofs.names.owned_in.Goals as goal

pub returns-then-eq : goal.returns-then-eq
returns-then-eq c =
    let same = (slice_eq-Decides Decides-eqb _ _ _ c.eq.ensures).0 c.if-eq.true in
    sym same ∙ c.as_str.ensures.value ∙ c.in_ok-exact.ensures
