-- Book and share have one number, and no two slips have it.
use Rattle.std.proofs.Common.{sym, ◌∙◌}
use Rattle.rx_race.proofs.SlipLemmas.{code-same}
use Rattle.rx_race.proofs.desk.rewrite.Goals as goal

pub returns-clause-agree : goal.returns-clause-agree
returns-clause-agree g c =
    let same = c.audit.ensures.whole c.requires.whole in
    code-same c.args.held c.args.from (sym c.requires.held ∙ sym same ∙ c.requires.from)
