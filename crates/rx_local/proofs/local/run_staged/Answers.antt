use Rattle.std.proofs.Common.{◌≡◌, pos, rules}
use Rattle.std.proofs.lemmas.Result.{err_from_is_err_and}
use Rattle.rx_local.proofs.Lacking.{missing-run}
use Rattle.rx_local.proofs.local.run_staged.Goals as goal

pub returns-in_err-files-clause-missing : goal.returns-in_err-files-clause-missing
returns-in_err-files-clause-missing g c =
    let p = err_from_is_err_and c.from_residual.result c.from_residual.ensures.1 in
    let zero : c.in-Ok.exit.code ≡ pos 0 = search rules in
    rw (p.1, p.2)
    (missing-run g.W.World.tool c.args.command.now (g.B.Bench.tree c.args.bench.now) (g.B.Bench.tree c.run.new.self) c.in-Ok.exit g.W.World.tools_honest _ c.in-Ok.ensures.honest zero
    (rw c.as_slice.ensures at c.in_err-files.ensures.missing))
