use Rattle.std.proofs.Common.{rules, sym, ap}
use Rattle.std.proofs.lemmas.Result.{err_from_is_err_and}
use Rattle.rx_reach.specs.Tries.{name_at}
use Rattle.rx_reach.proofs.TryLemmas.{nothing-yet, puts, puts-nothing}
use Rattle.rx_reach.proofs.tries.Tries.keep.Goals as goal

pub returns-in_err-put_name-clause-same : goal.returns-in_err-put_name-clause-same
returns-in_err-put_name-clause-same c =
    let written = c.get_mut.follows.holds c.put_name.new.names in
    let p = err_from_is_err_and c.from_residual.result c.from_residual.ensures.1 in
    rw p.1
    (puts-nothing c.args.self.now.by_dir (c.get_mut.follows.lender c.put_name.new.names) c.args.dir.now c.in-Some.names.now c.put_name.new.names
    (λ x. ap (λ found. name_at found x) (sym c.in-Some.ensures.value)) (written.3 (search rules)) c.in_err-put_name.ensures.same)

pub returns-in-Some-clause-put : goal.returns-in-Some-clause-put
returns-in-Some-clause-put c =
    let written = c.get_mut.follows.holds c.put_name.new.names in
    puts c.args.self.now.by_dir (c.get_mut.follows.lender c.put_name.new.names) c.args.dir.now c.args.name.now c.in-Some.names.now c.put_name.new.names c.args.tried
    (λ x. ap (λ found. name_at found x) (sym c.in-Some.ensures.value)) (written.3 (search rules)) c.in_ok-put_name.ensures.put

pub returns-clause-put : goal.returns-clause-put
returns-clause-put c =
    puts c.args.self.now.by_dir c.insert.new.self c.args.dir.now c.args.name.now c.new-names.result c.put_name-2.new.names c.args.tried
    (nothing-yet _ c.new-names.result c.in_default.ensures.value c.new-names.ensures.empty)
    (rw (c.get_mut.follows.holds-at-none, c.in_ok-try_clone.ensures) at c.in_ok-insert.ensures.updates) c.in_ok-put_name-2.ensures.put
