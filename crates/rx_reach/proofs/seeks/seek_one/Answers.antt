use Rattle.std.proofs.Common.{[], ◌∷◌}
use Rattle.std.proofs.lemmas.Result.{err_from_is_err_and}
use Rattle.rx_reach.specs.declared.tries.Candidate.TheVariants as candidate
use Rattle.rx_reach.specs.Candidates.{IsTried, Try}
use Rattle.rx_reach.specs.Progress.{Seeks}
use Rattle.rx_reach.specs.Scenes.{Always}
use Rattle.rx_reach.proofs.FollowLemmas.{tried-no_text}
use Rattle.rx_reach.proofs.KnownLemmas.{all-kept, known-kept, taken-known}
use Rattle.rx_reach.proofs.ProgressLemmas.{takes-none}
use Rattle.rx_reach.proofs.ScanLemmas.{ends-at-once, scans-none, scans-say, scans-sees}
use Rattle.rx_reach.proofs.SeekLemmas.{seeks-one, stays-same}
use Rattle.rx_reach.proofs.seeks.seek_one.Goals as goal

pub returns-in_default-clause-ok : goal.returns-in_default-clause-ok
returns-in_default-clause-ok g c =
    let t : Try = record { dir = c.args.dir.now; name = c.args.name.now } in
    scans-none _ _ _ _ (λ scene. Seeks scene c.args.blamed.now (t ∷ []) c.args.progress.now c.args.progress.now)
    (λ scene _. seeks-one scene c.args.blamed.now t (record { candidate = candidate.Nothing; left = [] }) c.args.progress.now c.args.progress.now
    (tried-no_text scene t c.in_default.ensures.cases.0) (takes-none c.args.blamed.now c.args.progress.now))

pub returns-in_default-clause-stays : goal.returns-in_default-clause-stays
returns-in_default-clause-stays g c = stays-same c.args.progress.now

pub returns-in-Some-clause-ok : goal.returns-in-Some-clause-ok
returns-in-Some-clause-ok g c =
    let t : Try = record { dir = c.args.dir.now; name = c.args.name.now } in
    let right = rw c.in-Ok.ensures.cases.0 at c.in-Some.ensures in
    scans-none _ _ _ _ (λ scene. Seeks scene c.args.blamed.now (t ∷ []) c.args.progress.now c.take.new.self)
    (λ scene r. seeks-one scene c.args.blamed.now t c.in-Some.tried.now c.args.progress.now c.take.new.self (right scene r) c.in_ok-take.ensures.takes)

pub returns-clause-ok : goal.returns-clause-ok
returns-clause-ok g c =
    let t : Try = record { dir = c.args.dir.now; name = c.args.name.now } in
    let right = rw c.in-Ok.ensures.cases.0 at c.in_ok-tried.ensures.right in
    rw c.in_ok-keep_try.ensures
    (scans-say _ _ _ _ _ _ (λ scene. IsTried scene t c.in_ok-tried.tried) (λ scene. Seeks scene c.args.blamed.now (t ∷ []) c.args.progress.now c.take-2.new.self)
    (scans-sees _ _ _ _ _ _ Always (λ scene. IsTried scene t c.in_ok-tried.tried) c.in_ok-tried.ensures.ok right)
    (λ scene is. seeks-one scene c.args.blamed.now t c.in_ok-tried.tried c.args.progress.now c.take-2.new.self is c.in_ok-take-2.ensures.takes))

pub returns-in_err-take-clause-err : goal.returns-in_err-take-clause-err
returns-in_err-take-clause-err g c =
    let p = err_from_is_err_and c.from_residual.result c.from_residual.ensures.1 in
    rw (p.1, p.2) (rw c.in_err-take.ensures.err (ends-at-once _ _ _ _))

pub returns-in_default-clause-known : goal.returns-in_default-clause-known
returns-in_default-clause-known g c = λ _ all. all

pub returns-in-Some-clause-known : goal.returns-in-Some-clause-known
returns-in-Some-clause-known g c =
    let t : Try = record { dir = c.args.dir.now; name = c.args.name.now } in
    let right = rw c.in-Ok.ensures.cases.0 at c.in-Some.ensures in
    taken-known c.args.sights.now c.args.blamed.now t c.in-Some.tried.now c.args.progress.now c.take.new.self right c.in_ok-take.ensures.takes

pub returns-clause-known : goal.returns-clause-known
returns-clause-known g c =
    let t : Try = record { dir = c.args.dir.now; name = c.args.name.now } in
    let right = rw c.in-Ok.ensures.cases.0 at c.in_ok-tried.ensures.right in
    let sought = c.in_ok-tried.ensures.ok in
    rw c.in_ok-keep_try.ensures
    (λ k all. taken-known c.seek.new.sights c.args.blamed.now t c.in_ok-tried.tried c.args.progress.now c.take-2.new.self right c.in_ok-take-2.ensures.takes
    (known-kept c.args.sights.now c.seek.new.sights sought.answers c.args.blamed.now sought.notes k) (all-kept c.args.sights.now c.seek.new.sights sought.answers c.args.progress.now.hard sought.notes all))
