use Rattle.std.proofs.Common.{◌≡◌, ◌+◌, List, arith, length, subst, true, refl, sym, ap, ◌∙◌}
use Rattle.std.proofs.lemmas.Result.{err_from_is_err_and}
use Rattle.rx_world.specs.Sources.{is_file}
use Rattle.rx_world.specs.declared.input_files.InputFile.{InputFile}
use Rattle.rx_reach.specs.declared.progress.Progress.{Progress}
use Rattle.rx_reach.specs.Explored.{AreSeen, HaveDigests}
use Rattle.rx_reach.specs.Progress.{Explores}
use Rattle.rx_reach.specs.Visits.{VisitsAt}
use Rattle.rx_reach.proofs.KnownLemmas.{all-kept}
use Rattle.rx_reach.proofs.ScanLemmas.{ends-join, ends-memory, scans-join}
use Rattle.rx_reach.proofs.SightLemmas.{notes-keep}
use Rattle.rx_reach.proofs.VisitedLemmas.{copied-digest, file-is, seen-file, seen-kept, visited, visited-apart, visited-digests, visited-seen}
use Rattle.rx_reach.proofs.visits.visit.Goals as goal

pub returns-in_err-try_clone-in-Some-clause-err : goal.returns-in_err-try_clone-in-Some-clause-err
returns-in_err-try_clone-in-Some-clause-err g c =
    let p = err_from_is_err_and c.from_residual-in_err-try_clone-in-Some.result c.from_residual-in_err-try_clone-in-Some.ensures.1 in
    rw (p.1, p.2) (ends-memory _ _ _ _ _ _ _ c.in_ok-found.ensures.ok)

pub returns-in_err-insert-in-Some-clause-err : goal.returns-in_err-insert-in-Some-clause-err
returns-in_err-insert-in-Some-clause-err g c =
    let p = err_from_is_err_and c.from_residual-in_err-insert-in-Some.result c.from_residual-in_err-insert-in-Some.ensures.1 in
    rw (p.1, p.2) (ends-memory _ _ _ _ _ _ _ c.in_ok-found.ensures.ok)

pub returns-in_err-explore-in-Some-clause-err : goal.returns-in_err-explore-in-Some-clause-err
returns-in_err-explore-in-Some-clause-err g c =
    let p = err_from_is_err_and c.from_residual-in_err-explore-in-Some.result c.from_residual-in_err-explore-in-Some.ensures.1 in
    rw (p.1, p.2) (ends-join _ _ _ _ _ _ _ _ _ c.in_ok-found.ensures.ok c.in_err-explore-in-Some.ensures.err)

pub returns-in-Some-clause-ok : goal.returns-in-Some-clause-ok
returns-in-Some-clause-ok g c =
    let p = c.args.progress.now in
    let mid : Progress = record { waiting = p.waiting; read = c.insert.new.self; hard = p.hard; left = p.left } in
    let copy = c.in_ok-try_clone-in-Some.field-0 in
    let found = c.in_ok-found.found in
    let kept = c.in-Some.file in
    let file : InputFile = record { path = copy; digest = kept.digest; stamp = kept.stamp; executable = kept.executable } in
    scans-join _ _ _ _ _ _ _ _
    (λ scene. (found.0 ≡ scene.look c.args.path.now) × (found.1 ≡ scene.text c.args.path.now))
    (λ scene. scene.text c.args.path.now ≡ c.as_slice-text.result.now → Explores scene c.args.search.now c.args.path.now mid c.explore.new.progress)
    (λ scene. is_file (scene.look c.args.path.now) ≡ true → VisitsAt scene c.args.search.now c.args.path.now p c.explore.new.progress)
    c.in_ok-found.ensures.ok c.in_ok-explore-in-Some.ensures.ok
    (λ scene r e _.
    visited scene c.args.search.now c.args.path.now file p mid c.explore.new.progress c.in_ok-try_clone-in-Some.ensures
    (file-is scene found.0 kept.stamp kept.executable kept.digest c.args.path.now copy c.in_ok-try_clone-in-Some.ensures c.in-Some.ensures.look r.0)
    c.in_ok-insert-in-Some.ensures.added c.in_ok-insert-in-Some.ensures.len refl refl refl c.in_ok-explore-in-Some.ensures.stays.read_is
    (e (sym r.1 ∙ sym c.as_slice-text.ensures)))

pub returns-in-Some-clause-apart : goal.returns-in-Some-clause-apart
returns-in-Some-clause-apart g c =
    let p = c.args.progress.now in
    let mid : Progress = record { waiting = p.waiting; read = c.insert.new.self; hard = p.hard; left = p.left } in
    let kept = c.in-Some.file in
    let file : InputFile = record { path = c.in_ok-try_clone-in-Some.field-0; digest = kept.digest; stamp = kept.stamp; executable = kept.executable } in
    λ a gone. visited-apart c.args.path.now file p mid c.explore.new.progress c.in_ok-try_clone-in-Some.ensures c.in_ok-insert-in-Some.ensures.added refl c.in_ok-explore-in-Some.ensures.stays a gone

pub returns-in-Some-clause-count : goal.returns-in-Some-clause-count
returns-in-Some-clause-count g c =
    let e : length c.explore.new.progress.read ≡ length c.args.progress.now.read + 1 = ap (λ (xs : List InputFile). length xs) c.in_ok-explore-in-Some.ensures.stays.read_is ∙ c.in_ok-insert-in-Some.ensures.len in
    omega (arith, e)

pub returns-in-Some-clause-honest : goal.returns-in-Some-clause-honest
returns-in-Some-clause-honest g c =
    let copy = c.in_ok-try_clone-in-Some.field-0 in
    let kept = c.in-Some.file in
    let file : InputFile = record { path = copy; digest = kept.digest; stamp = kept.stamp; executable = kept.executable } in
    λ honest all.
    subst (HaveDigests g.W.World.content) (sym c.in_ok-explore-in-Some.ensures.stays.read_is)
    (visited-digests g.W.World.content file c.args.progress.now.read c.insert.new.self c.in_ok-insert-in-Some.ensures.added
    (copied-digest g.W.World.content c.args.path.now copy kept.stamp kept.digest c.in_ok-try_clone-in-Some.ensures (c.in-Some.ensures.honest honest))
    all)

pub file_from-requires : goal.file_from-requires
file_from-requires g c = λ honest. rw c.as_slice-text.ensures (c.in_ok-found.ensures.honest honest)

pub returns-in-Some-clause-seen : goal.returns-in-Some-clause-seen
returns-in-Some-clause-seen g c =
    let copy = c.in_ok-try_clone-in-Some.field-0 in
    let kept = c.in-Some.file in
    let file : InputFile = record { path = copy; digest = kept.digest; stamp = kept.stamp; executable = kept.executable } in
    let first = c.in_ok-found.ensures.ok in
    let more = c.in_ok-explore-in-Some.ensures.ok in
    λ all.
    subst (AreSeen c.explore.new.sights) (sym c.in_ok-explore-in-Some.ensures.stays.read_is)
    (visited-seen c.explore.new.sights file c.args.progress.now.read c.insert.new.self c.in_ok-insert-in-Some.ensures.added
    (notes-keep _ _ more.answers copy _ more.notes (seen-file c.read_file.new.sights c.in_ok-found.found.0 kept.stamp kept.executable c.args.path.now copy c.in_ok-try_clone-in-Some.ensures c.in-Some.ensures.look c.in_ok-found.ensures.seen))
    (seen-kept _ _ more.answers _ more.notes (seen-kept _ _ first.answers _ first.notes all)))

pub returns-clause-seen : goal.returns-clause-seen
returns-clause-seen g c = λ all. seen-kept _ _ c.in_ok-found.ensures.ok.answers _ c.in_ok-found.ensures.ok.notes all

pub returns-in-Some-clause-known : goal.returns-in-Some-clause-known
returns-in-Some-clause-known g c =
    let first = c.in_ok-found.ensures.ok in
    λ all. c.in_ok-explore-in-Some.ensures.known (c.in_ok-found.found.0, c.in_ok-found.ensures.seen) (all-kept c.args.sights.now c.read_file.new.sights first.answers c.args.progress.now.hard first.notes all)

pub returns-clause-known : goal.returns-clause-known
returns-clause-known g c = λ all. all-kept c.args.sights.now c.read_file.new.sights c.in_ok-found.ensures.ok.answers c.args.progress.now.hard c.in_ok-found.ensures.ok.notes all
