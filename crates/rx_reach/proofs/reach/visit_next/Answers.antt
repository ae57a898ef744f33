use Rattle.std.proofs.Common.{◌≡◌, true, false, refl}
use Rattle.rx_world.specs.Sources.{is_file}
use Rattle.rx_reach.specs.declared.progress.Progress.{Progress}
use Rattle.rx_reach.specs.Explored.{Explored, GoesOn}
use Rattle.rx_reach.specs.Visits.{VisitsAt}
use Rattle.rx_reach.proofs.NextLemmas.{none-apart, none-next, popped-apart, popped-gone, popped-new, visits-next}
use Rattle.rx_reach.proofs.ScanLemmas.{scans-none, scans-say}
use Rattle.rx_reach.proofs.reach.visit_next.Goals as goal

pub returns-in_ok-visit-in-Some-clause-ok : goal.returns-in_ok-visit-in-Some-clause-ok
returns-in_ok-visit-in-Some-clause-ok g c =
    let p = c.args.progress.now in
    let mid : Progress = record { waiting = c.pop_first.new.self; read = p.read; hard = p.hard; left = p.left } in
    let path = c.in-Some.path in
    let after = c.visit.new.progress in
    scans-say _ _ _ _ _ _
    (λ scene. is_file (scene.look path) ≡ true → VisitsAt scene c.args.search.now path mid after)
    (λ scene. Explored scene c.args.search.now p → GoesOn scene c.args.search.now true p after)
    c.in_ok-visit-in-Some.ensures.ok
    (λ scene visits e. visits-next scene c.args.search.now path p mid after c.in-Some.ensures.taken refl refl refl visits e)

pub returns-in_ok-visit-in-Some-clause-apart : goal.returns-in_ok-visit-in-Some-clause-apart
returns-in_ok-visit-in-Some-clause-apart g c =
    let p = c.args.progress.now in
    let mid : Progress = record { waiting = c.pop_first.new.self; read = p.read; hard = p.hard; left = p.left } in
    c.in_ok-visit-in-Some.ensures.apart (popped-apart c.in-Some.path p mid c.in-Some.ensures.taken refl c.requires) (popped-gone p.waiting c.in-Some.path mid.waiting c.in-Some.ensures.taken c.in-Some.ensures.sorted)

pub visit-requires : goal.visit-requires
visit-requires g c = popped-new c.args.progress.now c.in-Some.path c.pop_first.new.self c.in-Some.ensures.taken c.requires

pub returns-in-None-clause-ok : goal.returns-in-None-clause-ok
returns-in-None-clause-ok g c =
    let p = c.args.progress.now in
    let mid : Progress = record { waiting = c.pop_first.new.self; read = p.read; hard = p.hard; left = p.left } in
    scans-none _ _ _ _ (λ scene. Explored scene c.args.search.now p → GoesOn scene c.args.search.now false p mid) (λ scene _. none-next scene c.args.search.now p c.pop_first.new.self c.in-None.ensures.taken.0 c.in-None.ensures.taken.1)

pub returns-in-None-clause-apart : goal.returns-in-None-clause-apart
returns-in-None-clause-apart g c = none-apart c.args.progress.now c.pop_first.new.self c.in-None.ensures.taken.1
