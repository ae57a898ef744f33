use Rattle.std.proofs.Common.{◌≡◌, map}
use Rattle.std.specs.Arc.{arc_value}
use Rattle.std.specs.Prelude.{flat_map}
use Rattle.rx_lex.specs.Found.{name_view}
use Rattle.rx_reach.specs.Progress.{Explores, Seeks}
use Rattle.rx_reach.specs.Searches.{tries_of}
use Rattle.rx_reach.proofs.KnownLemmas.{marked-known}
use Rattle.rx_reach.proofs.ScanLemmas.{ends-at-once, scans-say}
use Rattle.std.proofs.lemmas.Result.{err_from_is_err_and}
use Rattle.rx_reach.proofs.SeekLemmas.{stays-join}
use Rattle.rx_reach.proofs.VisitLemmas.{explored, marked-stays}
use Rattle.rx_reach.proofs.visits.explore.Goals as goal

pub returns-clause-ok : goal.returns-clause-ok
returns-clause-ok g c =
    scans-say _ _ _ _ _ _
    (λ scene. Seeks scene c.args.path.now (flat_map (tries_of c.args.search.now c.args.path.now) (map name_view (arc_value c.in_ok-lexed.lexed).found.list.items)) c.mark_hidden.new.progress c.seek_includes.new.progress)
    (λ scene. scene.text c.args.path.now ≡ c.args.text.now → Explores scene c.args.search.now c.args.path.now c.args.progress.now c.seek_includes.new.progress)
    (rw (c.as_slice-list.ensures.value, c.deref.ensures) at c.in_ok-seek_includes.ensures.ok)
    (λ scene a e. explored scene c.args.search.now c.args.path.now c.args.text.now (arc_value c.in_ok-lexed.lexed).found c.is_hidden.result c.args.progress.now c.mark_hidden.new.progress c.seek_includes.new.progress c.in_ok-lexed.ensures (rw c.deref.ensures at c.is_hidden.ensures) c.in_ok-mark_hidden.ensures.ok a e)

pub returns-in_err-lexed-clause-err : goal.returns-in_err-lexed-clause-err
returns-in_err-lexed-clause-err g c =
    let p = err_from_is_err_and c.from_residual.result c.from_residual.ensures.1 in
    rw (p.1, p.2) (ends-at-once _ _ _ _)

pub returns-in_err-mark_hidden-clause-err : goal.returns-in_err-mark_hidden-clause-err
returns-in_err-mark_hidden-clause-err g c =
    let p = err_from_is_err_and c.from_residual-in_err-mark_hidden.result c.from_residual-in_err-mark_hidden.ensures.1 in
    rw (p.1, p.2) (rw c.in_err-mark_hidden.ensures.err (ends-at-once _ _ _ _))

pub returns-in_err-above-clause-err : goal.returns-in_err-above-clause-err
returns-in_err-above-clause-err g c =
    let p = err_from_is_err_and c.from_residual-in_err-above.result c.from_residual-in_err-above.ensures.1 in
    rw (p.1, p.2) (ends-at-once _ _ _ _)

pub returns-clause-stays : goal.returns-clause-stays
returns-clause-stays g c =
    stays-join c.args.progress.now c.mark_hidden.new.progress c.seek_includes.new.progress
    (marked-stays c.args.path.now c.is_hidden.result c.args.progress.now c.mark_hidden.new.progress c.in_ok-mark_hidden.ensures.ok) c.in_ok-seek_includes.ensures.stays

pub returns-clause-known : goal.returns-clause-known
returns-clause-known g c =
    λ k all. c.in_ok-seek_includes.ensures.known k (marked-known c.args.sights.now c.args.path.now c.is_hidden.result c.args.progress.now c.mark_hidden.new.progress c.in_ok-mark_hidden.ensures.ok k all)
